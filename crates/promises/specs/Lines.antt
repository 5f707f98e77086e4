-- The lines that `enter` and `replay` print ("The program `enter`" of document 01, item 4 of document 02): a number in two digits and a place in five.
-- No answer has more digits, so a line gives its answer in full. proofs/Lines proves it.
use Rattle.std.specs.Prelude.{◌≡◌, List, [], ◌∷◌, ℕ, ◌≤◌}
use Rattle.answer.specs.Asked.{Asked, asked_number, asked_place}
use Rattle.sheet.specs.Sheet.{store}
use Rattle.text.specs.Marked.{sheet_t, B}
use Rattle.runs.specs.Enter.{enter_answer}
use Rattle.printed.specs.AnswerLine.{early_line, number_on, place_on}
use Rattle.printed.specs.Printed.{scratch_bytes, printed_line}
use Rattle.log_blocks.specs.Log.{read_log}
use Rattle.log_blocks.specs.Replay.{stop_line}

-- What a line says about an answer: its digits are the answer's number and place.
pub record Says (line : List ℕ) (answer : Asked (Unit {0})) : Type 0 where
  pub number : number_on line ≡ asked_number answer
  pub place : place_on line ≡ asked_place answer

pub record Lines : Type 0 where
  -- Whatever enter is given, bytes of any number and a scratch of any length, its number is at most 41 and its place at most 16,384.
  pub enter_number : (sheet book edit : List ℕ) (room : ℕ) → asked_number (enter_answer sheet book edit room) ≤ 41
  pub enter_place : (sheet book edit : List ℕ) (room : ℕ) → asked_place (enter_answer sheet book edit room) ≤ 16384
  -- The line that a program prints for it gives its answer.
  pub line_says : (sheet book edit : List ℕ) → Says (printed_line sheet book edit) (enter_answer sheet book edit scratch_bytes)
  -- Equal lines mean equal answers; done and refused differ.
  pub line_tells : (sheet book edit sheet' book' edit' : List ℕ) → printed_line sheet book edit ≡ printed_line sheet' book' edit'
      → enter_answer sheet book edit scratch_bytes ≡ enter_answer sheet' book' edit' scratch_bytes
  -- None of them is the line of an input that ends early.
  pub not_early : (sheet book edit : List ℕ) → printed_line sheet book edit ≡ early_line → ⊥
  -- Whatever log is read, its number is at most 53 and its place at most 65,535.
  pub log_number : (log : List ℕ) → asked_number (read_log log).ending ≤ 53
  pub log_place : (log : List ℕ) → asked_place (read_log log).ending ≤ 65535
  -- The line with which a replay stops says them, and no line is 0 and 0; equal lines, or none, mean equal ends.
  pub stop_says : (log : List ℕ) → Says (stop_line (read_log log).ending) (read_log log).ending
  pub stop_tells : (log log' : List ℕ) → stop_line (read_log log).ending ≡ stop_line (read_log log').ending → (read_log log).ending ≡ (read_log log').ending
  -- It is never the line of an edit, nor that of an input that ends early.
  pub stop_apart : (log sheet book edit : List ℕ) → stop_line (read_log log).ending ≡ printed_line sheet book edit → ⊥
  pub stop_not_early : (log : List ℕ) → stop_line (read_log log).ending ≡ early_line → ⊥
  -- Example 8 of document 01: "enter prints `41 00000`".
  pub example_8 : printed_line (store sheet_t) B (0x32 ∷ 0x01 ∷ 0x04 ∷ 0x02 ∷ 0x30 ∷ []) ≡ 0x34 ∷ 0x31 ∷ 0x20 ∷ 0x30 ∷ 0x30 ∷ 0x30 ∷ 0x30 ∷ 0x30 ∷ 0x0A ∷ []
