-- What the program `enter` prints, given a whole input: the line of the answer, then the sheet ("The program `enter`" of document 01).
use Rattle.std.specs.Prelude.{List, ℕ}
use Rattle.text.specs.Reading.{longest_carried}
use Rattle.runs.specs.Enter.{enter_answer, enter_sheet}
use Rattle.printed.specs.AnswerLine.{asked_line}

-- The length of its scratch: the most bytes of a carried book.
abbrev pub scratch_bytes : ℕ
scratch_bytes = longest_carried

abbrev pub printed_line : (sheet book edit : List ℕ) → List ℕ
printed_line sheet book edit = asked_line (enter_answer sheet book edit scratch_bytes)

abbrev pub printed_sheet : (sheet book edit : List ℕ) → List ℕ
printed_sheet sheet book edit = enter_sheet sheet book edit scratch_bytes
