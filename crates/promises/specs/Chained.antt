-- Edits that join (document 02, item 9), on the bytes of the calls. proofs/Chained proves it.
use Rattle.std.specs.Prelude.{◌≡◌, ◌↔◌, List, ◌++◌, ℕ, ◌≤◌, length}
use Rattle.answer.specs.Asked.{passed, outcome}
use Rattle.answer.specs.Outputs.{written_at_start}
use Rattle.logic.specs.Syntax.{Expr, rule, Edit}
use Rattle.logic.specs.Carry.{carried_book}
use Rattle.logic.specs.Limits.{max_nodes}
use Rattle.text.specs.Code.{book_code, book_levels}
use Rattle.text.specs.Reading.{longest_text, deepest_text, text_limits}
use Rattle.text.specs.Questions.{ask_book, ask_edit}
use Rattle.carry.specs.Carrying.{carry_answer, carry_output}
use Rattle.apply.specs.Apply.{ask_apply, applied_sheet}
use Rattle.runs.specs.Enter.{ask_before41, enter_answer, enter_sheet}
use Rattle.bitset.specs.Words.{Bytes}
use Rattle.runs.specs.Run.{Keeps}
use Rattle.join_edits.specs.Chain.{without_last}

-- An edit passes its questions for n nodes; it is carried out without a refusal.
abbrev pub Passes : (n : ℕ) → List ℕ → Type 0
Passes n edit = outcome (ask_edit (text_limits n) edit) ≡ passed tt

abbrev pub Applies : (sheet edit : List ℕ) → Type 0
Applies sheet edit = outcome (ask_apply sheet edit) ≡ passed tt

-- The text of a book carried through Q, which keeps a book's own limits: 4,096 bytes and 32 levels. (32 rules and the ranges follow.)
pub record CarriedThrough (book q text : List ℕ) : Type 0 where
  pub rules : List (Expr rule)
  pub book_read : ask_book (text_limits max_nodes) book ≡ passed rules
  pub Q : Edit
  pub q_read : ask_edit (text_limits max_nodes) q ≡ passed Q
  pub is : text ≡ book_code (carried_book Q rules)
  pub short : length text ≤ longest_text
  pub shallow : book_levels (carried_book Q rules) ≤ deepest_text

-- It is what carry back writes, where that fits.
pub record IsCarried (book q text : List ℕ) : Type 0 where
  pub answer : (room : ℕ) → length text ≤ room → carry_answer book q room ≡ passed (length text)
  pub output : (output : List ℕ) → length text ≤ length output → carry_output book q output ≡ written_at_start text output

-- For edits that join, and the joined bytes.
pub record Chained (p q joined : List ℕ) : Type 0 where
  -- Q stands where P's end stood.
  pub bytes : joined ≡ without_last p ++ q
  -- The joined edit passes the questions of an edit: with n as 60, and with the n of a sheet exactly where both edits do.
  pub passes : Passes max_nodes joined
  pub passes_when : (n : ℕ) → n ≤ max_nodes → Passes n joined ↔ (Passes n p × Passes n q)
  -- "Carrying a book back through the joined edit must give the same bytes as carrying it through Q and that result through P,
  -- conditions included": the same answer, the same output, whatever its length.
  pub carried_text : (book text : List ℕ) → CarriedThrough book q text → IsCarried book q text
  pub same_answer : (book text : List ℕ) → CarriedThrough book q text → (room : ℕ) → carry_answer book joined room ≡ carry_answer text p room
  pub same_output : (book text : List ℕ) → CarriedThrough book q text → (output : List ℕ) → carry_output book joined output ≡ carry_output text p output
  -- "The joined edit must leave the sheet that the two, carried out one after the other, leave."
  pub applies_when : (sheet : List ℕ) → Bytes sheet → Applies sheet joined ↔ (Applies sheet p × Applies (applied_sheet sheet p) q)
  pub applied : (sheet : List ℕ) → Bytes sheet → Applies sheet joined → applied_sheet sheet joined ≡ applied_sheet (applied_sheet sheet p) q
  -- So does enter, when the edit is entered. Where 1 to 33 pass, that is exactly when the sheet that the two leave keeps the book;
  pub entered_leaves : (sheet book : List ℕ) (room : ℕ) → Bytes sheet → enter_answer sheet book joined room ≡ passed tt
      → enter_sheet sheet book joined room ≡ applied_sheet (applied_sheet sheet p) q
  pub entered_when : (sheet book : List ℕ) (room : ℕ) → Bytes sheet → outcome (ask_before41 sheet book joined room) ≡ passed tt
      → (enter_answer sheet book joined room ≡ passed tt) ↔ Keeps book (applied_sheet (applied_sheet sheet p) q)
  -- so it is where both edits are entered, one after the other.
  pub one_by_one : (sheet book : List ℕ) (room₁ room₂ room : ℕ) → Bytes sheet
      → enter_answer sheet book p room₁ ≡ passed tt → enter_answer (enter_sheet sheet book p room₁) book q room₂ ≡ passed tt
      → outcome (ask_before41 sheet book joined room) ≡ passed tt
      → (enter_answer sheet book joined room ≡ passed tt) × (enter_sheet sheet book joined room ≡ enter_sheet (enter_sheet sheet book p room₁) book q room₂)
