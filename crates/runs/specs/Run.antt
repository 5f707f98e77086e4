-- Runs of enter calls, and conditions on the sheet before an edit ("The run" of document 01).
use Rattle.std.specs.Prelude.{◌≡◌, List, [], ◌∷◌, ◌++◌, ℕ, T, length}
use Rattle.answer.specs.Asked.{passed, after}
use Rattle.logic.specs.Syntax.{Expr, rule, Edit}
use Rattle.logic.specs.Meaning.{hold_all}
use Rattle.bitset.specs.Words.{Bytes}
use Rattle.sheet.specs.Sheet.{graph_of}
use Rattle.sheet.specs.Questions.{Sound}
use Rattle.text.specs.Reading.{text_limits}
use Rattle.text.specs.Questions.{ask_book, ask_edit}
use Rattle.apply.specs.Apply.{after_steps, applied_sheet}
use Rattle.runs.specs.Enter.{enter_answer, enter_sheet}
use Rattle.runs.specs.Clerk.{Fed, Line}

-- A sheet keeps a book when it is sound, the book is within the limits for the sheet's n, and each rule holds on the sheet.
pub record Keeps (book sheet : List ℕ) : Type 0 where
  pub sound : Sound sheet
  pub rules : List (Expr rule)
  pub book_read : ask_book (text_limits (graph_of sheet).n) book ≡ passed rules
  pub hold : T (hold_all (graph_of sheet) rules)

-- A call of a run: an edit and a scratch, each of any bytes and length.
pub record Call : Type 0 where
  pub edit : List ℕ
  pub scratch : List ℕ

-- What the clerk is fed for it.
abbrev pub fed : Call → Fed
fed c = record { edit = c.edit; room = length c.scratch }

-- One call of enter.
abbrev pub enter_line : (book sheet : List ℕ) → Call → Line
enter_line book sheet c =
    record {
      edit = c.edit;
      answer = enter_answer sheet book c.edit (length c.scratch);
      sheet = enter_sheet sheet book c.edit (length c.scratch);
    }

-- The log of a run: each call has the sheet as the previous call left it.
unfoldable pub log : (book sheet : List ℕ) → List Call → List Line
log book sheet [] = []
log book sheet (c ∷ cs) = enter_line book sheet c ∷ log book (enter_line book sheet c).sheet cs

-- An edit is entered when enter answers done. The entered edits after one more line of a log.
abbrev pub entered : List (List ℕ) → Line → List (List ℕ)
entered edits l = after l.answer (λ u. edits ++ (l.edit ∷ [])) edits

-- The entered edits, in their order, after each line of a log.
unfoldable pub entered_after_each : List (List ℕ) → List Line → List (List (List ℕ))
entered_after_each edits [] = []
entered_after_each edits (l ∷ ls) = entered edits l ∷ entered_after_each (entered edits l) ls

-- What edits leave when their steps are made in order, each edit carried out by itself.
unfoldable pub made_in_order : List ℕ → List (List ℕ) → List ℕ
made_in_order sheet [] = sheet
made_in_order sheet (edit ∷ edits) = made_in_order (applied_sheet sheet edit) edits

-- A sheet, a book and an edit within the limits, with every node number on the sheet; and what book and edit say.
pub record Given (book edit sheet : List ℕ) : Type 0 where
  pub are_bytes : Bytes sheet
  pub sound : Sound sheet
  pub rules : List (Expr rule)
  pub book_read : ask_book (text_limits (graph_of sheet).n) book ≡ passed rules
  pub steps : Edit
  pub edit_read : ask_edit (text_limits (graph_of sheet).n) edit ≡ passed steps

-- A condition on the sheet before: any set of sound sheets whose n is above every node number in book and edit.
pub record Condition (book edit : List ℕ) : Type 1 where
  pub has : List ℕ → Type 0
  pub given : (sheet : List ℕ) → has sheet → Given book edit sheet

-- It ensures the rules after when from each of its sheets the edit's steps leave one that keeps the book.
abbrev pub Ensures : {book edit : List ℕ} → Condition book edit → Type 0
Ensures {book} {edit} C = (sheet : List ℕ) (c : C.has sheet) → Keeps book (after_steps (C.given sheet c).steps sheet)
