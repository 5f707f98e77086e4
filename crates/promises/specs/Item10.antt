-- Item 10 of document 02: a shorter scratch. proofs/Item10 proves it.
use Rattle.std.specs.Prelude.{◌≡◌, ◌≢◌, List, [], ◌∷◌, ◌++◌, ℕ, length, take, drop}
use Rattle.answer.specs.Asked.{passed, refused}
use Rattle.logic.specs.Syntax.{Expr, rule}
use Rattle.text.specs.Code.{code}
use Rattle.text.specs.Reading.{longest_carried}
use Rattle.runs.specs.Scratch.{longest_rule_def}
use Rattle.runs.specs.Enter.{StepsAndCarried, ask_before41, enter_answer, enter_sheet, enter_scratch}
use Rattle.runs.specs.Leaves.{Leaves}
use Rattle.runs.specs.Unmoved.{Unmoved}

-- The carried rules up to `last` were written into the scratch, each at its start over the previous one: what is left there.
pub record Written (sheet book edit scratch : List ℕ) : Type 0 where
  pub what : StepsAndCarried
  pub passes : ask_before41 sheet book edit (length scratch) ≡ passed what
  pub before : List (Expr rule)
  pub last : Expr rule
  pub unwritten : List (Expr rule)
  pub rules : what.carried ≡ before ++ (last ∷ unwritten)
  -- The last rule written stands at the start,
  pub at_start : take (length (code last)) (enter_scratch sheet book edit scratch) ≡ code last
  -- and from the length of the longest written rule on, the bytes are as they were.
  pub rest : drop (longest_rule_def (before ++ (last ∷ []))) (enter_scratch sheet book edit scratch) ≡ drop (longest_rule_def (before ++ (last ∷ []))) scratch

pub record Item10 : Type 0 where
  -- "Where it did not give 33, enter is to give the same number and place", and the same sheet; and what became of its 33.
  pub unmoved : Unmoved
  -- With a scratch that does not get 33, enter gives the answer and leaves the sheet that it would with 16,384 bytes.
  pub any_scratch : (sheet book edit : List ℕ) (room : ℕ) → ((p : ℕ) → enter_answer sheet book edit room ≢ refused 33 p)
      → (enter_answer sheet book edit room ≡ enter_answer sheet book edit longest_carried) × (enter_sheet sheet book edit room ≡ enter_sheet sheet book edit longest_carried)
  -- "After done or 41 the scratch is what those writings leave, in demand 1 too"; after every other refusal it is as it was, and after every refusal
  -- the sheet is as it was.
  pub leaves : Leaves
  -- What those writings leave. After 41 the last rule written is the one at the answer's place, which is the first broken one.
  pub after_41 : (sheet book edit scratch : List ℕ) (p : ℕ) → enter_answer sheet book edit (length scratch) ≡ refused 41 p
      → (w : Written sheet book edit scratch) × (length w.before ≡ p)
  -- After done it is the last rule of the book; none is left unwritten.
  pub after_done : (sheet book edit scratch : List ℕ) → book ≢ [] → enter_answer sheet book edit (length scratch) ≡ passed tt
      → (w : Written sheet book edit scratch) × (w.unwritten ≡ [])
  -- An empty book leaves the scratch as it was.
  pub empty_book : (sheet edit scratch : List ℕ) → enter_scratch sheet [] edit scratch ≡ scratch
  -- Whatever the answer, the scratch is as long as before.
  pub same_length : (sheet book edit scratch : List ℕ) → length (enter_scratch sheet book edit scratch) ≡ length scratch
