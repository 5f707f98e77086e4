-- What the call of item 11 asks after the carried rule's own questions: 59 for each step in order, then 60 for the text sent.
use Rattle.std.specs.Prelude.{◌≡◌, true, false, List, [], ◌∷◌, ℕ, suc, ◌+◌, ◌*◌, eqb}
use Rattle.answer.specs.Asked.{Asked, passed, refused, ◌>>=◌}
use Rattle.logic.specs.Syntax.{Expr, rule}
use Rattle.logic.specs.Limits.{max_nodes}
use Rattle.text.specs.Code.{code}
use Rattle.text.specs.Reading.{carried_limits_def}
use Rattle.text.specs.Questions.{ask_rule}
use Rattle.shortening.specs.Laws.{Made, made, unfit, Step, Chain}
use Rattle.shortening.specs.Checking.{map_made, make_step}

-- "A step is a two-byte little-endian offset and a law's number in one byte"
abbrev pub step_of : ℕ → ℕ → ℕ → Step
step_of a b n = record { offset = a + 256 * b; law = n }

-- The steps in a text, if none is cut.
unfoldable pub steps_of : List ℕ → Made (List Step)
steps_of [] = made []
steps_of (a ∷ []) = unfit
steps_of (a ∷ b ∷ []) = unfit
steps_of (a ∷ b ∷ n ∷ t) = map_made (step_of a b n ∷◌) (steps_of t)

-- "59 when a step is cut, unknown or doesn't fit, place the step"
unfoldable pub ask_steps : List ℕ → ℕ → Expr rule → Asked (Expr rule)
ask_steps [] i K = passed K
ask_steps (a ∷ []) i K = refused 59 i
ask_steps (a ∷ b ∷ []) i K = refused 59 i
ask_steps (a ∷ b ∷ n ∷ t) i K = elim (make_step n K (a + 256 * b)) [ made M ↦ ask_steps t (suc i) M | unfit ↦ refused 59 i ]

-- "60 when the last text differs from the one sent, place the first differing byte or the shorter length"; p is the place of both first bytes.
unfoldable pub ask_same : List ℕ → List ℕ → ℕ → Asked (Unit {0})
ask_same [] [] p = passed tt
ask_same [] (y ∷ ys) p = refused 60 p
ask_same (x ∷ xs) [] p = refused 60 p
ask_same (x ∷ xs) (y ∷ ys) p = elim (eqb x y) [ true ↦ ask_same xs ys (suc p) | false ↦ refused 60 p ]

-- First the steps on a rule, then the text sent.
unfoldable pub ask_chain : Expr rule → (steps sent : List ℕ) → Asked (Unit {0})
ask_chain K steps sent = do
  L ← ask_steps steps 0 K
  ask_same (code L) sent 0

-- "in that order after the carried rule's own questions: 11 to 16 for one rule, with 16,384 bytes, 255 levels and n as 60"
unfoldable pub ask_check : (rule steps sent : List ℕ) → Asked (Unit {0})
ask_check carried steps sent = do
  K ← ask_rule (carried_limits_def max_nodes) carried
  ask_chain K steps sent

-- The steps' text is a chain of fitting steps from K to a rule whose text is the one sent.
pub record Accepted (K : Expr rule) (steps sent : List ℕ) : Type 0 where
  pub chain : List Step
  pub read : steps_of steps ≡ made chain
  pub last : Expr rule
  pub leads : Chain chain K last
  pub same : code last ≡ sent

-- What passing requires: the carried text is one rule, and the steps lead from it to the text sent.
pub record CheckPasses (carried steps sent : List ℕ) : Type 0 where
  pub first : Expr rule
  pub read : ask_rule (carried_limits_def max_nodes) carried ≡ passed first
  pub accepted : Accepted first steps sent
