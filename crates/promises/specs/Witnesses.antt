-- What a witness promises (zamiathen_witness). proofs/Witnesses proves it.
use Rattle.std.specs.Prelude.{◌≡◌, ◌↔◌, ◌⊎◌, true, false, List, ◌∷◌, ◌++◌, ℕ, ◌≤◌, length, take}
use Rattle.answer.specs.Asked.{passed, refused}
use Rattle.logic.specs.Syntax.{Expr, rule, Edit}
use Rattle.logic.specs.Graph.{Graph}
use Rattle.logic.specs.Meaning.{value}
use Rattle.logic.specs.Steps.{run}
use Rattle.logic.specs.Carry.{carry}
use Rattle.logic.specs.Witness.{breaks}
use Rattle.sheet.specs.Sheet.{graph_of}
use Rattle.text.specs.Code.{code}
use Rattle.text.specs.Reading.{carried_limits_def, longest_carried}
use Rattle.text.specs.Questions.{ask_first}
use Rattle.apply.specs.Apply.{after_steps}
use Rattle.runs.specs.Enter.{enter_answer, enter_scratch}
use Rattle.runs.specs.Run.{Given}
use Rattle.witness.specs.Witnessed.{witness_kind, ask_witness}
use Rattle.witness.specs.Told.{breaking_part, Told}
use Rattle.witness.specs.declared.Witness.{Witness}

-- The answer was this witness, for the rule K.
pub record Answered (sheet text : List ℕ) (K : Expr rule) (w : Witness) : Type 0 where
  pub first : ask_first (carried_limits_def (graph_of sheet).n) (take longest_carried text) ≡ passed K
  pub answer : ask_witness sheet text ≡ passed w

-- Rule p of the book is broken on the sheet that the steps leave, and its witness there is that of the scratch on the sheet as it is.
pub record Foretold {book edit sheet : List ℕ} (i : Given book edit sheet) (scratch : List ℕ) (p : ℕ) : Type 0 where
  pub before : List (Expr rule)
  pub K : Expr rule
  pub others : List (Expr rule)
  pub rules : i.rules ≡ before ++ (K ∷ others)
  pub place : length before ≡ p
  pub broken : value (graph_of (after_steps i.steps sheet)) K ≡ false
  pub same : ask_witness sheet (enter_scratch sheet book edit scratch) ≡ ask_witness (after_steps i.steps sheet) (code K)

pub record Witnesses : Type 0 where
  -- A refusal is 1 to 4 for the sheet or 12 to 15 for the rule: however long the text, the answer is never 11.
  pub refusals : (sheet text : List ℕ) {q p : ℕ} → ask_witness sheet text ≡ refused q p → ((1 ≤ q) × (q ≤ 4)) ⊎ ((12 ≤ q) × (q ≤ 15))
  -- After done, kind 0 exactly when the rule holds.
  pub kind_0 : {sheet text : List ℕ} {K : Expr rule} {w : Witness} → Answered sheet text K w → (witness_kind w ≡ 0) ↔ (value (graph_of sheet) K ≡ true)
  -- A witness of kind 1 or 2 does break the rule, and is the lowest; for kind 1, `nodes` are all nodes that do.
  pub tells : {sheet text : List ℕ} {K : Expr rule} {w : Witness} → Answered sheet text K w → value (graph_of sheet) K ≡ false → Told (graph_of sheet) (breaking_part (graph_of sheet) K) w
  -- What breaks a carried rule on the graph before is what breaks the rule on the graph that the edit leaves.
  pub carried : (Z : Edit) (K : Expr rule) (g : Graph) → breaks g (carry Z K) ≡ breaks (run Z g) K
  -- Where enter answers 41, the witness of the scratch is that of the book's broken rule on the sheet that the steps leave.
  pub after_41 : {book edit sheet : List ℕ} (i : Given book edit sheet) (scratch : List ℕ) (p : ℕ) → enter_answer sheet book edit (length scratch) ≡ refused 41 p → Foretold i scratch p
