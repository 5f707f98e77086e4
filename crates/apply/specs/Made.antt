-- For the inner functions: the sheet that steps are made on, and what is left to do after a step or an edit.
use Rattle.std.specs.Prelude.{◌≡◌, Bool, not, ◌&&◌, ◌||◌, cond, List, ℕ, ◌+◌, ◌<◌, eqb, length}
use Rattle.logic.specs.Syntax.{Edit}
use Rattle.logic.specs.Graph.{is_node}
use Rattle.logic.specs.Steps.{run}
use Rattle.logic.specs.Limits.{Within, ranges}
use Rattle.bitset.specs.Words.{set_of}
use Rattle.sheet.specs.Sheet.{store, graph_of}
use Rattle.text.specs.Code.{edit_code}
use Rattle.text.specs.Stands.{EditStands}
use Rattle.ends.specs.Edits.{behind_step}
use Rattle.apply.specs.Apply.{after_steps}

-- 31 adds to a label, 32 takes from it: whether a node has the label after the step, given whether it had it and whether it is in E.
abbrev pub label_operation : ℕ → Bool → Bool → Bool
label_operation c x y = cond (eqb c 0x31) (x || y) (x && not y)

-- 33 adds as 13 does, 34 takes as 15 does.
abbrev pub arrow_code_def : ℕ → ℕ
arrow_code_def c = cond (eqb c 0x33) 0x13 0x15

-- A sheet that stores its graph, with its n and the word of its nodes in use, which no step changes.
pub record Ready (sheet : List ℕ) (n all : ℕ) : Type 0 where
  pub stored : sheet ≡ store (graph_of sheet)
  pub within : Within (graph_of sheet)
  pub count : n ≡ (graph_of sheet).n
  pub nodes : all ≡ set_of n (is_node (graph_of sheet))

-- The first step of Z was made: what remains at `next` does to the sheet now what Z does to the sheet before.
pub record StepMade (n : ℕ) (edit : List ℕ) (at : ℕ) (Z : Edit) (next : ℕ) (before now : List ℕ) : Type 0 where
  pub stands : EditStands (ranges n) edit next (behind_step Z)
  pub ends : next + length (edit_code (behind_step Z)) ≡ at + length (edit_code Z)
  pub on : at < next
  pub runs : run Z (graph_of before) ≡ run (behind_step Z) (graph_of now)

-- All steps of Z were made, and `next` is the place after it.
pub record Made (at : ℕ) (Z : Edit) (next : ℕ) (before now : List ℕ) : Type 0 where
  pub sheet_is : now ≡ after_steps Z before
  pub ends : next ≡ at + length (edit_code Z)
