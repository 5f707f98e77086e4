-- For the inner functions: the sheet that is counted on, the texts, and one more sheet counted.
use Rattle.std.specs.Prelude.{◌≡◌, Bool, true, not, ◌&&◌, cond, List, ℕ, ◌+◌, ◌<◌, length}
use Rattle.logic.specs.Syntax.{Expr, rule, Edit}
use Rattle.logic.specs.Graph.{Graph}
use Rattle.logic.specs.Steps.{run}
use Rattle.logic.specs.Limits.{ranges}
use Rattle.sheet.specs.Sheet.{store}
use Rattle.text.specs.Stands.{EditStands}
use Rattle.judge.specs.Judging.{RulesStand}
use Rattle.count_small.specs.declared.Four.{Four}
use Rattle.logic.specs.Meaning.{hold_all}
use Rattle.count_small.specs.Small.{Small, small_sheet}
use Rattle.count_small.specs.Names.{edit_only_first}

-- The sheet stores some small graph.
pub record Loaded (n : ℕ) (sheet : List ℕ) : Type 0 where
  pub graph : Graph
  pub small : Small n graph
  pub stored : sheet ≡ store graph

-- The book is these rules, and the edit this one, in range for n; the edit names only label 0 and arrow 0.
pub record TextsStand (n : ℕ) (book edit : List ℕ) (rules : List (Expr rule)) (Z : Edit) : Type 0 where
  pub rules_stand : RulesStand (ranges n) book 0 (length book) rules
  pub edit_stands : EditStands (ranges n) edit 0 Z
  pub first : edit_only_first Z ≡ true

pub record SomeTextsStand (n : ℕ) (book edit : List ℕ) : Type 0 where
  pub rules : List (Expr rule)
  pub what : Edit
  pub stand : TextsStand n book edit rules what

-- For small sheet x: whether the rules hold before the edit, and after it.
pub record Turned (n x : ℕ) (rules : List (Expr rule)) (Z : Edit) (before next : Bool) : Type 0 where
  pub before_is : before ≡ hold_all (small_sheet n x) rules
  pub next_is : next ≡ hold_all (run Z (small_sheet n x)) rules

-- One more sheet counted.
unfoldable pub tallied : Four → (before next : Bool) → Four
tallied f before next =
    record {
      kept = cond (before && next) (f.kept + 1) f.kept;
      lost = cond (before && not next) (f.lost + 1) f.lost;
      repaired = cond (not before && next) (f.repaired + 1) f.repaired;
      broken = cond (not before && not next) (f.broken + 1) f.broken;
    }

-- There is room for one more in each count.
pub record Room (f : Four) : Type 0 where
  pub kept_room : f.kept < 4096
  pub lost_room : f.lost < 4096
  pub repaired_room : f.repaired < 4096
  pub broken_room : f.broken < 4096
