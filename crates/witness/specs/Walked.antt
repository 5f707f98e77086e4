-- What the walk to the part that breaks a rule finds.
use Rattle.std.specs.Prelude.{◌≡◌, Option, Some, None, true, false, List, ℕ, ◌+◌, length, get_or}
use Rattle.logic.specs.Syntax.{Expr, rule}
use Rattle.logic.specs.Meaning.{value}
use Rattle.logic.specs.Limits.{ranges}
use Rattle.logic.specs.Witness.{breaks}
use Rattle.sheet.specs.Sheet.{graph_of}
use Rattle.text.specs.Code.{code}
use Rattle.text.specs.Stands.{Stands}

-- The first byte of a rule that is neither a 25 nor a 26.
abbrev pub NoPair : ℕ → Type 0
NoPair c = (c ≡ 0x25 → ⊥) × (c ≡ 0x26 → ⊥)

-- K is broken, and so is a rule that stands at a place of the text and has the same breaking nodes or pairs.
pub record Breaking (sheet : List ℕ) (n : ℕ) (text : List ℕ) (place : ℕ) (K : Expr rule) : Type 0 where
  pub fails : value (graph_of sheet) K ≡ false
  pub part : Expr rule
  pub stands : Stands (ranges n) text place part
  pub broken : value (graph_of sheet) part ≡ false
  pub same : breaks (graph_of sheet) K ≡ breaks (graph_of sheet) part
  pub single : NoPair (get_or text place 0)

-- The place of the part that breaks the rule, if the rule does not hold, and where the rule ends.
pub record IsWalked (sheet : List ℕ) (n : ℕ) (text : List ℕ) (at : ℕ) (K : Expr rule) (broken : Option ℕ) (next : ℕ) : Type 0 where
  pub holds : broken ≡ None → value (graph_of sheet) K ≡ true
  pub breaking : (place : ℕ) → broken ≡ Some place → Breaking sheet n text place K
  pub ends : next ≡ at + length (code K)
