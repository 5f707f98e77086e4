-- What the evaluators find for an expression that stands at a place of a text: its value on the sheet's graph, and where it ends.
use Rattle.std.specs.Prelude.{◌≡◌, Bool, not, ◌&&◌, ◌||◌, cond, List, ℕ, zero, suc, ◌+◌, ◌^◌, ◌<◌, ◌≤◌, eqb, length}
use Rattle.logic.specs.Syntax.{Expr, node, arrow, rule}
use Rattle.logic.specs.Graph.{Graph, Pairs, is_node}
use Rattle.logic.specs.Meaning.{value}
use Rattle.logic.specs.Limits.{max_nodes, Ranges, ranges, Within, NodesIn}
use Rattle.bitset.specs.Words.{set_of, member}
use Rattle.sheet.specs.Sheet.{graph_of, Rows}
use Rattle.sheet.specs.Questions.{Sound}
use Rattle.text.specs.Code.{code}
use Rattle.text.specs.Stands.{Stands}
use Rattle.rows.specs.Operations.{turn, arrow_operation}

-- A sound sheet with its n and the word of its nodes in use, as they are passed down; its graph is within the limits.
pub record Opened (sheet : List ℕ) (n all : ℕ) : Type 0 where
  pub sound : Sound sheet
  pub count : n ≡ (graph_of sheet).n
  pub few : n ≤ max_nodes
  pub nodes : all ≡ set_of n (is_node (graph_of sheet))
  pub within : Within (graph_of sheet)

-- The nodes that an expression is evaluated for are in use.
pub record Used (sheet : List ℕ) (n within : ℕ) : Type 0 where
  pub small : within < 2 ^ n
  pub nodes : NodesIn (graph_of sheet) (member within)

-- The set that a node expression means, and where the expression ends.
pub record IsSet (sheet : List ℕ) (n at : ℕ) (e : Expr node) (x next : ℕ) : Type 0 where
  pub set : x ≡ set_of n (value (graph_of sheet) e)
  pub ends : next ≡ at + length (code e)

-- The same for the nodes of `within` alone.
pub record IsSetWithin (sheet : List ℕ) (n at : ℕ) (e : Expr node) (within x next : ℕ) : Type 0 where
  pub set : x ≡ set_of n (λ i. member within i && value (graph_of sheet) e i)
  pub ends : next ≡ at + length (code e)

-- The relation that an arrow expression means, in rows, and where the expression ends.
pub record IsRelation (sheet : List ℕ) (n at : ℕ) (e : Expr arrow) (rows : List ℕ) (next : ℕ) : Type 0 where
  pub rows_are : Rows n (value (graph_of sheet) e) rows
  pub ends : next ≡ at + length (code e)

-- The same in rows or, turned, in columns.
pub record IsEitherWay (sheet : List ℕ) (n at : ℕ) (e : Expr arrow) (rows : List ℕ) (turned : Bool) (next : ℕ) : Type 0 where
  pub rows_are : Rows n (turn turned (value (graph_of sheet) e)) rows
  pub ends : next ≡ at + length (code e)

-- The relation combined, by the code c, with the relation that the rows held before.
pub record IsCombined (sheet : List ℕ) (n at c : ℕ) (e : Expr arrow) (old rows : List ℕ) (next : ℕ) : Type 0 where
  pub rows_are : (v : Pairs) → Rows n v old → Rows n (λ i j. arrow_operation c (v i j) (value (graph_of sheet) e i j)) rows
  pub ends : next ≡ at + length (code e)

-- The same where the rows held a relation in rows or in columns before, and hold one so afterwards.
pub record IsCombinedWay (sheet : List ℕ) (n at c : ℕ) (e : Expr arrow) (before : Bool) (old rows : List ℕ) (turned : Bool) (next : ℕ) : Type 0 where
  pub rows_are : (v : Pairs) → Rows n (turn before v) old → Rows n (turn turned (λ i j. arrow_operation c (v i j) (value (graph_of sheet) e i j))) rows
  pub ends : next ≡ at + length (code e)

-- Whether a rule holds, and where it ends.
pub record IsTruth (sheet : List ℕ) (at : ℕ) (e : Expr rule) (holds : Bool) (next : ℕ) : Type 0 where
  pub truth : holds ≡ value (graph_of sheet) e
  pub ends : next ≡ at + length (code e)

-- One more rule that stands at a place, and what is so after it.
pub record Next (r : Ranges) (text : List ℕ) (after : ℕ → Type 0) (at : ℕ) : Type 0 where
  pub K : Expr rule
  pub stands : Stands r text at K
  pub onward : after (at + length (code K))

-- So many rules stand one after the other from a place on, up to the place `end`.
unfoldable pub Upto : (r : Ranges) (text : List ℕ) (end : ℕ) → ℕ → ℕ → Type 0
Upto r text end zero at = at ≡ end
Upto r text end (suc k) at = Next r text (Upto r text end k) at

pub record SomeUpto (text : List ℕ) (rules at : ℕ) : Type 0 where
  pub limits : Ranges
  pub end : ℕ
  pub stand : Upto limits text end rules at

-- The truth of a rule with the place after it left open: so many rules stand from `next` on up to there.
pub record IsSettled (sheet : List ℕ) (n : ℕ) (text : List ℕ) (at : ℕ) (e : Expr rule) (holds : Bool) (next left : ℕ) : Type 0 where
  pub truth : holds ≡ value (graph_of sheet) e
  pub ends : Upto (ranges n) text (at + length (code e)) left next

-- 25 and; 26 or
abbrev pub rule_operation : ℕ → Bool → Bool → Bool
rule_operation c x y = cond (eqb c 0x25) (x && y) (x || y)

-- An arrow expression without its leading 12s: what follows them, and whether it is turned.
pub record IsTurned (n : ℕ) (text : List ℕ) (at : ℕ) (e : Expr arrow) (turned : Bool) (next : ℕ) : Type 0 where
  pub R : Expr arrow
  pub stands : Stands (ranges n) text next R
  pub means : (g : Graph) → value g e ≡ turn turned (value g R)
  pub on : at ≤ next
  pub ends : at + length (code e) ≡ next + length (code R)

-- 25 and 26: whether the first rule alone decides.
abbrev pub decided : ℕ → Bool → Bool
decided c x = cond (eqb c 0x25) (not x) x
