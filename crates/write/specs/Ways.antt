-- A way through an edit: a 35 has two, each followed by what stands after the 35.
use Rattle.std.specs.Prelude.{◌≡◌, Bool, true, false, cond, List, [], ◌∷◌, ◌⊎◌, ℕ, ◌+◌, ◌*◌, ◌<◌, ◌≤◌, eqb, length, get_or}
use Rattle.logic.specs.Syntax.{rule, Expr, Edit, choose}
use Rattle.logic.specs.Carry.{followed_by}
use Rattle.text.specs.Code.{edit_code}
use Rattle.tree.specs.Tree.{tree}
use Rattle.tree.specs.Stack.{Substitution, written}
use Rattle.ends.specs.Shapes.{At}
use Rattle.ends.specs.Edits.{EditAt}
use Rattle.ends.specs.Kept.{Kept}
use Rattle.ends.specs.Books.{RuleAt}
use Rattle.write.specs.Laid.{Wrote}
use Rattle.write.specs.Offsets.{StackIs}
use Rattle.write.specs.Work.{notes_start, last_of, stack_of, links_of, behind_of}

-- an edit, and then the edits that stand after the 35s around it, the innermost first
unfoldable pub followed : Edit → List Edit → Edit
followed Z [] = Z
followed Z (W ∷ Ws) = followed_by Z (followed W Ws)

-- their offsets on a stack, the innermost on top; each stands after the previous one, the first at `from` or later
unfoldable pub BehindIs : (edit behind : List ℕ) → ℕ → List Edit → Type 0
BehindIs edit behind from [] = Unit {0}
BehindIs edit behind from (W ∷ Ws) =
    (from ≤ get_or behind (length Ws) 0) × EditAt edit (get_or behind (length Ws) 0) W × BehindIs edit behind (get_or behind (length Ws) 0 + length (edit_code W)) Ws

-- h steps passed, the edit at a place, and d edits after it
pub record Way (edit stack behind : List ℕ) (at h d : ℕ) (σ : List Substitution) (Z : Edit) (Ws : List Edit) : Type 0 where
  pub steps_passed : h ≡ length σ
  pub steps : StackIs edit stack σ
  pub here : EditAt edit at Z
  pub around : d ≡ length Ws
  pub rest : BehindIs edit behind (at + length (edit_code Z)) Ws

-- some way, with room for its offsets below its place: a step has at least three bytes
pub record SomeWay (edit stack behind : List ℕ) (at h d : ℕ) : Type 0 where
  pub steps : List Substitution
  pub what : Edit
  pub later : List Edit
  pub way : Way edit stack behind at h d steps what later
  pub low : 3 * h ≤ at
  pub low_behind : 2 * d ≤ at

-- further along the same way: what is written for each rule is the same
pub record SameWay (edit stack behind : List ℕ) (at h d : ℕ) (σ : List Substitution) (Z : Edit) (Ws : List Edit) : Type 0 where
  pub steps : List Substitution
  pub what : Edit
  pub later : List Edit
  pub way : Way edit stack behind at h d steps what later
  pub same : (K : Expr rule) → written σ (followed Z Ws) K ≡ written steps (followed what later) K

-- A walk rests before a 35, and at the end, the 30 that no edit follows.
unfoldable pub resting : ℕ → ℕ → Bool
resting c d = cond (eqb c 0x35) true (cond (eqb c 0x30) (eqb d 0) false)

-- what passing a step or an end leaves, and what a walk leaves
pub record Passed (edit stack behind : List ℕ) (at h d : ℕ) (stack' : List ℕ) (at' h' d' : ℕ) : Type 0 where
  pub each : (σ : List Substitution) (Z : Edit) (Ws : List Edit) → Way edit stack behind at h d σ Z Ws → SameWay edit stack' behind at' h' d' σ Z Ws
  pub kept : Kept h stack stack'
  pub on : at < at'
  pub up : h ≤ h'
  pub low : 3 * h' ≤ at'
  pub low_behind : 2 * d' ≤ at'

pub record Walked (edit stack behind : List ℕ) (at h d : ℕ) (stack' : List ℕ) (at' h' d' : ℕ) : Type 0 where
  pub each : (σ : List Substitution) (Z : Edit) (Ws : List Edit) → Way edit stack behind at h d σ Z Ws → SameWay edit stack' behind at' h' d' σ Z Ws
  pub kept : Kept h stack stack'
  pub up : h ≤ h'
  pub low : 3 * h' ≤ at'
  pub low_behind : 2 * d' ≤ at'
  pub rests : resting (get_or edit at' 0) d' ≡ true

-- some two edits, one after the other
pub record SomeTwo (edit : List ℕ) (at : ℕ) : Type 0 where
  pub P : Edit
  pub Q : Edit
  pub P-at : EditAt edit at P
  pub Q-at : EditAt edit (at + length (edit_code P)) Q

-- where the second way of a 35 stands, and what follows it, by where the first one does
abbrev pub Ends : (edit : List ℕ) (first second next : ℕ) → Type 0
Ends edit first second next = ((P : Edit) → EditAt edit first P → second ≡ first + length (edit_code P)) × ((Q : Edit) → EditAt edit second Q → next ≡ second + length (edit_code Q))

-- what is noted of 35s: 64 notes of three numbers, each true, or none where the first number is 0
pub record Noted (edit work : List ℕ) : Type 0 where
  pub each : (i : ℕ) → i < 64 → (get_or work (notes_start + 3 * i) 0 ≡ 0) ⊎ Ends edit (get_or work (notes_start + 3 * i) 0) (get_or work (notes_start + 3 * i + 1) 0) (get_or work (notes_start + 3 * i + 2) 0)

-- a note more, and nothing else changed
pub record Renoted (edit work work' : List ℕ) : Type 0 where
  pub noted : Noted edit work'
  pub last_same : last_of work' ≡ last_of work
  pub stack_same : stack_of work' ≡ stack_of work
  pub links_same : links_of work' ≡ links_of work
  pub behind_same : behind_of work' ≡ behind_of work

-- the parts of a 35 and where they stand
pub record Chosen (edit : List ℕ) (at first second next : ℕ) (Z : Edit) : Type 0 where
  pub test : Expr rule
  pub P : Edit
  pub Q : Edit
  pub W : Edit
  pub is : Z ≡ choose test P Q W
  pub test_at : At edit (at + 1) (tree test)
  pub first_at : EditAt edit first P
  pub second_at : EditAt edit second Q
  pub next_at : EditAt edit next W
  pub on : at + 2 ≤ first
  pub between : first + length (edit_code P) ≡ second
  pub behind : second + length (edit_code Q) ≡ next
  pub ends : next + length (edit_code W) ≡ at + length (edit_code Z)

-- some way, and some rule whose text fits a buffer of `room` bytes from `pos` on
pub record SomeCarried (text : List ℕ) (from : ℕ) (edit stack behind : List ℕ) (at h d pos room : ℕ) : Type 0 where
  pub way : SomeWay edit stack behind at h d
  pub K : Expr rule
  pub K-at : RuleAt text from K
  pub fits : pos + length (written way.steps (followed way.what way.later) K) ≤ room

-- what writing a rule along a way leaves
pub record WayWritten (text : List ℕ) (from : ℕ) (edit stack behind : List ℕ) (at h d : ℕ) (o : List ℕ) (pos pos' : ℕ) (stack' behind' o' : List ℕ) : Type 0 where
  pub wrote : (σ : List Substitution) (Z : Edit) (Ws : List Edit) → Way edit stack behind at h d σ Z Ws → (K : Expr rule) → RuleAt text from K → Wrote o pos (written σ (followed Z Ws) K) pos' o'
  pub kept : Kept h stack stack'
  pub again : behind' ≡ behind
