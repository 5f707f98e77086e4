-- The measure of a book carried through an edit that stands in a text, in numbers.
use Rattle.std.specs.Prelude.{◌≡◌, List, ◌∷◌, ◌++◌, ℕ, ◌+◌, ◌-◌, ◌<◌, ◌≤◌, max, length, get_or, take, drop}
use Rattle.tree.specs.Tree.{Tree, under}
use Rattle.logic.specs.Syntax.{Edit, finish}
use Rattle.text.specs.Code.{edit_code}
use Rattle.tree.specs.Sizes.{Measure, measure, chosen, back, capped}
use Rattle.ends.specs.Edits.{behind_step, behind_steps, EditAt}
use Rattle.measure.specs.State.{Holds, names, length_cell, levels_cell, numbers}
use Rattle.measure.specs.Pruned.{pruned}

-- some edit stands there, and its end, or its first step's end, is not after `pos`
pub record EditRoom (text : List ℕ) (at pos : ℕ) : Type 0 where
  pub what : Edit
  pub stands : EditAt text at what
  pub room : at + length (edit_code what) ≤ pos

pub record StepRoom (text : List ℕ) (at pos : ℕ) : Type 0 where
  pub what : Edit
  pub stands : EditAt text at what
  pub room : at + length (edit_code what) ≤ pos + length (edit_code (behind_step what))

-- the numbers hold some measure
pub record Held (l : List ℕ) : Type 0 where
  pub long : length l ≡ numbers
  pub M : Measure
  pub holds : Holds l M

-- step i of an edit that stands at `at` stands at p
pub record StepOf (text : List ℕ) (at : ℕ) (Z : Edit) (i p : ℕ) : Type 0 where
  pub stands : EditAt text p (behind_steps i Z)
  pub step : get_or text p 0 ≡ 0x30 → ⊥
  pub low : at ≤ p
  pub reach : p + length (edit_code (behind_steps i Z)) ≡ at + length (edit_code Z)

-- the offsets of an edit's steps on a stack, from `top` to `end`
pub record Pushed (text : List ℕ) (at : ℕ) (Z : Edit) (stack : List ℕ) (top end : ℕ) : Type 0 where
  pub steps : ℕ
  pub ends : end ≡ top + steps
  pub each : (i : ℕ) → i < steps → StepOf text at Z i (get_or stack (top + i) 0) × (top + i ≤ get_or stack (top + i) 0)
  pub last : behind_steps steps Z ≡ finish

-- a walk back over the first step
pub record StepMeasured (rules : ℕ) (Z : Edit) (l l' : List ℕ) : Type 0 where
  pub holds : (M : Measure) → Holds l (back rules (behind_step Z) M) → Holds l' (back rules Z M)

-- .. which puts the first step before what stands at `pos`, unless it is idle
pub record Prefixed (rules : ℕ) (Z : Edit) (l out : List ℕ) (pos : ℕ) (out' : List ℕ) (pos' : ℕ) : Type 0 where
  pub text : (M : Measure) → Holds l (back rules (behind_step Z) M) → (tail : List ℕ) → drop pos out ≡ edit_code (pruned rules (behind_step Z) M) ++ tail → drop pos' out' ≡ edit_code (pruned rules Z M) ++ tail
  pub room : pos + length (edit_code (behind_step Z)) ≤ pos' + length (edit_code Z)
  pub low : pos' ≤ pos

-- .. and the whole edit without its idle steps
pub record Backed (rules : ℕ) (Z : Edit) (l out : List ℕ) (pos : ℕ) (l' out' : List ℕ) (pos' : ℕ) : Type 0 where
  pub holds : (M : Measure) → Holds l M → Holds l' (back rules Z M)
  pub text : (M : Measure) → Holds l M → drop pos' out' ≡ edit_code (pruned rules Z M) ++ drop pos out
  pub room : pos ≤ pos' + length (edit_code Z)
  pub low : pos' ≤ pos

-- the bytes from `at` to `end` put before what stands at `pos`
pub record PutBefore (text : List ℕ) (at end : ℕ) (out : List ℕ) (pos : ℕ) (out' : List ℕ) (pos' : ℕ) : Type 0 where
  pub start : pos' + (end - at) ≡ pos
  pub put_is : drop pos' out' ≡ take (end - at) (drop at text) ++ drop pos out

-- an edit's end put there
pub record EndBefore (out : List ℕ) (pos : ℕ) (out' : List ℕ) (pos' : ℕ) : Type 0 where
  pub start : pos' + 1 ≡ pos
  pub put_is : drop pos' out' ≡ 0x30 ∷ drop pos out

-- the numbers t and l of a choice's two ways, merged two levels deeper
pub record Merged (t l l' : List ℕ) : Type 0 where
  pub count : (i : ℕ) → i < names → get_or l' i 0 ≡ capped (get_or t i 0 + get_or l i 0)
  pub deep : (i : ℕ) → i < names → get_or l' (names + i) 0 ≡ capped (under (capped (under (max (get_or t (names + i) 0) (get_or l (names + i) 0)) 2)) 2)
  pub len : get_or l' length_cell 0 ≡ capped (get_or t length_cell 0 + get_or l length_cell 0)
  pub tall : get_or l' levels_cell 0 ≡ capped (max (get_or t levels_cell 0) (get_or l levels_cell 0) + 2)

-- the numbers of a choice on K
pub record ChoiceHeld (rules : ℕ) (K : Tree) (t l l' : List ℕ) : Type 0 where
  pub holds : (T U : Measure) → Holds t T → Holds l U → Holds l' (chosen rules (measure K) T U)
