-- A name written under the steps passed: the step that touches it last, the name under the steps below that one, and the step's expression.
use native.Mathlib.Omega.{arith}
use mathlib.Core.Path.{◌≡◌, ◌∙◌}
use mathlib.Core.List.{List, []}
use Prim.Native.Nat.{ℕ, ◌<◌, ◌≤◌, ◌+◌}
use lib.ListN.{length, get_or, set, length-set}
use Rattle.tree.specs.Tree.{Tree, tree_code, graft}
use Rattle.tree.specs.Stack.{Substitution, env, lead, inner}
use Rattle.ends.specs.Shapes.{At, shape_of}
use Rattle.write.specs.Laid.{Wrote}
use Rattle.write.specs.Offsets.{StepAt, StackIs}
use Rattle.write.specs.Work.{stack_of}
use Rattle.write.specs.Links.{last_in, SomeLinks}
use Rattle.write.specs.Writing.{SomeName, SomeShown}
use Rattle.write.proofs.Finding.{Hit, found_as, hit-at, hit-older}
use Rattle.write.proofs.Emitting as parts

-- where the step at index i stands
abbrev pub step-of : (work : List ℕ) (i : ℕ) → ℕ
step-of work i = get_or work (64 + i) 0

-- the previous step of its name
abbrev pub older-of : (work : List ℕ) (i : ℕ) → ℕ
older-of work i = get_or work (1430 + i) 0

module _ {edit work : List ℕ} (out : List ℕ) (i : ℕ) {c k pos : ℕ} (p : SomeName edit (stack_of work) (i + 1) c k pos (length out) × SomeLinks edit work (i + 1)) where
  -- the step that touches the name last, and the room
  abbrev hit : Hit edit (stack_of work) p.0.steps c k i
  hit = parts.hit i p.1 p.0

  pub step-there : StepAt edit (step-of work i) hit.s
  step-there = hit-at p.1 hit

  room : pos + 1 + length (tree_code (env hit.below c k)) + length (inner (get_or edit (step-of work i) 0) []) + length (tree_code (graft (env hit.below) hit.s.what)) ≤ length out
  room = parts.hit-fits i p.1 p.0

  pub first-room : pos < length out
  first-room = omega (arith, room)

  module _ (b : ℕ) where
    pub older-some : SomeName edit (stack_of work) (older-of work i) c k (pos + 1) (length (set out pos b))
    older-some = parts.older-some i p.1 p.0 (length-set out pos b)

    pub older-fits : pos + 1 < length (set out pos b) + 1
    older-fits = omega (arith, room, length-set out pos b)

    pub older-lower : older-of work i ≤ i
    older-lower = (hit-older p.1 p.0.is hit).1

    -- once the name under the steps below is written, by either way
    module _ {q : ℕ} {o₁ : List ℕ} (u : parts.NameWrote edit (stack_of work) (older-of work i) c k (set out pos b) (pos + 1) q o₁) where
      counted : q ≡ pos + 1 + length (tree_code (env hit.below c k))
      counted = parts.older-count i p.1 p.0 u

      pub not-room : q + length (inner (get_or edit (step-of work i) 0) []) ≤ length o₁
      not-room = omega (arith, u.long, length-set out pos b, room, counted)

      -- and the 05 of a step 32
      module _ {r : ℕ} {o₂ : List ℕ} (v : Wrote o₁ q (inner (get_or edit (step-of work i) 0) []) r o₂) (l : length o₂ ≡ length o₁) where
        pub wide : length o₂ ≡ length out
        wide = l ∙ u.long ∙ length-set out pos b

        pub further : pos < r
        further = omega (arith, counted, v.counted)

        -- the step's expression stands in the edit, and there is room for it
        pub there : SomeShown edit (step-of work i + 2) edit (stack_of work) i r (length o₂)
        there = record { steps = hit.below; is = hit.len; stands = hit.stands; what = hit.s.what; what_at = step-there.what_at; fits = omega (arith, wide, room, counted, v.counted) }

        -- the whole, once the expression is written
        pub put : b ≡ lead (get_or edit (step-of work i) 0) → {r' : ℕ} {o₃ : List ℕ}
            → ((σ : List Substitution) (x : Tree) → i ≡ length σ → StackIs edit (stack_of work) σ → At edit (step-of work i + 2) x → Wrote o₂ r (tree_code (graft (env σ) x)) r' o₃)
            → (σ : List Substitution) → i + 1 ≡ last_in edit (stack_of work) (length σ) c k → StackIs edit (stack_of work) σ → Wrote out pos (tree_code (env σ c k)) r' o₃
        put f w σ e a =
            let H = (found_as e a).some i (omega arith) in
            let A = hit-at p.1 H in
            parts.hit-wrote H _ A.op_is f (u.each H.below (hit-older p.1 e H).0 H.stands) v (w H.below H.s.what H.len H.stands A.what_at)

        -- where the expression is a name
        module _ {s : ℕ} (e : s ≡ shape_of (get_or edit (step-of work i + 2) 0)) (high : 16 ≤ s) where
          pub sole : parts.NameAt edit edit (stack_of work) (step-of work i + 2) i r r (length o₂)
          sole = parts.name-at (parts.showing-first _ _ _ _ _ [] _) (omega arith) _ e high there

          pub sole-wrote : {j r' : ℕ} {o₃ : List ℕ} → j ≡ last_in edit (stack_of work) i (get_or edit (step-of work i + 2) 0) (get_or edit (step-of work i + 2 + 1) 0)
              → parts.NameWrote edit (stack_of work) j (get_or edit (step-of work i + 2) 0) (get_or edit (step-of work i + 2 + 1) 0) o₂ r r' o₃
              → (σ : List Substitution) (x : Tree) → i ≡ length σ → StackIs edit (stack_of work) σ → At edit (step-of work i + 2) x → Wrote o₂ r (tree_code (graft (env σ) x)) r' o₃
          sole-wrote f w σ x l' b a = (parts.showing-end (parts.name-shown (parts.showing-first _ _ _ _ _ _ _) (omega arith) _ e high f w) (omega arith) σ x l' b a).0
