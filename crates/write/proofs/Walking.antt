-- Passing a step and an end on a way through an edit.
use mathlib.Core.Path.{◌≡◌, refl, sym, ap, ◌∙◌, subst}
use mathlib.Core.Bool.{Bool, true, false}
use mathlib.Core.List.{List, [], ◌∷◌}
use Prim.Native.Nat.{ℕ, ◌+◌, ◌-◌, ◌%◌, ◌≤◌, ◌<◌}
use native.Mathlib.Omega.{arith}
use lib.Dec.{eqb}
use lib.ListN.{length, get_or, set}
use lib.Seq.{get_or-set_same}
use borrow.Author.Tests.{eqb-true, eqb-false, ne_eqb}
use Rattle.logic.specs.Syntax.{rule, Expr, Edit, finish, add_label, take_label, add_arrow, take_arrow, choose}
use Rattle.logic.specs.Carry.{followed_by}
use Rattle.logic.proofs.Bools.{true-false}
use Rattle.text.specs.Code.{edit_code}
use Rattle.tree.specs.Tree.{Tree, size}
use Rattle.tree.specs.Stack.{Substitution, written}
use Rattle.tree.proofs.Written.{written-add_label, written-take_label, written-add_arrow, written-take_arrow}
use Rattle.ends.specs.Shapes.{shape_of, At}
use Rattle.ends.specs.Edits.{EditAt, behind_step}
use Rattle.ends.specs.Kept.{Kept}
use Rattle.ends.proofs.FirstSteps.{edit_tag, edit_tree, step_of, as_step, as-finish, edit-inside}
use Rattle.ends.proofs.TreePlaces.{size-pos}
use Rattle.ends.proofs.Pending.{passing-first, passing-more, passing-end}
use Rattle.ends.proofs.Kept.{kept_set, kept_more}
use Rattle.write.specs.Offsets.{StepAt, StackIs}
use Rattle.write.specs.Ways.{followed, BehindIs, Way, SomeWay, SameWay, resting, Passed, Walked}

-- what is below on a stack stays as it is
pub steps-kept : (edit : List ℕ) {stack stack' : List ℕ} {top : ℕ} (σ : List Substitution) → length σ ≤ top → Kept top stack stack' → StackIs edit stack σ → StackIs edit stack' σ
unfolding StackIs
steps-kept edit [] l k i = i
steps-kept edit {stack} {stack'} {top} (s ∷ σ) l k i = (subst (λ (o : ℕ). StepAt edit o s) (sym (k.same (length σ) (omega arith))) i.0, steps-kept edit σ (omega arith) k i.1)

pub behind-kept : (edit : List ℕ) (from : ℕ) {behind behind' : List ℕ} {top : ℕ} (Ws : List Edit) → length Ws ≤ top → Kept top behind behind' → BehindIs edit behind from Ws → BehindIs edit behind' from Ws
unfolding BehindIs
behind-kept edit from [] l k i = i
behind-kept edit from {behind} {behind'} {top} (W ∷ Ws) l k i =
    let e = sym (k.same (length Ws) (omega arith)) in
    (subst (λ (o : ℕ). from ≤ o) e i.0, subst (λ (o : ℕ). EditAt edit o W) e i.1, subst (λ (o : ℕ). BehindIs edit behind' (o + length (edit_code W)) Ws) e (behind-kept edit (get_or behind (length Ws) 0 + length (edit_code W)) Ws (omega arith) k i.2))

pub followed-through : (f : Edit → Edit) → ((P Z : Edit) → followed_by (f P) Z ≡ f (followed_by P Z)) → (Z : Edit) (Ws : List Edit) → followed (f Z) Ws ≡ f (followed Z Ws)
unfolding followed
followed-through f g Z [] = refl
followed-through f g Z (W ∷ Ws) = g Z (followed W Ws)

-- an expression of one code, which is not a name
pub one_code : (text : List ℕ) (at s : ℕ) → s ≡ shape_of (get_or text at 0) → s < 4 → (t : Tree) → At text at t → at + s ≡ at + size t
one_code text at s e l t a =
    let n : at + s ≡ at + s % 4 = omega arith in
    n ∙ passing-end (passing-more (passing-first text at) (omega arith) s e) (omega arith) t a

written_step : (Z : Edit) → (edit_tag Z ≡ 0x30 → ⊥) → (edit_tag Z ≡ 0x35 → ⊥) → (σ : List Substitution) (Ws : List Edit) (K : Expr rule) → written σ (followed Z Ws) K ≡ written (step_of Z ∷ σ) (followed (behind_step Z) Ws) K
unfolding followed_by behind_step
written_step finish n m σ Ws K = absurd (n refl)
written_step (add_label k E Z) n m σ Ws K = ap (λ (Y : Edit). written σ Y K) (followed-through (add_label k E) (λ P Y. refl) Z Ws) ∙ written-add_label σ k E (followed Z Ws) K
written_step (take_label k E Z) n m σ Ws K = ap (λ (Y : Edit). written σ Y K) (followed-through (take_label k E) (λ P Y. refl) Z Ws) ∙ written-take_label σ k E (followed Z Ws) K
written_step (add_arrow a R Z) n m σ Ws K = ap (λ (Y : Edit). written σ Y K) (followed-through (add_arrow a R) (λ P Y. refl) Z Ws) ∙ written-add_arrow σ a R (followed Z Ws) K
written_step (take_arrow a R Z) n m σ Ws K = ap (λ (Y : Edit). written σ Y K) (followed-through (take_arrow a R) (λ P Y. refl) Z Ws) ∙ written-take_arrow σ a R (followed Z Ws) K
written_step (choose K P Q Z) n m σ Ws L = absurd (m refl)

module _ {edit stack behind : List ℕ} {at h d : ℕ} where
  -- past a step
  pub step-passed : SomeWay edit stack behind at h d → (get_or edit at 0 ≡ 0x30 → ⊥) → (get_or edit at 0 ≡ 0x35 → ⊥) → h < length stack → (next : ℕ) → ((t : Tree) → At edit (at + 2) t → next ≡ at + 2 + size t)
      → Passed edit stack behind at h d (set stack h at) next (h + 1) d
  unfolding StackIs
  step-passed w n m room next f =
      let p = as_step edit at w.what w.way.here n m in
      let l = f (edit_tree w.what) p.what in
      record {
        each = λ σ Z Ws y.
            let q = as_step edit at Z y.here n m in
            let e = f (edit_tree Z) q.what in
            let here : get_or (set stack h at) (length σ) 0 ≡ at = ap (λ (i : ℕ). get_or (set stack h at) i 0) (sym y.steps_passed) ∙ get_or-set_same stack h at 0 room in
            let from : at + length (edit_code Z) ≡ next + length (edit_code (behind_step Z)) = omega (arith, e, q.long) in
            record {
              steps = step_of Z ∷ σ;
              what = behind_step Z;
              later = Ws;
              same = written_step Z q.no_end q.no-choice σ Ws;
              way = record {
                steps_passed = omega (arith, y.steps_passed);
                steps = (rw here (record { op_is = q.reads-op; number_is = q.reads-k; room = omega (arith, q.room); what_at = q.what }), steps-kept edit σ (omega (arith, y.steps_passed)) (kept_set stack h at) y.steps);
                here = q.next next e;
                around = y.around;
                rest = subst (λ (x : ℕ). BehindIs edit behind x Ws) from y.rest;
              };
            };
        kept = kept_set stack h at;
        on = omega (arith, l);
        up = omega arith;
        low = omega (arith, l, size-pos (edit_tree w.what) p.what.formed, w.low);
        low_behind = omega (arith, l, w.low_behind);
      }

  -- past the end of what a 35 does
  pub way-low : SomeWay edit stack behind at h d → length edit ≤ 4096 → (h < 1366) × (d < 2048)
  way-low w l = let r = edit-inside edit at w.what w.way.here in (omega (arith, w.low, r, l), omega (arith, w.low_behind, r, l))

  pub end-passed : SomeWay edit stack behind at h d → get_or edit at 0 ≡ 0x30 → 0 < d → Passed edit stack behind at h d stack (get_or behind (d - 1) 0) h (d - 1)
  unfolding followed followed_by BehindIs edit_code
  end-passed w c l =
      let b = (go w.steps w.what w.later w.way).1 in
      record { each = λ σ Z Ws y. (go σ Z Ws y).0; kept = record { same = λ i r. refl }; on = omega (arith, b); up = omega arith; low = omega (arith, w.low, b); low_behind = omega (arith, w.low_behind, b) } where
        go : (σ : List Substitution) (Z : Edit) (Ws : List Edit) → Way edit stack behind at h d σ Z Ws → SameWay edit stack behind (get_or behind (d - 1) 0) h (d - 1) σ Z Ws × (at + 1 ≤ get_or behind (d - 1) 0)
        go σ Z [] y = absurd (omega (arith, y.around, l))
        go σ Z (W ∷ Ws) y =
            let e = as-finish edit at Z y.here c in
            let m : length Ws ≡ d - 1 = omega (arith, y.around) in
            let i = rw (e, m) at y.rest in (
              record { steps = σ; what = W; later = Ws; same = λ K. ap (λ (Y : Edit). written σ (followed Y (W ∷ Ws)) K) e; way = record { steps_passed = y.steps_passed; steps = y.steps; here = i.1; around = sym m; rest = i.2 } },
              i.0,
            )

-- where the stack and the offsets of the edits that follow are given otherwise
pub way-kept : {edit stack behind stack' behind' : List ℕ} {at h d : ℕ} {σ : List Substitution} {Z : Edit} {Ws : List Edit} → Kept h stack stack' → behind' ≡ behind → Way edit stack behind at h d σ Z Ws → Way edit stack' behind' at h d σ Z Ws
way-kept {edit} {σ = σ} k e y = record { steps_passed = y.steps_passed; steps = steps-kept edit σ (omega (arith, y.steps_passed)) k y.steps; here = y.here; around = y.around; rest = rw e y.rest }

-- a walk of many steps
pub record Walking (edit stack behind : List ℕ) (at h d : ℕ) (stack' : List ℕ) (at' h' d' : ℕ) : Type 0 where
  pub some : SomeWay edit stack' behind at' h' d'
  pub each : (σ : List Substitution) (Z : Edit) (Ws : List Edit) → Way edit stack behind at h d σ Z Ws → SameWay edit stack' behind at' h' d' σ Z Ws
  pub kept : Kept h stack stack'
  pub up : h ≤ h'

pub walking-first : {edit stack behind : List ℕ} {at h d : ℕ} → SomeWay edit stack behind at h d → Walking edit stack behind at h d stack at h d
walking-first w = record { some = w; each = λ σ Z Ws y. record { steps = σ; what = Z; later = Ws; way = y; same = λ K. refl }; kept = record { same = λ i r. refl }; up = omega arith }

pub walking-more : {edit stack behind : List ℕ} {at h d : ℕ} {stack₁ behind₁ : List ℕ} {at₁ h₁ d₁ : ℕ} {stack₂ : List ℕ} {at₂ h₂ d₂ : ℕ} → Walking edit stack behind at h d stack₁ at₁ h₁ d₁ → behind₁ ≡ behind
    → Passed edit stack₁ behind₁ at₁ h₁ d₁ stack₂ at₂ h₂ d₂ → Walking edit stack behind at h d stack₂ at₂ h₂ d₂
walking-more {edit} {stack} {behind} {at} {h} {d} {stack₁} {behind₁} {at₁} {h₁} {d₁} {stack₂} {at₂} {h₂} {d₂} w e q =
    let p = subst (λ (b : List ℕ). Passed edit stack₁ b at₁ h₁ d₁ stack₂ at₂ h₂ d₂) e q in
    let s = w.some in
    let m = p.each s.steps s.what s.later s.way in
    record {
      some = record { steps = m.steps; what = m.what; later = m.later; way = m.way; low = p.low; low_behind = p.low_behind };
      each = λ σ Z Ws y. let a = w.each σ Z Ws y in let b = p.each a.steps a.what a.later a.way in record { steps = b.steps; what = b.what; later = b.later; way = b.way; same = λ K. a.same K ∙ b.same K };
      kept = kept_more w.up w.kept p.kept;
      up = omega (arith, w.up, p.up);
    }

pub walked : {edit stack behind : List ℕ} {at h d : ℕ} {stack' : List ℕ} {at' h' d' : ℕ} → Walking edit stack behind at h d stack' at' h' d' → resting (get_or edit at' 0) d' ≡ true → Walked edit stack behind at h d stack' at' h' d'
walked w r = record { each = w.each; kept = w.kept; up = w.up; low = w.some.low; low_behind = w.some.low_behind; rests = r }

-- what the test says
pub not-choice : (c d : ℕ) → resting c d ≡ false → c ≡ 0x35 → ⊥
not-choice c d e q = unfold resting in true-false (ap (λ (x : ℕ). resting x d) q) e

pub not_end : (c d : ℕ) → resting c d ≡ false → c ≡ 0x30 → 0 < d
not_end c d e q = unfold resting in let n = eqb-false d 0 (sym (ap (λ (x : ℕ). resting x d) q) ∙ e) in omega arith

pub at-end : (c d : ℕ) → resting c d ≡ true → c ≡ 0x30 → d ≡ 0
at-end c d e q = unfold resting in eqb-true d 0 (sym (ap (λ (x : ℕ). resting x d) q) ∙ e)

pub at-choice : (c d : ℕ) → resting c d ≡ true → (c ≡ 0x30 → ⊥) → c ≡ 0x35
unfolding resting
at-choice c d e n = go (eqb c 0x35) refl where
  go : (b : Bool) → eqb c 0x35 ≡ b → c ≡ 0x35
  go true z = eqb-true c 0x35 z
  go false z = true-false e (simp (z, ne_eqb _ _ n))
