-- Back over one step 31 to 34.
use mathlib.Core.Path.{◌≡◌, sym, ap, ap₂, ◌∙◌, subst}
use mathlib.Core.Bool.{Bool, true, false, cond}
use mathlib.Core.List.{List, ◌++◌, append_assoc}
use Prim.Native.Nat.{ℕ, suc, ◌+◌, ◌*◌, ◌-◌, ◌≤◌}
use native.Mathlib.Omega.{arith}
use borrow.Author.Tests.{eq-eqb, ne_eqb}
use lib.Dec.{eqb}
use lib.ListN.{length, get_or, set}
use Rattle.logic.specs.Syntax.{Edit}
use Rattle.logic.proofs.Tables.{cond_both}
use Rattle.text.specs.Code.{edit_code}
use Rattle.tree.specs.Tree.{Tree, size, under}
use Rattle.tree.specs.Sizes.{Measure, measure, substituted, back, beyond, capped}
use Rattle.tree.specs.Stack.{touched}
use Rattle.tree.proofs.TreeLaws.{size_is}
use Rattle.tree.proofs.Measured.{under-under}
use Rattle.tree.proofs.Capped.{capped-under}
use Rattle.ends.specs.Shapes.{cell, At}
use Rattle.ends.specs.Edits.{behind_step}
use Rattle.ends.proofs.FirstSteps.{edit_tag, edit_number, edit_tree, step_code, IsStep}
use Rattle.measure.specs.State.{Holds, added, Scanned}
use Rattle.measure.specs.EditMeasures.{Held, StepMeasured, Prefixed, PutBefore}
use Rattle.measure.specs.Pruned.{pruned}
use Rattle.measure.proofs.Puts.{head_of}
use Rattle.measure.proofs.Held.{holds_same, holds-is, holds-lower, holds-longer, lowered, longer, together}
use Rattle.measure.proofs.Firsts.{back_step, pruned-step}

module _ (text : List ℕ) (at : ℕ) (Z : Edit) (q : IsStep text at Z) where
  -- the name that the step touches, and how many codes it puts above its expression
  abbrev c : ℕ
  c = touched (edit_tag Z)

  abbrev k : ℕ
  k = edit_number Z

  abbrev more : ℕ
  more = cond (eqb (edit_tag Z) 0x32) 2 1

  pub step-cell : (x i : ℕ) → x ≡ touched (get_or text at 0) → i ≡ cell x (get_or text (at + 1) 0) → i ≡ cell c k
  step-cell x i e f = f ∙ ap₂ cell (e ∙ ap touched q.reads-op) q.reads-k

  -- the level of the step's expression
  level : (D d v : ℕ) → d ≡ capped (under (capped D) 2) → v ≡ cond (eqb (get_or text at 0) 0x32) (capped (under d 2)) d → v ≡ capped (under D (suc more))
  unfolding under
  level D d v e f = go (eqb (edit_tag Z) 0x32) (f ∙ ap (λ (x : ℕ). cond (eqb x 0x32) (capped (under d 2)) d) q.reads-op) where
    e' : d ≡ capped (under D 2)
    e' = e ∙ capped-under D 2

    go : (b : Bool) → v ≡ cond b (capped (under d 2)) d → v ≡ capped (under D (suc (cond b 2 1)))
    go true p = p ∙ ap (λ (u : ℕ). capped (under u 2)) e' ∙ capped-under (under D 2) 2 ∙ ap capped (under-under D 2 2)
    go false p = p ∙ e'

  pub step-measured : (l₀ l₁ l₂ l₃ : List ℕ) (x i d w v next m y : ℕ) → length l₀ ≡ 130 → length l₂ ≡ 130
      → x ≡ touched (get_or text at 0) → i ≡ cell x (get_or text (at + 1) 0)
      → d ≡ capped (under (get_or l₀ (64 + i) 0) 2) → l₁ ≡ set l₀ (64 + i) d → w ≡ get_or l₀ i 0 → v ≡ cond (eqb (get_or text at 0) 0x32) (capped (under d 2)) d
      → ((t : Tree) → At text (at + 2) t → Scanned (at + 2) w v t next l₁ l₂)
      → m ≡ cond (eqb (get_or text at 0) 0x32) 2 1 → y ≡ capped (get_or l₂ 128 0 + w * (m + (next - (at + 2)))) → l₃ ≡ set l₂ 128 y
      → (rules : ℕ) → StepMeasured rules Z l₀ l₃
  unfolding measure
  step-measured l₀ l₁ l₂ l₃ x i d w v next m y long₀ long₂ ex ei ed el ew ev sc em ey el₃ rules = record { holds = λ M h. holds-is (sym (back_step Z q.no_end q.no-choice rules M)) (go (back rules (behind_step Z) M) h) }
    where
      j : i ≡ cell c k
      j = step-cell x i ex ei

      a : Scanned (at + 2) w v (edit_tree Z) next l₁ l₂
      a = sc (edit_tree Z) q.what

      go : (N : Measure) → Holds l₀ N → Holds l₃ (substituted c k more (measure (edit_tree Z)) N)
      go N h =
          let n₁ = subst (λ (l : List ℕ). Holds l (lowered c k N)) (sym (el ∙ ap (λ (u : ℕ). set l₀ (64 + u) d) j)) (holds-lower l₀ N c k d long₀ q.named (ed ∙ ap (λ (u : ℕ). capped (under (get_or l₀ (64 + u) 0) 2)) j) h) in
          let n₂ = a.state (lowered c k N) n₁ in
          let n₃ = holds-longer l₂ (added w v (measure (edit_tree Z)) (lowered c k N)) (w * (m + (next - (at + 2)))) y long₂ ey n₂ in
          let pw : w ≡ capped (N.counts c k) = ew ∙ ap (λ (u : ℕ). get_or l₀ u 0) j ∙ h.count_at c k q.named in
          let pv : v ≡ capped (under (N.deeps c k) (suc more)) = level (N.deeps c k) d v (ed ∙ ap (λ (u : ℕ). capped (under (get_or l₀ (64 + u) 0) 2)) j ∙ ap (λ (u : ℕ). capped (under u 2)) (h.deep_at c k q.named)) ev in
          let ps : next - (at + 2) ≡ size (edit_tree Z) = omega (arith, a.ends) in
          let pm : m ≡ more = em ∙ ap (λ (x : ℕ). cond (eqb x 0x32) 2 1) q.reads-op in
          holds_same (together c k more (measure (edit_tree Z)) N)
          (holds-is (λ t. longer (pw t * (pm t + ps t)) (added (pw t) (pv t) (measure (edit_tree Z)) (lowered c k N)))
          (subst (λ (l : List ℕ). Holds l (longer (w * (m + (next - (at + 2)))) (added w v (measure (edit_tree Z)) (lowered c k N)))) (sym el₃) n₃))

  -- how often the step's name stands in what follows it
  counted : (l : List ℕ) (i : ℕ) → i ≡ cell c k → (N : Measure) → Holds l N → get_or l i 0 ≡ capped (N.counts c k)
  counted l i j N h = ap (λ (u : ℕ). get_or l u 0) j ∙ h.count_at c k q.named

  -- the text without idle steps, whether this step is idle or not
  text-is : (rules : ℕ) (M : Measure) (b : Bool) → eqb ((back rules (behind_step Z) M).counts c k) 0 ≡ b → edit_code (pruned rules Z M) ≡ cond b (edit_code (pruned rules (behind_step Z) M)) (step_code Z ++ edit_code (pruned rules (behind_step Z) M))
  text-is rules M b e = pruned-step Z q.no_end q.no-choice rules M ∙ rw e

  pub step-idle : (l out : List ℕ) (pos i : ℕ) → i ≡ cell c k → get_or l i 0 ≡ 0 → (rules : ℕ) → Prefixed rules Z l out pos out pos
  step-idle l out pos i j z rules = record {
    text = λ M h tail e. e ∙ sym (ap (◌++ tail) (text-is rules M true (eq-eqb ((back rules (behind_step Z) M).counts c k) 0 (omega (arith, counted l i j (back rules (behind_step Z) M) h)))));
    room = omega (arith, q.long);
    low = omega arith;
  }

  pub step_kept : (l out out' : List ℕ) (pos i end r : ℕ) → i ≡ cell c k → (get_or l i 0 ≡ 0 → ⊥) → end ≡ at + 2 + size (edit_tree Z) → PutBefore text at end out pos out' r → (rules : ℕ) → Prefixed rules Z l out pos out' r
  step_kept l out out' pos i end r j n e w rules =
      let f : length (step_code Z) ≡ end - at = omega (arith, size_is (edit_tree Z), e) in
      record {
        text = λ M h tail p.
            w.put_is ∙ (λ t. head_of text at (step_code Z) q.tail (end - at) q.split f t ++ p t) ∙ sym (append_assoc (step_code Z) (edit_code (pruned rules (behind_step Z) M)) tail)
            ∙ sym (ap (◌++ tail) (text-is rules M false (ne_eqb ((back rules (behind_step Z) M).counts c k) 0 (λ z. n (counted l i j (back rules (behind_step Z) M) h ∙ ap capped z)))));
        room = omega (arith, q.long, w.start, e);
        low = omega (arith, w.start);
      }

  -- no number is too large
  pub step_fits : (l₀ : List ℕ) (i w : ℕ) → Held l₀ → i ≡ cell c k → w ≡ get_or l₀ i 0 → w ≤ beyond
  step_fits l₀ i w h j e = omega (arith, e ∙ ap (λ (u : ℕ). get_or l₀ u 0) j ∙ h.holds.count_at c k q.named)

pub low-level : (b : Bool) (x d v : ℕ) → d ≡ capped x → v ≡ cond b (capped (under d 2)) d → v ≤ beyond
low-level b x d v e f = rw f (cond_both (λ (u : ℕ). u ≤ beyond) b _ _ (omega arith) (omega arith))

pub few : (b : Bool) (m : ℕ) → m ≡ cond b 2 1 → m ≤ 2
few b m e = rw e (cond_both (λ (u : ℕ). u ≤ 2) b _ _ (omega arith) (omega arith))
