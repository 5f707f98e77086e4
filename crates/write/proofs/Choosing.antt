-- The two ways of a 35.
use mathlib.Core.Path.{◌≡◌, refl, sym, ap, ◌∙◌, subst}
use mathlib.Core.List.{List, [], ◌∷◌, ◌++◌, append_assoc}
use Prim.Native.Nat.{ℕ, ◌+◌, ◌≤◌, ◌<◌}
use native.Mathlib.Omega.{arith}
use lib.ListN.{length, get_or, set, length-append}
use lib.Seq.{get_or-set_same}
use Rattle.logic.specs.Syntax.{rule, Expr, Edit, finish, choose}
use Rattle.logic.specs.Carry.{followed_by}
use Rattle.text.specs.Code.{edit_code}
use Rattle.tree.specs.Tree.{Tree, tree, size, tree_code, graft}
use Rattle.tree.specs.Stack.{Substitution, env, written, shown}
use Rattle.tree.proofs.Written.{written-finish, written-choose}
use Rattle.ends.specs.Shapes.{At}
use Rattle.ends.specs.Edits.{EditAt, behind_step}
use Rattle.ends.specs.Kept.{Kept}
use Rattle.ends.proofs.TreePlaces.{size-pos}
use Rattle.ends.proofs.FirstSteps.{as-choose, as-finish}
use Rattle.ends.proofs.Kept.{kept_set}
use Rattle.write.specs.Ways.{followed, BehindIs, Way, Chosen}
use Rattle.write.proofs.Walking.{steps-kept, behind-kept, followed-through}

-- where the parts of a 35 stand, as `open_first` and `end_of` say
module _ (edit : List ℕ) (at : ℕ) (m : get_or edit at 0 ≡ 0x35) where
  pub parted : {first second next : ℕ} (Z : Edit) (h : EditAt edit at Z) → let q = as-choose edit at Z h m in first ≡ at + 1 + size (tree q.K) → second ≡ first + length (edit_code q.P) → next ≡ second + length (edit_code q.Q)
      → Chosen edit at first second next Z
  parted {first} {second} {next} Z h a b' c' =
      let q = as-choose edit at Z h m in
      record {
        test = q.K;
        P = q.P;
        Q = q.Q;
        W = behind_step Z;
        is = q.is;
        test_at = q.what;
        first_at = q.first first a;
        second_at = q.second second (omega (arith, a, b'));
        next_at = q.next next (omega (arith, a, b', c'));
        on = omega (arith, a, size-pos (tree q.K) q.what.formed);
        between = sym b';
        behind = sym c';
        ends = omega (arith, a, b', c', q.long);
      }

  pub chosen : {first second next : ℕ} → ((t : Tree) → At edit (at + 1) t → first ≡ at + 1 + size t) → ((Y : Edit) → EditAt edit first Y → second ≡ first + length (edit_code Y))
      → ((Y : Edit) → EditAt edit second Y → next ≡ second + length (edit_code Y)) → (Z : Edit) → EditAt edit at Z → Chosen edit at first second next Z
  chosen {first} {second} f g k Z h =
      let q = as-choose edit at Z h m in
      let a = f (tree q.K) q.what in
      let b = g q.P (q.first first a) in
      parted Z h a b (k q.Q (q.second second (omega (arith, a, b))))

-- The end: the rule is written under the steps passed.
pub end-written : {edit stack behind : List ℕ} {at h d : ℕ} {σ : List Substitution} {Z : Edit} {Ws : List Edit} → Way edit stack behind at h d σ Z Ws → get_or edit at 0 ≡ 0x30 → d ≡ 0 → (K : Expr rule)
    → tree_code (graft (env σ) (tree K)) ≡ written σ (followed Z Ws) K
unfolding followed shown
end-written {edit} {stack} {behind} {at} {h} {d} {σ} {Z} {Ws} y c z K = go Ws y.around ∙ sym (ap (λ (Y : Edit). written σ (followed Y Ws) K) (as-finish edit at Z y.here c)) where
  go : (Ws : List Edit) → d ≡ length Ws → tree_code (graft (env σ) (tree K)) ≡ written σ (followed finish Ws) K
  go [] e = sym (written-finish σ K)
  go (W ∷ Ws) e = absurd (omega (arith, e, z))

-- A 35: 25 26 27 K1 T 26 K1 U.
module _ {edit stack behind : List ℕ} {at h d first second next : ℕ} {σ : List Substitution} {Z : Edit} {Ws : List Edit} (y : Way edit stack behind at h d σ Z Ws) (q : Chosen edit at first second next Z) where
  abbrev shown-test : List ℕ
  shown-test = tree_code (graft (env σ) (tree q.test))

  pub choice-written : (K : Expr rule) → (((0x25 ∷ 0x26 ∷ 0x27 ∷ shown-test) ++ written σ (followed q.P (q.W ∷ Ws)) K) ++ (0x26 ∷ shown-test)) ++ written σ (followed q.Q (q.W ∷ Ws)) K ≡ written σ (followed Z Ws) K
  unfolding followed followed_by shown
  choice-written K =
      append_assoc ((0x25 ∷ 0x26 ∷ 0x27 ∷ shown-test) ++ written σ (followed q.P (q.W ∷ Ws)) K) (0x26 ∷ shown-test) (written σ (followed q.Q (q.W ∷ Ws)) K)
      ∙ sym (written-choose σ q.test q.P q.Q (followed q.W Ws) K)
      ∙ ap (λ (Y : Edit). written σ Y K) (sym (ap (λ (Y : Edit). followed Y Ws) q.is ∙ followed-through (choose q.test q.P q.Q) (λ X Y. refl) q.W Ws))

  pub choice-length : (K : Expr rule) → length (written σ (followed Z Ws) K)
      ≡ 4 + length shown-test + length (written σ (followed q.P (q.W ∷ Ws)) K) + length shown-test + length (written σ (followed q.Q (q.W ∷ Ws)) K)
  choice-length K = omega (arith, simp length-append at (ap length (choice-written K)))

  -- a way of the 35, with what follows it put on the stack
  pub branch : {stack' behind' : List ℕ} → Kept h stack stack' → behind' ≡ set behind d next → d < length behind → (p : ℕ) (Y : Edit) → EditAt edit p Y → p + length (edit_code Y) ≤ next
      → Way edit stack' behind' p h (d + 1) σ Y (q.W ∷ Ws)
  unfolding BehindIs
  branch {stack'} {behind'} k e l p Y a o =
      let n : get_or behind' (length Ws) 0 ≡ next = ap (λ (b : List ℕ). get_or b (length Ws) 0) e ∙ ap (λ (i : ℕ). get_or (set behind d next) i 0) (sym y.around) ∙ get_or-set_same behind d next 0 l in
      let kept : Kept d behind behind' = subst (λ (b : List ℕ). Kept d behind b) (sym e) (kept_set behind d next) in
      let r = behind-kept edit (at + length (edit_code Z)) Ws (omega (arith, y.around)) kept y.rest in
      record {
        steps_passed = y.steps_passed;
        steps = steps-kept edit σ (omega (arith, y.steps_passed)) k y.steps;
        here = a;
        around = omega (arith, y.around);
        rest = (omega (arith, n, o), subst (λ (x : ℕ). EditAt edit x q.W) (sym n) q.next_at, subst (λ (x : ℕ). BehindIs edit behind' x Ws) (sym (ap (λ (x : ℕ). x + length (edit_code q.W)) n ∙ q.ends)) r);
      }

  pub first_way : {stack' behind' : List ℕ} → Kept h stack stack' → behind' ≡ set behind d next → d < length behind → Way edit stack' behind' first h (d + 1) σ q.P (q.W ∷ Ws)
  first_way k e l = branch k e l first q.P q.first_at (omega (arith, q.between, q.behind))

  pub second_way : {stack' behind' : List ℕ} → Kept h stack stack' → behind' ≡ set behind d next → d < length behind → Way edit stack' behind' second h (d + 1) σ q.Q (q.W ∷ Ws)
  second_way k e l = branch k e l second q.Q q.second_at (omega (arith, q.behind))
