-- Whether a node has a label or an arrow or is the only one in use, as the code finds it.
use mathlib.Core.Path.{◌≡◌, refl, sym, ap, ◌∙◌}
use mathlib.Core.Bool.{Bool, true, false, not, ◌&&◌, ◌||◌, cond}
use Prim.Native.Nat.{ℕ, ◌<◌}
use lib.Dec.{eqb}
use borrow.Author.Tests.{eq-eqb, ne_eqb, lt-ltb}
use Rattle.logic.specs.Graph.{Graph, Nodes, is_node, any_below}
use Rattle.logic.specs.Steps.{update}
use Rattle.logic.specs.Limits.{label_count, arrow_count}
use Rattle.logic.specs.Closing.{has_label_def, has_arrow_def, is_only, can_close_def}
use Rattle.logic.proofs.Below.{any-cong, any_none, any_found, any-one, any-not}
use Rattle.bitset.specs.Words.{set_of, member}
use Rattle.bitset.proofs.SetLaws.{set_of-empty, member-set_of}
use Rattle.rows.proofs.OperationLaws.{not_is}

-- A word that is not 0 has a member, and 0 has none.
pub word_some : (n x : ℕ) (p : Nodes) → x ≡ set_of n p → (x ≡ 0 → ⊥) → any_below n p ≡ true
word_some n x p e f = not_is _ _ (sym (set_of-empty n p) ∙ ap (λ (y : ℕ). eqb y 0) (sym e) ∙ ne_eqb x 0 f)

pub word_none : (n x : ℕ) (p : Nodes) → x ≡ set_of n p → x ≡ 0 → any_below n p ≡ false
word_none n x p e f = not_is _ _ (sym (set_of-empty n p) ∙ ap (λ (y : ℕ). eqb y 0) (sym e) ∙ eq-eqb x 0 f)

-- a bit of a word
pub bit-of : (n x i : ℕ) (p : Nodes) (b : Bool) → i < n → x ≡ set_of n p → b ≡ member x i → p i ≡ b
bit-of n x i p b l e m = sym (member-set_of n p i l) ∙ ap (λ (y : ℕ). member y i) (sym e) ∙ sym m

-- From the node, or else to it.
module _ (n : ℕ) (p q : Nodes) where
  pub any-first : any_below n p ≡ true → true ≡ any_below n (λ j. p j || q j)
  any-first h = let (i, l, e) = any_found n p h in sym (any-one n (λ j. p j || q j) i l (ap (◌|| q i) e))

  pub any-second : any_below n p ≡ false → any_below n q ≡ any_below n (λ j. p j || q j)
  any-second h = sym (any-cong n (λ j. p j || q j) q (λ j l. ap (◌|| q j) (any-not n p h j l)))

module _ (g : Graph) (i : ℕ) where
  -- the bit among the nodes in use
  pub bit-in-use : (all : ℕ) → i < g.n → all ≡ set_of g.n (is_node g) → member all i ≡ g.in_use i
  bit-in-use all l e = unfold is_node in ap (λ (x : ℕ). member x i) e ∙ member-set_of g.n (is_node g) i l ∙ ap (◌&& g.in_use i) (lt-ltb i g.n l)

  pub label-found : (k : ℕ) → k < label_count → g.labelled k i ≡ true → true ≡ has_label_def g i
  label-found k l e = unfold has_label_def in sym (any-one label_count (λ k. g.labelled k i) k l e)

  pub label-none : ((k : ℕ) → k < label_count → g.labelled k i ≡ false) → false ≡ has_label_def g i
  label-none f = unfold has_label_def in sym (any_none label_count (λ k. g.labelled k i) f)

  -- the arrows of kind a
  abbrev pub arrows_at : Nodes
  arrows_at a = any_below g.n (λ j. g.joined a i j || g.joined a j i)

  pub arrow-found : (a : ℕ) → a < arrow_count → arrows_at a ≡ true → true ≡ has_arrow_def g i
  arrow-found a l e = unfold has_arrow_def in sym (any-one arrow_count arrows_at a l e)

  pub arrow-none : ((a : ℕ) → a < arrow_count → arrows_at a ≡ false) → false ≡ has_arrow_def g i
  arrow-none f = unfold has_arrow_def in sym (any_none arrow_count arrows_at f)

  pub kept_label : has_label_def g i ≡ true → false ≡ can_close_def g i
  kept_label e = unfold can_close_def in sym (ap (λ (b : Bool). not (b || has_arrow_def g i || is_only g i)) e)

  module _ (bare : has_label_def g i ≡ false) where
    pub kept-arrow : has_arrow_def g i ≡ true → false ≡ can_close_def g i
    kept-arrow e = unfold can_close_def in sym (ap (λ (b : Bool). not (b || has_arrow_def g i || is_only g i)) bare ∙ ap (λ (b : Bool). not (b || is_only g i)) e)

    pub kept-only : has_arrow_def g i ≡ false → (x : ℕ) → x ≡ set_of g.n (update g.in_use i false) → not (eqb x 0) ≡ can_close_def g i
    unfolding can_close_def is_only update
    kept-only free x e =
        ap (λ (y : ℕ). not (eqb y 0)) e ∙ ap not (set_of-empty g.n (update g.in_use i false))
        ∙ ap (λ (b : Bool). not (not b)) (any-cong g.n (update g.in_use i false) (λ j. g.in_use j && not (eqb j i)) (λ j l. others (eqb j i) (g.in_use j)))
        ∙ sym (ap (λ (b : Bool). not (b || has_arrow_def g i || is_only g i)) bare ∙ ap (λ (b : Bool). not (b || is_only g i)) free) where
          others : (b u : Bool) → cond b false u ≡ (u && not b)
          others true true = refl
          others true false = refl
          others false true = refl
          others false false = refl
