-- What the rewriter does at a tree that stands in a text.
use mathlib.Core.Path.{◌≡◌, refl, sym, ◌∙◌, ap, subst}
use mathlib.Core.Bool.{Bool, true, false, cond}
use mathlib.Core.List.{List, ◌++◌, append_assoc}
use Rattle.std.specs.Prelude.{Option, None, Some}
use Prim.Native.Nat.{ℕ, ◌+◌, ◌%◌, ◌≤◌}
use native.Mathlib.Nat.{add-zero}
use native.Mathlib.Omega.{arith}
use lib.Dec.{eqb}
use lib.ListN.{length, get_or, drop, get_or-append}
use lib.Seq.{get_or-drop}
use borrow.Author.Tests.{eqb-true, eq-eqb, ne_eqb}
use Rattle.tree.specs.Tree.{Tree, name, leaf, one, two, tree_code, size}
use Rattle.ends.specs.Shapes.{shapes, shape_of, Formed, At}
use Rattle.ends.proofs.TreePlaces.{as-two}
use Rattle.rewrite_counts.specs.Trees.{least_in_place_def, most_in_place_def, head_in_place, in_place_def}

module _ (text : List ℕ) (at : ℕ) where
  -- a code with a count has two bytes, and two operands after them
  pub record Count (t : Tree) : Type 0 where
    pub x : Tree
    pub y : Tree
    pub first : At text (at + 2) x
    pub second : (next : ℕ) → next ≡ at + 2 + size x → At text next y
    pub size_is : size t ≡ 2 + size x + size y
    pub room : at + 2 ≤ length text

  pub count_at : (t : Tree) → At text at t → shape_of (get_or text at 0) ≡ 10 → Count t
  unfolding size
  count_at t h s =
      let q = as-two text at t h (omega arith) (omega arith) in
      let two_bytes : shape_of (get_or text at 0) % 4 ≡ 2 = omega arith in
      record {
        x = q.x;
        y = q.y;
        first = rw (sym two_bytes) q.first;
        second = λ next e. q.second next (omega arith);
        size_is = ap size q.is ∙ omega (arith, q.head);
        room = omega (arith, q.room, q.head);
      }

  -- the bytes of a head with two operands
  pub record HeadBytes (h : List ℕ) : Type 0 where
    pub code_is : get_or h 0 0 ≡ get_or text at 0
    pub count-is : shape_of (get_or text at 0) ≡ 10 → get_or h 1 0 ≡ get_or text (at + 1) 0

  head_bytes : (h : List ℕ) (x y : Tree) → At text at (two h x y) → HeadBytes h
  unfolding tree_code Formed
  head_bytes h x y a =
      let behind-head = tree_code x ++ (tree_code y ++ a.rest) in
      let stands : drop at text ≡ h ++ behind-head = a.here ∙ append_assoc (h ++ tree_code x) (tree_code y) a.rest ∙ append_assoc h (tree_code x) (tree_code y ++ a.rest) in
      let code_is : get_or h 0 0 ≡ get_or text at 0 = sym (get_or-append h behind-head 0 0 a.formed.0.pos) ∙ ap (λ z. get_or z 0 0) (sym stands) ∙ get_or-drop at text 0 0 ∙ ap (λ i. get_or text i 0) (add-zero at) in
      record {
        code_is = code_is;
        count-is = λ s. sym (get_or-append h behind-head 0 1 (omega (arith, a.formed.0.is, ap shape_of code_is))) ∙ ap (λ z. get_or z 1 0) (sym stands) ∙ get_or-drop at text 1 0;
      }

  counted : (t : Tree) → At text at t → shape_of (get_or text at 0) ≡ 10 → (h : List ℕ) × HeadBytes h × (in_place_def t ≡ head_in_place h)
  counted t a s =
      let q = as-two text at t a (omega arith) (omega arith) in
      (q.h, head_bytes q.h q.x q.y (subst (At text at) q.is a), ap in_place_def q.is)

  -- the byte that replaces the tree, by the code and the count in the text
  pub least-here : (t : Tree) → At text at t → get_or text at 0 ≡ 0x0A → least_in_place_def (get_or text (at + 1) 0) ≡ in_place_def t
  unfolding head_in_place shapes
  least-here t a e =
      let q = counted t a (ap shape_of e) in
      sym (q.2 ∙ rw (eq-eqb _ _ (q.1.code_is ∙ e)) (ap least_in_place_def (q.1.count-is (ap shape_of e))))

  pub most-here : (t : Tree) → At text at t → get_or text at 0 ≡ 0x0B → most_in_place_def (get_or text (at + 1) 0) ≡ in_place_def t
  unfolding head_in_place shapes
  most-here t a e =
      let q = counted t a (ap shape_of e) in
      sym (q.2 ∙ rw (ap (λ c. eqb c 0x0A) (q.1.code_is ∙ e), eq-eqb _ _ (q.1.code_is ∙ e)) (ap most_in_place_def (q.1.count-is (ap shape_of e))))

  pub nothing-here : (t : Tree) → At text at t → (get_or text at 0 ≡ 0x0A → ⊥) → (get_or text at 0 ≡ 0x0B → ⊥) → None ≡ in_place_def t
  unfolding head_in_place
  nothing-here (name c k) a e f = refl
  nothing-here (leaf h) a e f = refl
  nothing-here (one h x) a e f = refl
  nothing-here (two h x y) a e f =
      let c = (head_bytes h x y a).code_is in
      rw (ne_eqb (get_or h 0 0) 0x0A (λ z. e (sym c ∙ z)), ne_eqb (get_or h 0 0) 0x0B (λ z. f (sym c ∙ z)))

  -- only a count is replaced by a byte
  pub dropped-count : (t : Tree) → At text at t → (b : ℕ) → in_place_def t ≡ Some b → Count t
  unfolding head_in_place shapes
  dropped-count t a b e = count_at t a (go t a e) where
    of-head : (c : ℕ) (l m : Option ℕ) (x y : Bool) → eqb c 0x0A ≡ x → eqb c 0x0B ≡ y → cond x l (cond y m None) ≡ Some b → shape_of c ≡ 10
    of-head c l m true y e f n = ap shape_of (eqb-true c 0x0A e)
    of-head c l m false true e f n = ap shape_of (eqb-true c 0x0B f)
    of-head c l m false false e f n = (cc)

    go : (t : Tree) → At text at t → in_place_def t ≡ Some b → shape_of (get_or text at 0) ≡ 10
    go (name c k) a n = (cc)
    go (leaf h) a n = (cc)
    go (one h x) a n = (cc)
    go (two h x y) a n = ap shape_of (sym (head_bytes h x y a).code_is) ∙ of-head (get_or h 0 0) _ _ _ _ refl refl n
