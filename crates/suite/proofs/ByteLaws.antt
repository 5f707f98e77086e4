-- A number that no label, arrow or node has may be passed as the byte 255: the answer is 7 either way.
use mathlib.Core.Path.{◌≡◌, refl, ap, ap₂, sym, ◌∙◌}
use mathlib.Core.Bool.{Bool, true, false, ◌&&◌, and-eq-true_iff}
use mathlib.Core.List.{List}
use Prim.Native.Nat.{ℕ, ◌≤◌, ◌<◌, min}
use native.Mathlib.Omega.{arith}
use native.Mathlib.Decide.{dec_lt}
use borrow.Author.Tests.{lt-ltb, le-ltb, ltb-true}
use lib.Dec.{ltb}
use Rattle.answer.specs.Asked.{◌>>◌, is, passed}
use Rattle.logic.specs.Limits.{label_count, arrow_count}
use Rattle.bitset.specs.Words.{Bytes}
use Rattle.sheet.specs.Sheet.{graph_in, graph_of}
use Rattle.sheet.specs.Questions.{ask_sheet, ask_label_bit, ask_arrow_bit}
use Rattle.node_sets.specs.NodeSets.{members, ask_label_set, ask_row_set}

-- Below m, which is at most 255, a number is in range exactly when its byte is,
below : (x m : ℕ) → m ≤ 255 → ltb (min x 255) m ≡ ltb x m
below x m h = go (dec_lt x m) where
  go : Dec (x < m) → ltb (min x 255) m ≡ ltb x m
  go (yes l) = lt-ltb (min x 255) m (omega arith) ∙ sym (lt-ltb x m l)
  go (no l) = le-ltb (min x 255) m (omega arith) ∙ sym (le-ltb x m (omega arith))

-- and is then that byte.
itself : (x m : ℕ) → m ≤ 255 → ltb x m ≡ true → min x 255 ≡ x
itself x m h e = let l : x < m = ltb-true x m e in omega arith

-- Two equal ranges, with the same bit or set where they hold, give the same answer.
alike : {A : Type 0} (p q : Bool) (x y : A) → p ≡ q → (q ≡ true → x ≡ y) → (is p 7 0 >> passed x) ≡ (is q 7 0 >> passed y)
unfolding ◌>>◌ is
alike p true x y e f = ap (λ b. is b 7 0 >> passed x) e ∙ ap passed (f refl)
alike p false x y e f = ap (λ b. is b 7 0 >> passed x) e

module _ (t : List ℕ) (bytes : Bytes t) where
  few : (graph_of t).n ≤ 255
  few = unfold graph_in in omega (arith, bytes 2)

  pub label-bit-byte : (k i : ℕ) → ask_label_bit t (min k 255) (min i 255) ≡ ask_label_bit t k i
  unfolding ask_label_bit
  label-bit-byte k i =
      ap (ask_sheet t >>◌)
      (alike _ _ _ _ (ap₂ ◌&&◌ (below k label_count (omega arith)) (below i (graph_of t).n few))
      (λ e.
      let both = (and-eq-true_iff (ltb k label_count) (ltb i (graph_of t).n)).0 e in
      ap₂ (graph_of t).labelled (itself k label_count (omega arith) both.0) (itself i (graph_of t).n few both.1)))

  pub arrow-bit-byte : (a i j : ℕ) → ask_arrow_bit t (min a 255) (min i 255) (min j 255) ≡ ask_arrow_bit t a i j
  unfolding ask_arrow_bit
  arrow-bit-byte a i j =
      ap (ask_sheet t >>◌)
      (alike _ _ _ _ (ap₂ ◌&&◌ (below a arrow_count (omega arith)) (ap₂ ◌&&◌ (below i (graph_of t).n few) (below j (graph_of t).n few)))
      (λ e.
      let kind = (and-eq-true_iff (ltb a arrow_count) (ltb i (graph_of t).n && ltb j (graph_of t).n)).0 e in
      let nodes = (and-eq-true_iff (ltb i (graph_of t).n) (ltb j (graph_of t).n)).0 kind.1 in
      let ea : min a 255 ≡ a = itself a arrow_count (omega arith) kind.0 in
      let ei : min i 255 ≡ i = itself i (graph_of t).n few nodes.0 in
      let ej : min j 255 ≡ j = itself j (graph_of t).n few nodes.1 in
      cc))

  pub label-set-byte : (k : ℕ) → ask_label_set t (min k 255) ≡ ask_label_set t k
  unfolding ask_label_set
  label-set-byte k =
      ap (ask_sheet t >>◌)
      (alike _ _ _ _ (below k label_count (omega arith)) (λ e. ap (λ (l : ℕ). members (graph_of t).n ((graph_of t).labelled l)) (itself k label_count (omega arith) e)))

  pub row-set-byte : (a i : ℕ) → ask_row_set t (min a 255) (min i 255) ≡ ask_row_set t a i
  unfolding ask_row_set
  row-set-byte a i =
      ap (ask_sheet t >>◌)
      (alike _ _ _ _ (ap₂ ◌&&◌ (below a arrow_count (omega arith)) (below i (graph_of t).n few))
      (λ e.
      let both = (and-eq-true_iff (ltb a arrow_count) (ltb i (graph_of t).n)).0 e in
      ap₂ (λ (b j : ℕ). members (graph_of t).n ((graph_of t).joined b j)) (itself a arrow_count (omega arith) both.0) (itself i (graph_of t).n few both.1)))
