-- A measure in numbers: what writing one of them does.
use mathlib.Core.Path.{◌≡◌, refl, sym, ap, ◌∙◌, subst}
use mathlib.Core.Bool.{Bool, true, false, cond}
use mathlib.Core.List.{List}
use Prim.Native.Nat.{ℕ, zero, suc, ◌+◌, ◌*◌, max, ◌≤◌, ◌<◌}
use native.Mathlib.Omega.{arith}
use lib.ListN.{length, get_or, set, length-set}
use lib.Seq.{get_or-set_same}
use Rattle.tree.specs.Tree.{Tree, name, leaf, one, two, height, count, deep, same, under}
use Rattle.tree.specs.Sizes.{Measure, measure, substituted, beyond, capped, capped_measure}
use Rattle.tree.proofs.Measured.{same-measure, under-max, under-under, under_one, under-nothing, under_more, height-pos, same_self, alike-l}
use Rattle.tree.proofs.Capped.{capped-max, capped-under, capped-mul}
use Rattle.ends.specs.Shapes.{Named, cell}
use Rattle.ends.proofs.NameCells.{named-lt, stored-name}
use Rattle.ends.proofs.Kept.{elsewhere}
use Rattle.measure.specs.State.{Holds, added}

pub under-comm : (a b : ℕ) → under a b ≡ under b a
unfolding under
under-comm zero zero = refl
under-comm zero (suc b) = refl
under-comm (suc a) zero = refl
under-comm (suc a) (suc b) = omega arith

pub under-two : (v : ℕ) → (v ≡ 0 → ⊥) → under v 2 ≡ 1 + v
under-two v n = under-comm v 2 ∙ under_more 1 v (omega arith)

pub holds_same : {l : List ℕ} {M N : Measure} → capped_measure M ≡ capped_measure N → Holds l M → Holds l N
unfolding capped_measure
holds_same e h = record {
  len_at = h.len_at ∙ ap (λ (X : Measure). X.len) e;
  tall_at = h.tall_at ∙ ap (λ (X : Measure). X.tall) e;
  count_at = λ c k n. h.count_at c k n ∙ ap (λ (X : Measure). X.counts c k) e;
  deep_at = λ c k n. h.deep_at c k n ∙ ap (λ (X : Measure). X.deeps c k) e;
}

pub holds-is : {l : List ℕ} {M N : Measure} → M ≡ N → Holds l M → Holds l N
holds-is {l} e h = subst (Holds l) e h

-- One number written over those of a measure: the count of a name, or its deepest level. A says what each name then has, by whether it is that name.
module _ {l : List ℕ} (long : length l ≡ 130) {M : Measure} (h : Holds l M) {c k : ℕ} (x : ℕ) (n : Named c k) (A : ℕ → ℕ → Bool → ℕ) (e : x ≡ capped (A c k true)) where
  holds-count : ((c' k' : ℕ) → capped (M.counts c' k') ≡ capped (A c' k' false)) → Holds (set l (cell c k) x) (record { len = M.len; tall = M.tall; counts = λ c' k'. A c' k' (same c' k' c k); deeps = M.deeps })
  holds-count f = record {
    len_at = elsewhere l (cell c k) 128 x (λ q. omega (arith, named-lt c k n)) ∙ h.len_at;
    tall_at = elsewhere l (cell c k) 129 x (λ q. omega (arith, named-lt c k n)) ∙ h.tall_at;
    count_at = λ c' k' n'. stored-name l 0 n (omega arith) (omega (arith, named-lt c k n)) (λ u v b. capped (A u v b)) e c' k' _ n' (omega arith) (h.count_at c' k' n' ∙ f c' k');
    deep_at = λ c' k' n'. elsewhere l (cell c k) (64 + cell c' k') x (λ q. omega (arith, named-lt c k n)) ∙ h.deep_at c' k' n';
  }

  holds-deep : ((c' k' : ℕ) → capped (M.deeps c' k') ≡ capped (A c' k' false)) → Holds (set l (64 + cell c k) x) (record { len = M.len; tall = M.tall; counts = M.counts; deeps = λ c' k'. A c' k' (same c' k' c k) })
  holds-deep f = record {
    len_at = elsewhere l (64 + cell c k) 128 x (λ q. omega (arith, named-lt c k n)) ∙ h.len_at;
    tall_at = elsewhere l (64 + cell c k) 129 x (λ q. omega (arith, named-lt c k n)) ∙ h.tall_at;
    count_at = λ c' k' n'. elsewhere l (64 + cell c k) (cell c' k') x (λ q. omega (arith, named-lt c' k' n')) ∙ h.count_at c' k' n';
    deep_at = λ c' k' n'. stored-name l 64 n refl (omega (arith, named-lt c k n)) (λ u v b. capped (A u v b)) e c' k' _ n' refl (h.deep_at c' k' n' ∙ f c' k');
  }

-- .. the levels, or the length
module _ {l : List ℕ} (long : length l ≡ 130) {M : Measure} (h : Holds l M) (i x : ℕ) (high : 128 ≤ i) {len tall : ℕ} where
  holds-top : get_or (set l i x) 128 0 ≡ capped len → get_or (set l i x) 129 0 ≡ capped tall → Holds (set l i x) (record { len = len; tall = tall; counts = M.counts; deeps = M.deeps })
  holds-top e f = record {
    len_at = e;
    tall_at = f;
    count_at = λ c k n. elsewhere l i (cell c k) x (λ q. omega (arith, named-lt c k n)) ∙ h.count_at c k n;
    deep_at = λ c k n. elsewhere l i (64 + cell c k) x (λ q. omega (arith, named-lt c k n)) ∙ h.deep_at c k n;
  }

-- a code on level v
abbrev pub risen : ℕ → Measure → Measure
risen v M = record { len = M.len; tall = max M.tall v; counts = M.counts; deeps = M.deeps }

pub holds-rise : (l : List ℕ) (M : Measure) (v : ℕ) → length l ≡ 130 → v ≤ beyond → Holds l M → Holds (set l 129 (max (get_or l 129 0) v)) (risen v M)
holds-rise l M v e b h = holds-top e h 129 _ (omega arith) (elsewhere l 129 128 _ (λ q. omega arith) ∙ h.len_at) (get_or-set_same l 129 _ 0 (omega arith) ∙ omega (arith, h.tall_at))

-- x more bytes
abbrev pub longer : ℕ → Measure → Measure
longer x M = record { len = M.len + x; tall = M.tall; counts = M.counts; deeps = M.deeps }

pub holds-longer : (l : List ℕ) (M : Measure) (x y : ℕ) → length l ≡ 130 → y ≡ capped (get_or l 128 0 + x) → Holds l M → Holds (set l 128 y) (longer x M)
holds-longer l M x y e f h = holds-top e h 128 y (omega arith) (get_or-set_same l 128 y 0 (omega arith) ∙ omega (arith, f, h.len_at)) (elsewhere l 128 129 y (λ q. omega arith) ∙ h.tall_at)

-- a name's deepest level one deeper
abbrev pub lowered : (c k : ℕ) → Measure → Measure
lowered c k M = record { len = M.len; tall = M.tall; counts = M.counts; deeps = λ c' k'. cond (same c' k' c k) (under (M.deeps c k) 2) (M.deeps c' k') }

pub holds-lower : (l : List ℕ) (M : Measure) (c k x : ℕ) → length l ≡ 130 → Named c k → x ≡ capped (under (get_or l (64 + cell c k) 0) 2) → Holds l M → Holds (set l (64 + cell c k) x) (lowered c k M)
holds-lower l M c k x e n f h =
    holds-deep e h x n (λ c' k' b. cond b (under (M.deeps c k) 2) (M.deeps c' k')) (f ∙ ap (λ (u : ℕ). capped (under u 2)) (h.deep_at c k n) ∙ capped-under (M.deeps c k) 2) (λ c' k'. refl)

-- a name w times more, on level v at the deepest
abbrev pub marked : (c k w v : ℕ) → Measure → Measure
marked c k w v M = record { len = M.len; tall = M.tall; counts = λ c' k'. M.counts c' k' + w * cond (same c' k' c k) 1 0; deeps = λ c' k'. max (M.deeps c' k') (under v (cond (same c' k' c k) 1 0)) }

under-1 : (v : ℕ) → under v 1 ≡ v
under-1 v = under-comm v 1 ∙ under_one v

pub holds-touch : (l : List ℕ) (M : Measure) (c k w v : ℕ) → length l ≡ 130 → v ≤ beyond → Named c k → Holds l M
    → Holds (set (set l (cell c k) (capped (get_or l (cell c k) 0 + w))) (64 + cell c k) (max (get_or l (64 + cell c k) 0) v)) (marked c k w v M)
holds-touch l M c k w v e b n h =
    let counted = holds-count e h (capped (get_or l (cell c k) 0 + w)) n (λ c' k' b. M.counts c' k' + w * cond b 1 0) (omega (arith, h.count_at c k n)) (λ c' k'. omega arith) in
    holds-deep (length-set l (cell c k) _ ∙ e) counted (max (get_or l (64 + cell c k) 0) v) n (λ c' k' b. max (M.deeps c' k') (under v (cond b 1 0))) (omega (arith, h.deep_at c k n, under-1 v)) (λ c' k'. omega (arith, under-nothing v))

-- a tree's codes one by one
pub added-name : (w v c k : ℕ) (M : Measure) → marked c k w v (risen v M) ≡ added w v (measure (name c k)) M
unfolding added measure height count deep
added-name w v c k M =
    same-measure refl (ap (max M.tall) (sym (under-1 v))) (λ c' k'. ap (λ (b : Bool). M.counts c' k' + w * cond b 1 0) (flip c' k')) (λ c' k'. ap (λ (b : Bool). max (M.deeps c' k') (under v (cond b 1 0))) (flip c' k')) where
      flip : (c' k' : ℕ) → same c' k' c k ≡ same c k c' k'
      flip c' k' = sym (alike-l c k c k c' k' (same_self c k))

pub added-leaf : (w v : ℕ) (h : List ℕ) (M : Measure) → risen v M ≡ added w v (measure (leaf h)) M
unfolding added measure height count deep
added-leaf w v h M = same-measure refl (ap (max M.tall) (sym (under-1 v))) (λ c k. omega arith) (λ c k. omega (arith, under-nothing v))

-- one level on; what is lower down is deepest
on : (v x : ℕ) → 0 < x → under (under v 2) x ≡ under v (suc x)
on v x p = under-under v 2 x ∙ ap (under v) (under_more 1 x p ∙ omega arith)

pub added-one : (w v : ℕ) (h : List ℕ) (x : Tree) (M : Measure) → added w (under v 2) (measure x) M ≡ added w v (measure (one h x)) M
unfolding added measure height count deep
added-one w v h x M = same-measure refl (ap (max M.tall) (on v (height x) (height-pos x))) (λ c k. refl) (λ c k. ap (max (M.deeps c k)) (under-under v 2 (deep x c k)))

pub added-two : (w v : ℕ) (h : List ℕ) (x y : Tree) (M : Measure) → added w (under v 2) (measure y) (added w (under v 2) (measure x) M) ≡ added w v (measure (two h x y)) M
unfolding added measure height count deep
added-two w v h x y M =
    same-measure refl (both M.tall (height x) (height y) ∙ ap (max M.tall) (on v (max (height x) (height y)) (omega (arith, height-pos x)))) (λ c k. omega arith)
    (λ c k. both (M.deeps c k) (deep x c k) (deep y c k) ∙ ap (max (M.deeps c k)) (under-under v 2 (max (deep x c k) (deep y c k)))) where
      both : (m p q : ℕ) → max (max m (under (under v 2) p)) (under (under v 2) q) ≡ max m (under (under v 2) (max p q))
      both m p q = omega (arith, under-max (under v 2) p q)

-- a level capped beforehand
capped-tip : (m d e : ℕ) → capped (max m (under (capped d) e)) ≡ capped (max m (under d e))
capped-tip m d e = rw (capped-max m (under (capped d) e), capped-under, ← capped-max)

pub added-capped : (w v : ℕ) (E M : Measure) → capped_measure (added w (capped v) E M) ≡ capped_measure (added w v E M)
unfolding added capped_measure
added-capped w v E M = same-measure refl (capped-tip M.tall v E.tall) (λ c k. refl) (λ c k. capped-tip (M.deeps c k) v (E.deeps c k))

-- the parts of a step together
pub together : (c k more : ℕ) (E M : Measure) → capped_measure (longer (capped (M.counts c k) * (more + E.len)) (added (capped (M.counts c k)) (capped (under (M.deeps c k) (suc more))) E (lowered c k M))) ≡ capped_measure (substituted c k more E M)
unfolding capped_measure added substituted
together c k more E M =
    let d : ℕ = under (M.deeps c k) (suc more) in
    same-measure (sums M.len (more + E.len)) (capped-tip M.tall d E.tall) (λ c' k'. sums (M.counts c' k') (E.counts c' k')) (λ c' k'. capped-tip (cond (same c' k' c k) (under (M.deeps c k) 2) (M.deeps c' k')) d (E.deeps c' k')) where
      sums : (x y : ℕ) → capped (x + capped (M.counts c k) * y) ≡ capped (x + M.counts c k * y)
      sums x y = (let a : capped (x + capped (M.counts c k) * y) ≡ capped (capped x + capped (M.counts c k) * y) = omega arith in a) ∙ capped-mul x (M.counts c k) y
