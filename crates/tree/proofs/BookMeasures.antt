-- A book is measured as one text: once backwards over the edit, with the number of rules.
use mathlib.Core.Path.{◌≡◌, refl, sym, ◌∙◌, ap, ap₂}
use mathlib.Core.Bool.{Bool, true, false, cond}
use mathlib.Core.List.{List, [], ◌∷◌, map}
use Prim.Native.Nat.{ℕ, suc, ◌+◌, ◌*◌, max}
use native.Mathlib.Omega.{arith}
use native.Mathlib.Nat.{add-mul}
use lib.ListN.{length, length-append}
use Rattle.logic.specs.Syntax.{rule, Expr, Edit, finish, add_label, take_label, add_arrow, take_arrow, choose}
use Rattle.logic.specs.Carry.{carry}
use Rattle.text.specs.Code.{code, book_code, book_levels}
use Rattle.tree.specs.Tree.{same, under, tree}
use Rattle.tree.proofs.TreeLaws.{code-tree, height-tree, size_is}
use Rattle.tree.specs.Sizes.{Measure, measure, substituted, chosen, back, together, nothing, measures}
use Rattle.tree.proofs.Measured.{same-measure, under-max, max-under, measured}

-- Joining adds in each length and count, and takes the maximum in each level.
pub together-nothing : (M : Measure) → together M nothing ≡ M
together-nothing M = unfold together nothing in same-measure (omega arith) (omega arith) (λ c k. omega arith) (λ c k. omega arith)

pub together-comm : (M N : Measure) → together M N ≡ together N M
together-comm M N = unfold together in same-measure (omega arith) (omega arith) (λ c k. omega arith) (λ c k. omega arith)

pub together-assoc : (M N O : Measure) → together (together M N) O ≡ together M (together N O)
together-assoc M N O = unfold together in same-measure (omega arith) (omega arith) (λ c k. omega arith) (λ c k. omega arith)

pub substituted-together : (c k more : ℕ) (E M N : Measure) → substituted c k more E (together M N) ≡ together (substituted c k more E M) (substituted c k more E N)
unfolding substituted together
substituted-together c k more E M N =
    same-measure (sums M.len N.len (more + E.len)) (omega (arith, below E.tall)) (λ c' k'. sums (M.counts c' k') (N.counts c' k') (E.counts c' k'))
    (λ c' k'. deep_at (same c' k' c k) (M.deeps c' k') (N.deeps c' k') (E.deeps c' k')) where
      d : ℕ
      d = M.deeps c k

      e : ℕ
      e = N.deeps c k

      sums : (x y w : ℕ) → x + y + (M.counts c k + N.counts c k) * w ≡ x + M.counts c k * w + (y + N.counts c k * w)
      sums x y w = omega (arith, add-mul (M.counts c k) (N.counts c k) w)

      below : (w : ℕ) → under (under (max d e) (suc more)) w ≡ max (under (under d (suc more)) w) (under (under e (suc more)) w)
      below w = ap (λ (u : ℕ). under u w) (max-under d e (suc more)) ∙ max-under (under d (suc more)) (under e (suc more)) w

      deep_at : (s : Bool) (x y w : ℕ) → max (cond s (under (max d e) 2) (max x y)) (under (under (max d e) (suc more)) w) ≡ max (max (cond s (under d 2) x) (under (under d (suc more)) w)) (max (cond s (under e 2) y) (under (under e (suc more)) w))
      deep_at true x y w = omega (arith, below w, max-under d e 2)
      deep_at false x y w = omega (arith, below w)

-- the maximum over two things of two parts each and a common third
max-parts : (a b c d k : ℕ) → max (max (max a b) (max c d)) k ≡ max (max (max a c) k) (max (max b d) k)
max-parts a b c d k = let e : max (max a b) (max c d) ≡ max (max a c) (max b d) = omega arith in ap (λ (x : ℕ). max x k) e ∙ shared (max a c) (max b d) where
  shared : (x y : ℕ) → max (max x y) k ≡ max (max x k) (max y k)
  shared x y = omega arith

max-two : (x y : ℕ) → 2 + max x y ≡ max (2 + x) (2 + y)
max-two x y = omega arith

pub chosen-together : (r s : ℕ) (K T U T' U' : Measure) → chosen (r + s) K (together T U) (together T' U') ≡ together (chosen r K T T') (chosen s K U U')
unfolding chosen together
chosen-together r s K T U T' U' =
    same-measure (omega (arith, add-mul r s (4 + 2 * K.len))) (tops T.tall U.tall T'.tall U'.tall (3 + K.tall))
    (λ c k. omega arith) (λ c k. deep_at (T.deeps c k) (U.deeps c k) (T'.deeps c k) (U'.deeps c k) (under 4 (K.deeps c k))) where
      tops : (t u v w k : ℕ) → max (max (2 + max t u) (2 + max v w)) k ≡ max (max (max (2 + t) (2 + v)) k) (max (max (2 + u) (2 + w)) k)
      tops t u v w k = ap₂ (λ (x y : ℕ). max (max x y) k) (max-two t u) (max-two v w) ∙ max-parts (2 + t) (2 + u) (2 + v) (2 + w) k

      deep_at : (t u v w k : ℕ) → max (max (under 3 (max t u)) (under 3 (max v w))) k ≡ max (max (max (under 3 t) (under 3 v)) k) (max (max (under 3 u) (under 3 w)) k)
      deep_at t u v w k = ap₂ (λ (x y : ℕ). max (max x y) k) (under-max 3 t u) (under-max 3 v w) ∙ max-parts (under 3 t) (under 3 u) (under 3 v) (under 3 w) k

pub back-together : (r s : ℕ) (Z : Edit) (M N : Measure) → back (r + s) Z (together M N) ≡ together (back r Z M) (back s Z N)
unfolding back
back-together r s finish M N = refl
back-together r s (add_label k E Z) M N = ap (substituted 0x03 k 1 (measure (tree E))) (back-together r s Z M N) ∙ substituted-together 0x03 k 1 (measure (tree E)) (back r Z M) (back s Z N)
back-together r s (take_label k E Z) M N = ap (substituted 0x03 k 2 (measure (tree E))) (back-together r s Z M N) ∙ substituted-together 0x03 k 2 (measure (tree E)) (back r Z M) (back s Z N)
back-together r s (add_arrow a R Z) M N = ap (substituted 0x11 a 1 (measure (tree R))) (back-together r s Z M N) ∙ substituted-together 0x11 a 1 (measure (tree R)) (back r Z M) (back s Z N)
back-together r s (take_arrow a R Z) M N = ap (substituted 0x11 a 1 (measure (tree R))) (back-together r s Z M N) ∙ substituted-together 0x11 a 1 (measure (tree R)) (back r Z M) (back s Z N)
back-together r s (choose K P Q Z) M N =
    ap₂ (chosen (r + s) (measure (tree K))) (ap (back (r + s) P) (back-together r s Z M N) ∙ back-together r s P (back r Z M) (back s Z N)) (ap (back (r + s) Q) (back-together r s Z M N) ∙ back-together r s Q (back r Z M) (back s Z N))
    ∙ chosen-together r s (measure (tree K)) (back r P (back r Z M)) (back s P (back s Z N)) (back r Q (back r Z M)) (back s Q (back s Z N))

-- A carried book of one or more rules has the measure that going once backwards over the edit gives.
pub measured-book : (Z : Edit) (K : Expr rule) (Ks : List (Expr rule)) → measures (map (carry Z) (K ∷ Ks)) ≡ back (1 + length Ks) Z (measures (K ∷ Ks))
unfolding measures
measured-book Z K [] = together-nothing (measure (tree (carry Z K))) ∙ measured Z K ∙ sym (ap (back 1 Z) (together-nothing (measure (tree K))))
measured-book Z K (L ∷ Ks) =
    ap₂ together (measured Z K) (measured-book Z L Ks) ∙ sym (back-together 1 (1 + length Ks) Z (measure (tree K)) (measures (L ∷ Ks)))
    ∙ ap (λ (u : ℕ). back u Z (measures (K ∷ L ∷ Ks))) (let e : 1 + (1 + length Ks) ≡ 1 + length (L ∷ Ks) = omega arith in e)

-- its length is that of the book
pub len-codes : (Ks : List (Expr rule)) → (measures Ks).len ≡ length (book_code Ks)
unfolding measures together nothing measure book_code
len-codes [] = refl
len-codes (K ∷ Ks) = omega (arith, size_is (tree K), ap length (code-tree K), len-codes Ks, length-append (code K) (book_code Ks))

-- its levels are those of the deepest rule
pub tall-levels : (Ks : List (Expr rule)) → (measures Ks).tall ≡ book_levels Ks
unfolding measures together nothing measure book_levels
tall-levels [] = refl
tall-levels (K ∷ Ks) = ap₂ max (height-tree K) (tall-levels Ks)
