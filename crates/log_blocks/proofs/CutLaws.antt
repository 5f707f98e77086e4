-- The bytes of a log and its blocks.
use mathlib.Core.Path.{◌≡◌, refl, sym, ◌∙◌, ap, ap₂}
use mathlib.Core.List.{List, [], ◌∷◌, ◌++◌}
use Prim.Native.Nat.{ℕ, zero, suc, ◌+◌, ◌*◌, ◌≤◌}
use native.Mathlib.Nat.{zero-add, suc-add}
use native.Mathlib.Omega.{arith}
use lib.ListN.{length, take, drop, take-append-drop, length-take, length-drop}
use lib.Seq.{drop-nil, take-nil, drop-drop, take-take, take_at, drop_at}
use Rattle.logic.specs.Lists.{All}
use Rattle.log_blocks.specs.Log.{cut, blocks_of}
use Rattle.log_blocks.specs.Making.{joined}

-- a part after a part
pub drop-take : (n m : ℕ) (l : List ℕ) → drop n (take (n + m) l) ≡ take m (drop n l)
drop-take zero m l = rw zero-add
drop-take (suc n) m [] = rw suc-add (sym (take-nil m))
drop-take (suc n) m (x ∷ l) = rw suc-add (drop-take n m l)

-- how many blocks are looked for does not matter, when there are enough
enough : (f h : ℕ) (l : List ℕ) → length l ≤ f → length l ≤ h → cut f l ≡ cut h l
unfolding cut
enough zero zero l a b = refl
enough zero (suc h) [] a b = refl
enough zero (suc h) (x ∷ l) a b = absurd (omega arith)
enough (suc f) zero [] a b = refl
enough (suc f) zero (x ∷ l) a b = absurd (omega arith)
enough (suc f) (suc h) [] a b = refl
enough (suc f) (suc h) (x ∷ l) a b =
    ap (take 512 (x ∷ l) ∷◌) (enough f h (drop 512 (x ∷ l)) (omega (arith, length-drop 512 (x ∷ l))) (omega (arith, length-drop 512 (x ∷ l))))

pub blocks-cons : (x : ℕ) (l : List ℕ) → blocks_of (x ∷ l) ≡ take 512 (x ∷ l) ∷ blocks_of (drop 512 (x ∷ l))
unfolding cut blocks_of
blocks-cons x l = ap (take 512 (x ∷ l) ∷◌) (enough (length l) (length (drop 512 (x ∷ l))) (drop 512 (x ∷ l)) (omega (arith, length-drop 512 (x ∷ l))) (omega arith))

pub blocks-nil : blocks_of [] ≡ []
blocks-nil = unfold cut blocks_of in refl

pub blocks-drop : (m : ℕ) (l : List ℕ) → blocks_of (drop (512 * m) l) ≡ drop m (blocks_of l)
blocks-drop zero l = refl
blocks-drop (suc m) [] = ap blocks_of (drop-nil (512 * suc m)) ∙ blocks-nil ∙ sym (ap (drop (suc m)) blocks-nil)
blocks-drop (suc m) (x ∷ l) =
    let e : 512 * suc m ≡ 512 + 512 * m = omega arith in
    ap (λ n. blocks_of (drop n (x ∷ l))) e ∙ ap blocks_of (sym (drop-drop (512 * m) 512 (x ∷ l)))
    ∙ blocks-drop m (drop 512 (x ∷ l)) ∙ ap (drop (suc m)) (sym (blocks-cons x l))

pub blocks-take : (m : ℕ) (l : List ℕ) → blocks_of (take (512 * m) l) ≡ take m (blocks_of l)
blocks-take zero l = blocks-nil
blocks-take (suc m) [] = ap blocks_of (take-nil (512 * suc m)) ∙ blocks-nil ∙ sym (ap (take (suc m)) blocks-nil)
blocks-take (suc m) (x ∷ l) =
    let e : 512 * suc m ≡ suc (511 + 512 * m) = omega arith in
    let d : suc (511 + 512 * m) ≡ 512 + 512 * m = omega arith in
    ap (λ n. blocks_of (take n (x ∷ l))) e ∙ blocks-cons x (take (511 + 512 * m) l)
    ∙ ap₂ (λ a b. a ∷ blocks_of b)
    (take-take 512 (suc (511 + 512 * m)) (x ∷ l) (omega arith))
    (ap (λ n. drop 512 (take n (x ∷ l))) d ∙ drop-take 512 (512 * m) (x ∷ l))
    ∙ ap (take 512 (x ∷ l) ∷◌) (blocks-take m (drop 512 (x ∷ l))) ∙ ap (take (suc m)) (sym (blocks-cons x l))

-- each has a byte
abbrev pub Filled : List (List ℕ) → Type 0
Filled = All (λ k. length k ≡ 0 → ⊥)

cut-filled : (f : ℕ) (l : List ℕ) → Filled (cut f l)
unfolding cut
cut-filled zero l = tt
cut-filled (suc f) [] = tt
cut-filled (suc f) (x ∷ l) = (λ e. omega (arith, length-take 512 (x ∷ l)), cut-filled f (drop 512 (x ∷ l)))

pub blocks-filled : (l : List ℕ) → Filled (blocks_of l)
blocks-filled l = unfold blocks_of in cut-filled (length l) l

-- blocks joined, and cut again
joined-cut : (f : ℕ) (l : List ℕ) → length l ≤ f → joined (cut f l) ≡ l
unfolding cut joined
joined-cut zero [] a = refl
joined-cut zero (x ∷ l) a = absurd (omega arith)
joined-cut (suc f) [] a = refl
joined-cut (suc f) (x ∷ l) a = ap (take 512 (x ∷ l) ++◌) (joined-cut f (drop 512 (x ∷ l)) (omega (arith, length-drop 512 (x ∷ l)))) ∙ take-append-drop 512 (x ∷ l)

pub joined-blocks : (l : List ℕ) → joined (blocks_of l) ≡ l
joined-blocks l = unfold blocks_of in joined-cut (length l) l (omega arith)

pub blocks_at : (k l : List ℕ) → length k ≡ 512 → blocks_of (k ++ l) ≡ k ∷ blocks_of l
blocks_at [] l h = absurd (omega arith)
blocks_at (x ∷ k) l h = blocks-cons x (k ++ l) ∙ ap₂ (λ a b. a ∷ blocks_of b) (take_at (x ∷ k) l 512 h) (drop_at (x ∷ k) l 512 h)
