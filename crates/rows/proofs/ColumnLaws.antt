-- Rows and columns exchanged pair by pair: the columns of the rows that have gone, as rows of words.
use mathlib.Core.Path.{◌≡◌, refl, sym, ap, ap₂, ◌∙◌}
use mathlib.Core.Bool.{Bool, true, false, ◌&&◌, ◌||◌, or-false}
use mathlib.Core.List.{List}
use Prim.Native.Nat.{ℕ, ◌+◌, ◌<◌, ◌≤◌}
use native.Mathlib.Omega.{arith}
use lib.Dec.{eqb, ltb}
use lib.ListN.{length, get_or, set, replicate}
use lib.Seq.{get_or-set_same, get_or-set_other}
use borrow.Author.Tests.{eqb-true, eqb-false, lt-ltb, le-ltb, ltb-true, ltb-false}
use Rattle.logic.specs.Graph.{Nodes, Pairs}
use Rattle.logic.proofs.Below.{leave}
use Rattle.bitset.specs.Words.{set_of, member, combined}
use Rattle.bitset.proofs.SetLaws.{set_of-cong, set_of-none, set_of-wide, member-zero, member-set_of, combined-sets}
use Rattle.sheet.specs.Sheet.{Rows}
use Rattle.rows.proofs.MemberWalks.{Inside, gone, gone-all, gone-end, gone-more}
use Rattle.rows.proofs.OperationLaws.{zeros-at}

-- Rows of other pairs that are the same.
same_rows : {m : ℕ} {p q : Pairs} {l : List ℕ} → Rows m p l → ((j k : ℕ) → j < m → k < m → p j k ≡ q j k) → Rows m q l
same_rows {m} r h = record { row = λ j l. r.row j l ∙ set_of-cong m _ _ (λ k n. h j k l n) }

-- A row's members in turn: i is put into the set of each that has gone.
abbrev pub Put : (row left i : ℕ) → Pairs → Pairs
Put row left i p j k = p j k || (gone row left j && eqb k i)

module _ (row i : ℕ) (p : Pairs) where
  pub put-none : {out : List ℕ} → Rows 64 p out → Rows 64 (Put row row i p) out
  put-none r = same_rows r (λ j k l m. sym (ap (λ (b : Bool). p j k || (b && eqb k i)) (gone-all row j) ∙ or-false (p j k)))

  pub put-end : {out : List ℕ} (left : ℕ) → left ≤ 0 → Rows 64 (Put row left i p) out → Rows 64 (λ j k. p j k || (member row j && eqb k i)) out
  put-end left h r = same_rows r (λ j k l m. ap (λ (b : Bool). p j k || (b && eqb k i)) (gone-end row left j h))

  pub put-more : {out : List ℕ} (left at next one word : ℕ) → length out ≡ 64 → at < 64 → next ≡ set_of 64 (leave (member left) at) → Inside left row → member left at ≡ true
      → one ≡ set_of 64 (λ k. eqb k i) → word ≡ combined ◌||◌ (get_or out at 0) one → Rows 64 (Put row left i p) out → Rows 64 (Put row next i p) (set out at word)
  put-more {out} left at next one word len small e inside m o w r = record { row = λ j l. go j l (eqb j at) refl } where
    now-gone : (j : ℕ) → j < 64 → gone row next j ≡ (gone row left j || eqb j at)
    now-gone j l = gone-more row left at next e inside m j l

    here : (a b c : Bool) → ((a || (b && c)) || c) ≡ (a || ((b || true) && c))
    here true b c = refl
    here false true true = refl
    here false true false = refl
    here false false c = refl

    go : (j : ℕ) → j < 64 → (b : Bool) → eqb j at ≡ b → get_or (set out at word) j 0 ≡ set_of 64 (Put row next i p j)
    go j l true d =
        let q = eqb-true j at d in
        ap (λ (x : ℕ). get_or (set out at word) x 0) q ∙ get_or-set_same out at word 0 (omega (arith, len, small))
        ∙ w ∙ ap₂ (combined ◌||◌) (ap (λ (x : ℕ). get_or out x 0) (sym q) ∙ r.row j l) o
        ∙ combined-sets ◌||◌ refl 64 (Put row left i p j) (λ k. eqb k i) (omega arith)
        ∙ set_of-cong 64 _ _ (λ k n. here (p j k) (gone row left j) (eqb k i) ∙ ap (λ (b : Bool). p j k || (b && eqb k i)) (sym (now-gone j l ∙ ap (gone row left j ||◌) d)))
    go j l false d =
        get_or-set_other out at j word 0 (λ z. eqb-false j at d z) ∙ r.row j l
        ∙ set_of-cong 64 _ _ (λ k n. ap (λ (b : Bool). p j k || (b && eqb k i)) (sym (now-gone j l ∙ ap (gone row left j ||◌) d ∙ or-false (gone row left j))))

-- The columns of the first i rows.
abbrev pub Cols : (rows : List ℕ) (i : ℕ) → Pairs
Cols rows i j k = ltb k i && member (get_or rows k 0) j

one-row-more : (f : Nodes) (k i : ℕ) → ((ltb k i && f k) || (f i && eqb k i)) ≡ (ltb k (i + 1) && f k)
one-row-more f k i = go (eqb k i) refl where
  last : (b : Bool) → ((false && b) || (b && true)) ≡ (true && b)
  last true = refl
  last false = refl

  none : (a b : Bool) → (a || (b && false)) ≡ a
  none true b = refl
  none false true = refl
  none false false = refl

  below : eqb k i ≡ false → (b : Bool) → ltb k i ≡ b → ltb k i ≡ ltb k (i + 1)
  below d true e = e ∙ sym (lt-ltb k (i + 1) (omega (arith, ltb-true k i e)))
  below d false e = e ∙ sym (le-ltb k (i + 1) (omega (arith, ltb-false k i e, eqb-false k i d)))

  go : (b : Bool) → eqb k i ≡ b → ((ltb k i && f k) || (f i && eqb k i)) ≡ (ltb k (i + 1) && f k)
  go true d =
      let q = eqb-true k i d in
      ap₂ (λ (a b : Bool). (a && f k) || b) (le-ltb k i (omega (arith, q))) (ap₂ ◌&&◌ (ap f (sym q)) d) ∙ last (f k) ∙ ap (◌&& f k) (sym (lt-ltb k (i + 1) (omega (arith, q))))
  go false d = ap (λ (b : Bool). (ltb k i && f k) || (f i && b)) d ∙ none (ltb k i && f k) (f i) ∙ ap (◌&& f k) (below d (ltb k i) refl)

module _ (rows : List ℕ) where
  pub cols-none : Rows 64 (Cols rows 0) (replicate 64 0)
  cols-none = record { row = λ j l. zeros-at 64 j ∙ sym (set_of-cong 64 _ (λ k. false) (λ k m. ap (◌&& member (get_or rows k 0) j) (le-ltb k 0 (omega arith))) ∙ set_of-none 64) }

  pub cols-more : {out : List ℕ} (i row : ℕ) → row ≡ get_or rows i 0 → Rows 64 (λ j k. Cols rows i j k || (member row j && eqb k i)) out → Rows 64 (Cols rows (i + 1)) out
  cols-more i row e r = same_rows r (λ j k l m. ap (λ (x : ℕ). Cols rows i j k || (member x j && eqb k i)) e ∙ one-row-more (λ k. member (get_or rows k 0) j) k i)

  -- a row without pairs
  pub cols-same : {out : List ℕ} (i : ℕ) → get_or rows i 0 ≡ 0 → Rows 64 (Cols rows i) out → Rows 64 (Cols rows (i + 1)) out
  cols-same i e r = same_rows r (λ j k l m. sym (or-false (Cols rows i j k)) ∙ sym (ap (λ (b : Bool). Cols rows i j k || (b && eqb k i)) (ap (λ (x : ℕ). member x j) e ∙ member-zero j)) ∙ one-row-more (λ k. member (get_or rows k 0) j) k i)

pub rows-columns : {n : ℕ} {v : Pairs} {a t r : List ℕ} (m : ℕ) → n ≤ m → m ≤ n → n ≤ 64 → Rows n v a → Rows 64 (Cols a m) t → ((i : ℕ) → i < n → get_or r i 0 ≡ get_or t i 0) → Rows n (λ i j. v j i) r
rows-columns {n} {v} {a} {t} m u w h p q f = record {
  row = λ i l. let e : m ≡ n = omega arith in
      f i l ∙ q.row i (omega arith) ∙ ap (λ (x : ℕ). set_of 64 (Cols a x i)) e ∙ set_of-wide n 64 (λ k. member (get_or a k 0) i) h
      ∙ set_of-cong n _ _ (λ k d. ap (λ (x : ℕ). member x i) (p.row k d) ∙ member-set_of n (v k) i l);
}
