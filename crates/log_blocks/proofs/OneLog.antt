-- A log that ends well is the log of its edits.
use mathlib.Core.Path.{◌≡◌, refl, sym, ◌∙◌, ap, ap₂, subst}
use mathlib.Core.Logic.{◌⊎◌, inl, inr, ⊎_elim}
use mathlib.Core.Bool.{Bool, true, false, ◌||◌, and-eq-true_iff, or-false, or-true}
use mathlib.Core.List.{List, [], ◌∷◌, ◌++◌, append_assoc}
use Prim.Native.Nat.{ℕ, zero, suc, ◌+◌, ◌-◌, ◌*◌, ◌/◌, ◌%◌, ◌≤◌, ◌<◌}
use native.Mathlib.Omega.{arith}
use borrow.Author.Tests.{eqb-true, eq-eqb, leb-true, leb-false}
use lib.Dec.{eqb, leb}
use lib.ListN.{length, get_or, take, drop, replicate, take-append-drop, length-append, length-drop}
use lib.Seq.{length-take-le, take-take, drop-drop, drop-cons, get_or-take, take_at, drop_at, length-slice}
use Rattle.answer.specs.Asked.{passed, is}
use Rattle.answer.proofs.AskedLaws.{refused-not-passed}
use Rattle.logic.specs.Lists.{All}
use Rattle.logic.proofs.Bools.{true-false}
use Rattle.bitset.specs.Words.{Bytes}
use Rattle.seal.specs.Seal.{modulo257, sealed}
use Rattle.seal.proofs.SealLaws.{right-sealed}
use Rattle.log_blocks.specs.Log.{is_last, mark_right_def, count, content, all_zero, zeros_behind, is_begun, ask_log_block, ask_log_end, Recorded, recorded}
use Rattle.log_blocks.specs.Making.{block, edit_blocks, log_blocks, CanHold}
use Rattle.log_blocks.proofs.FieldLaws.{count-says}
use Rattle.log_blocks.proofs.PassedLaws.{Passed, passes, count-few, content-length, content-some, still-begun}
use Rattle.log_blocks.proofs.ReadLaws.{read-bad, read-last, read_more, each-log}
use Rattle.log_blocks.proofs.CutLaws.{drop-take}
use Rattle.log_blocks.proofs.MakeLaws.{body}
use Rattle.log_blocks.proofs.MakeLaws as make
use Rattle.log_blocks.proofs.LogReadBack.{first, one_block, more-blocks}

-- zeros, and nothing else
all-zero : (l : List ℕ) → all_zero l ≡ true → l ≡ replicate (length l) 0
unfolding all_zero
all-zero [] e = refl
all-zero (x ∷ l) e =
    let a = (and-eq-true_iff (eqb x 0) (all_zero l)).0 e in
    ap₂ ◌∷◌ (eqb-true x 0 a.0) (all-zero l a.1)

two_bytes : (a b c : ℕ) → a < 256 → b < 256 → c ≡ a + 256 * b → (a ≡ c % 256) × (b ≡ c / 256 % 256)
two_bytes a b c h k e =
    let q : c / 256 ≡ b = omega arith in
    let r : b ≡ b % 256 = omega arith in
    (omega arith, r ∙ ap (◌% 256) (sym q))

-- a block that passed is the block of its content
module _ (begun : Bool) (number : ℕ) (k : List ℕ) (bytes : Bytes k) (p : Passed begun number k) where
  first-four : take 508 k ≡ get_or k 0 0 ∷ get_or k 1 0 ∷ get_or k 2 0 ∷ get_or k 3 0 ∷ drop 4 (take 508 k)
  first-four =
      let h : length (take 508 k) ≡ 508 = length-take-le 508 k (omega (arith, p.whole)) in
      let opened : (i : ℕ) → i < 4 → drop i (take 508 k) ≡ get_or k i 0 ∷ drop (suc i) (take 508 k) = λ i l.
      drop-cons (take 508 k) i 0 (omega arith) ∙ ap (◌∷ drop (suc i) (take 508 k)) (get_or-take 508 k i 0 (omega arith)) in
      cc (opened 0 (omega arith), opened 1 (omega arith), opened 2 (omega arith), opened 3 (omega arith))

  inner : drop 4 (take 508 k) ≡ content k ++ replicate (504 - length (content k)) 0
  unfolding content zeros_behind
  inner =
      let z : List ℕ = drop (4 + count k) (take 508 k) in
      let n : length z ≡ 508 - (4 + count k) = length-slice (4 + count k) 508 k (omega (arith, p.whole)) in
      let m : length z ≡ 504 - length (content k) = omega (arith, n, content-length p) in
      cc (take-append-drop (count k) (drop 4 (take 508 k)), drop-take 4 504 k, take-take (count k) 504 (drop 4 k) (count-few p), drop-drop (count k) 4 (take 508 k), all-zero z p.fields.zeros)

  body_is : take 508 k ≡ body (get_or k 1 0) (content k)
  unfolding body count
  body_is =
      let c : length (content k) ≡ get_or k 2 0 + 256 * get_or k 3 0 = content-length p in
      let two = two_bytes (get_or k 2 0) (get_or k 3 0) (length (content k)) (bytes 2) (bytes 3) c in
      cc (first-four, p.fields.three, two.0, two.1, inner)

  pub is_block : k ≡ block (get_or k 1 0) (content k)
  is_block = right-sealed modulo257 k p.sums ∙ ap (sealed modulo257) body_is ∙ sym (make.block-is (get_or k 1 0) (content k))

-- its byte 1
one_of : (m x y : ℕ) → (eqb m x || eqb m y) ≡ true → (m ≡ x) ⊎ (m ≡ y)
one_of m x y e = go (eqb m x) refl where
  go : (b : Bool) → eqb m x ≡ b → (m ≡ x) ⊎ (m ≡ y)
  go true b = inl (eqb-true m x b)
  go false b = inr (eqb-true m y (cc))

none_of : (m x y : ℕ) → (eqb m x || eqb m y) ≡ false → (m ≡ x → ⊥) × (m ≡ y → ⊥)
none_of m x y e = (λ h. true-false (ap (◌|| eqb m y) (eq-eqb m x h)) e, λ h. true-false (ap (eqb m x ||◌) (eq-eqb m y h) ∙ or-true (eqb m x)) e)

of-last : (begun : Bool) (m : ℕ) → mark_right_def begun m ≡ true → (eqb m 2 || eqb m 3) ≡ true → m ≡ first begun + 2
unfolding mark_right_def
of-last true m a b = ⊎_elim (λ x. ⊎_elim (λ y. absurd (omega arith)) (λ y. absurd (omega arith)) (one_of m 2 3 b)) (λ x. x) (one_of m 0 2 a)
of-last false m a b = ⊎_elim (λ x. ⊎_elim (λ y. absurd (omega arith)) (λ y. absurd (omega arith)) (one_of m 2 3 b)) (λ x. x) (one_of m 1 3 a)

of-more : (begun : Bool) (m : ℕ) → mark_right_def begun m ≡ true → (eqb m 2 || eqb m 3) ≡ false → m ≡ first begun
unfolding mark_right_def
of-more true m a b = ⊎_elim (λ x. x) (λ x. absurd ((none_of m 2 3 b).0 x)) (one_of m 0 2 a)
of-more false m a b = ⊎_elim (λ x. x) (λ x. absurd ((none_of m 2 3 b).1 x)) (one_of m 1 3 a)

-- how many blocks are allowed does not matter, when there are enough
enough : (f h mark : ℕ) (e : List ℕ) → 0 < length e → length e ≤ f → length e ≤ h → edit_blocks f mark e ≡ edit_blocks h mark e
unfolding edit_blocks
enough zero h mark e s a b = absurd (omega arith)
enough (suc f) zero mark e s a b = absurd (omega arith)
enough (suc f) (suc h) mark e s a b = go (leb (length e) 504) refl (λ t. enough f h 0 (drop 504 e) t (omega (arith, length-drop 504 e)) (omega (arith, length-drop 504 e))) where
  go : (y : Bool) → leb (length e) 504 ≡ y → (0 < length (drop 504 e) → edit_blocks f 0 (drop 504 e) ≡ edit_blocks h 0 (drop 504 e)) → edit_blocks (suc f) mark e ≡ edit_blocks (suc h) mark e
  go true y on = one_block f mark e (leb-true (length e) 504 y) ∙ sym (one_block h mark e (leb-true (length e) 504 y))
  go false y on =
      let many : 504 < length e = leb-false (length e) 504 y in
      more-blocks f mark e many ∙ ap (block mark (take 504 e) ∷◌) (on (omega (arith, length-drop 504 e))) ∙ sym (more-blocks h mark e many)

-- What blocks that end well are, after what is gathered: nothing more, or the rest of an edit and the log of others.
data Rest (begun : Bool) (g : List ℕ) (edits ks : List (List ℕ)) : Type 0 where
  none : begun ≡ false → edits ≡ [] → ks ≡ [] → Rest begun g edits ks
  edit : (part : List ℕ) (es : List (List ℕ)) → edits ≡ (g ++ part) ∷ es → 0 < length part → ks ≡ edit_blocks (length part) (first begun) part ++ log_blocks es → CanHold es → Rest begun g edits ks

of-rest : (edits ks : List (List ℕ)) → Rest false [] edits ks → (ks ≡ log_blocks edits) × CanHold edits
unfolding log_blocks
of-rest edits ks (none b e k) = (k ∙ sym (ap log_blocks e), subst CanHold (sym e) tt)
of-rest edits ks (edit part es e s k c) = (k ∙ sym (ap log_blocks e), subst CanHold (sym e) (s, c))

module _ (number : ℕ) (g : List ℕ) (k : List ℕ) (ks : List (List ℕ)) (bytes : Bytes k) (e : ask_log_block (is_begun g) number k ≡ passed tt) where
  it : Passed (is_begun g) number k
  it = passes (is_begun g) number k e

  abbrev c : ℕ
  c = length (content k)

  counts : c ≡ count k
  counts = content-length it

  has_some : 0 < c
  has_some = content-some it

  the_block : (mark : ℕ) → get_or k 1 0 ≡ mark → k ≡ block mark (content k)
  the_block mark m = is_block (is_begun g) number k bytes it ∙ ap (λ x. block x (content k)) m

  rest-last : is_last k ≡ true → (es : List (List ℕ)) → ks ≡ log_blocks es → CanHold es → Rest (is_begun g) g ((g ++ content k) ∷ es) (k ∷ ks)
  unfolding is_last
  rest-last l es r h =
      let n : c ≡ suc (c - 1) = omega (arith, has_some) in
      edit (content k) es refl has_some
      (ap₂ ◌∷◌ (the_block (first (is_begun g) + 2) (of-last (is_begun g) (get_or k 1 0) it.fields.marked l)) r
      ∙ ap (◌++ log_blocks es) (sym (ap (λ x. edit_blocks x (first (is_begun g)) (content k)) n
      ∙ one_block (c - 1) (first (is_begun g)) (content k) (omega (arith, counts, count-few it))))) h

  rest_more : is_last k ≡ false → (part : List ℕ) (es : List (List ℕ)) → 0 < length part → ks ≡ edit_blocks (length part) 0 part ++ log_blocks es → CanHold es
      → Rest (is_begun g) g (((g ++ content k) ++ part) ∷ es) (k ∷ ks)
  unfolding is_last
  rest_more l part es s r h =
      let full : c ≡ 504 = counts ∙ eqb-true (count k) 504 (sym (or-false _) ∙ subst (λ x. (eqb (count k) 504 || x) ≡ true) l (count-says (is_last k) (count k) it.fields.few).2) in
      let size : length (content k ++ part) ≡ 504 + length part = length-append (content k) part ∙ ap (◌+ length part) full in
      let n : length (content k ++ part) ≡ suc (503 + length part) = size ∙ omega arith in
      let whole : edit_blocks (length (content k ++ part)) (first (is_begun g)) (content k ++ part) ≡ block (first (is_begun g)) (content k) ∷ edit_blocks (length part) 0 part =
      ap (λ x. edit_blocks x (first (is_begun g)) (content k ++ part)) n
      ∙ more-blocks (503 + length part) (first (is_begun g)) (content k ++ part) (omega (arith, size))
      ∙ ap₂ (λ x y. block (first (is_begun g)) x ∷ edit_blocks (503 + length part) 0 y) (take_at (content k) part 504 full) (drop_at (content k) part 504 full)
      ∙ ap (block (first (is_begun g)) (content k) ∷◌) (enough (503 + length part) (length part) 0 part s (omega arith) (omega arith)) in
      edit (content k ++ part) es (ap (◌∷ es) (append_assoc g (content k) part)) (omega (arith, size))
      (ap₂ ◌∷◌ (the_block (first (is_begun g)) (of-more (is_begun g) (get_or k 1 0) it.fields.marked l)) r ∙ ap (◌++ log_blocks es) (sym whole)) h

  rest-on : is_last k ≡ false → (edits : List (List ℕ)) → Rest (is_begun (g ++ content k)) (g ++ content k) edits ks → Rest (is_begun g) g edits (k ∷ ks)
  rest-on l edits r = go (subst (λ (x : Bool). Rest x (g ++ content k) edits ks) (still-begun g it) r) where
    go : Rest true (g ++ content k) edits ks → Rest (is_begun g) g edits (k ∷ ks)
    go (none b i j) = true-false refl b
    go (edit part es i s r h) = rw i (rest_more l part es s r h)

rest_end : (number : ℕ) (g : List ℕ) (y : Bool) → is_begun g ≡ y → (recorded number g []).ending ≡ passed tt → Rest (is_begun g) g (recorded number g []).edits []
unfolding recorded ask_log_end is
rest_end number g false y e = none y refl refl
rest_end number g true y e = refused-not-passed (ap (λ b. ask_log_end b number) (sym y) ∙ e)

rest_of : (number : ℕ) (g : List ℕ) (ks : List (List ℕ)) → All Bytes ks → (recorded number g ks).ending ≡ passed tt → Rest (is_begun g) g (recorded number g ks).edits ks
rest_of = each-log (λ number g ks. All Bytes ks → (recorded number g ks).ending ≡ passed tt → Rest (is_begun g) g (recorded number g ks).edits ks)
    (λ number g b e. rest_end number g (is_begun g) refl e)
    (λ number g k ks q p f b e. refused-not-passed (sym (ap (λ (x : Recorded). x.ending) (read-bad number g k ks q p f)) ∙ e))
    (λ number g k ks f l on b e.
    let whole = read-last number g k ks f l in
    let r = of-rest (recorded (suc number) [] ks).edits ks (on b.1 (cc whole)) in
    rw whole (rest-last number g k ks b.0 f l (recorded (suc number) [] ks).edits r.0 r.1))
    (λ number g k ks f l on b e.
    let whole = read_more number g k ks f l in
    rw whole (rest-on number g k ks b.0 f l (recorded (suc number) (g ++ content k) ks).edits (on b.1 (cc whole))))

pub log_is : (number : ℕ) (ks : List (List ℕ)) → All Bytes ks → (recorded number [] ks).ending ≡ passed tt → (ks ≡ log_blocks (recorded number [] ks).edits) × CanHold (recorded number [] ks).edits
log_is number ks b e = of-rest (recorded number [] ks).edits ks (rest_of number [] ks b e)
