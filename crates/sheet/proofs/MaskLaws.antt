-- What must be zero in a block, joined: the words against one mask after the other, and the zeros before and after them.
use mathlib.Core.Path.{◌≡◌, refl, sym, ap, ap₂, ◌∙◌}
use mathlib.Core.Bool.{Bool, true, false, not, ◌&&◌, cond, and-eq-true_iff, and-true, and-false}
use mathlib.Core.List.{List}
use mathlib.Core.Logic.{⊎_elim}
use Prim.Native.Nat.{ℕ, ◌+◌, ◌-◌, ◌*◌, ◌/◌, ◌%◌, ◌^◌, ◌≤◌, ◌<◌}
use native.Mathlib.Nat.{eq-or-lt_of_le, le_of_suc-le-suc}
use native.Mathlib.Numerals.{add-one}
use native.Mathlib.Omega.{arith}
use native.Mathlib.Decide.{dec_lt}
use borrow.Author.Tests.{eq-eqb, eqb-true, lt-ltb, le-ltb, ltb-true}
use lib.Bits.{bit_or, or_add_and, and_le_l, and_le_r}
use lib.Dec.{eqb, ltb}
use lib.ListN.{length, get_or}
use Rattle.logic.specs.Graph.{Nodes}
use Rattle.logic.specs.Limits.{max_nodes, label_count}
use Rattle.logic.proofs.Below.{all_true, all-each}
use Rattle.bitset.specs.Words.{Bytes, set_of, member, combined, word_at}
use Rattle.bitset.proofs.SetLaws.{set_of-lt, member-zero, member-set_of}
use Rattle.bitset.proofs.MemberLaws.{member-small}
use Rattle.bitset.proofs.ZeroBytes.{high_zero, zero_high, low-zero, zero-low}
use Rattle.seal.specs.Seal.{block_bytes, Form}
use Rattle.sheet.specs.Masks.{word_count, within, zero_but, line_mask, row_mask, ZeroWhen, Outside, Edges, Bare, Over}
use Rattle.sheet.specs.Sheet.{SheetForm, line_count, padding}
use Rattle.sheet.proofs.ZeroLaws.{same_test, but-parts, within_none, zeros-are, zero-at}
use Rattle.sheet.proofs.BlockLaws.{few-lines}

pub or-zero : (a b : ℕ) → bit_or a b ≡ 0 → (a ≡ 0) × (b ≡ 0)
or-zero a b e = (omega (arith, or_add_and a b, and_le_r a b), omega (arith, or_add_and a b, and_le_l a b))

pub zero_or : (a b : ℕ) → a ≡ 0 → b ≡ 0 → bit_or a b ≡ 0
zero_or a b e f = omega (arith, or_add_and a b)

-- two joined; an equivalent condition; a number itself
zero-both : {P Q : Type 0} {r s : ℕ} → ZeroWhen r P → ZeroWhen s Q → ZeroWhen (bit_or r s) (P × Q)
zero-both {r = r} {s = s} p q = record { none = λ z. let (a, b) = or-zero r s z in (p.none a, q.none b); some = λ h. zero_or r s (p.some h.0) (q.some h.1) }

zero-as : {P Q : Type 0} {r : ℕ} → ZeroWhen r P → (P → Q) → (Q → P) → ZeroWhen r Q
zero-as p f g = record { none = λ z. f (p.none z); some = λ q. p.some (g q) }

zero-self : (r : ℕ) → ZeroWhen r (r ≡ 0)
zero-self r = record { none = λ z. z; some = λ z. z }

module _ (k : List ℕ) where
  zero_word : (j mask x : ℕ) → x ≡ combined (λ a b. a && not b) (word_at k (16 + 8 * j)) mask → ZeroWhen x (within k mask j ≡ true)
  zero_word j mask x e = unfold within in record { none = λ z. eq-eqb _ _ (sym e ∙ z); some = λ h. e ∙ eqb-true _ _ h }

  pub outside-none : (i mask : ℕ) → Outside k i i mask 0
  outside-none i mask = record { none = λ e j l u. absurd (omega arith); some = λ h. refl }

  -- one more word
  pub outside-more : (i j mask r x : ℕ) → i ≤ j → Outside k i j mask r → x ≡ combined (λ a b. a && not b) (word_at k (16 + 8 * j)) mask → Outside k i (j + 1) mask (bit_or r x)
  outside-more i j mask r x l o e =
      zero-as (zero-both o (zero_word j mask x e))
      (λ h c a b. ⊎_elim (λ q. ap (within k mask) q ∙ h.1) (λ q. h.0 c a q) (eq-or-lt_of_le (le_of_suc-le-suc (rw add-one at b))))
      (λ h. (λ c a b. h c a (omega arith), h j l (omega arith)))

  -- the words of a set against the empty mask, except for those still to come
  pub record Barely (set left r : ℕ) : Type 0 where
    pub part : (j : ℕ) → j < 64 → member left j ≡ true → member set j ≡ true
    pub zero : ZeroWhen r ((j : ℕ) → j < word_count → member set j ≡ true → member left j ≡ false → within k 0 j ≡ true)

  pub barely-none : (set : ℕ) → Barely set set 0
  barely-none set = record { part = λ j l m. m; zero = record { none = λ e j l m z. let x : ◌≡◌ {A = ℕ} 0 1 = cc (sym m ∙ z) in absurd (omega arith); some = λ h. refl } }

  pub barely-more : (set left rest r i x : ℕ) → Barely set left r → member left i ≡ true → i < word_count → rest ≡ set_of 64 (λ j. member left j && not (eqb j i))
      → x ≡ combined (λ a b. a && not b) (word_at k (16 + 8 * i)) 0 → Barely set rest (bit_or r x)
  barely-more set left rest r i x o m few e f =
      record {
        part = λ j l y. o.part j l ((and-eq-true_iff (member left j) (not (eqb j i))).0 (sym (still j l) ∙ y)).0;
        zero = zero-as (zero-both o.zero (zero_word i 0 x f)) (λ h j l y n. go h j l y n (eqb j i) refl)
            (λ h. (λ j l y n. h j l y (still j (omega arith) ∙ rw n refl), h i few (o.part i (omega arith) m) (still i (omega arith) ∙ rw (eq-eqb i i refl) (and-false (member left i)))));
      } where
        still : (j : ℕ) → j < 64 → member rest j ≡ (member left j && not (eqb j i))
        still j l = rw e (member-set_of 64 (λ j. member left j && not (eqb j i)) j l)

        go : ((j : ℕ) → j < word_count → member set j ≡ true → member left j ≡ false → within k 0 j ≡ true) × (within k 0 i ≡ true)
            → (j : ℕ) → j < word_count → member set j ≡ true → member rest j ≡ false → (b : Bool) → eqb j i ≡ b → within k 0 j ≡ true
        go h j l y n true q = ap (within k 0) (eqb-true j i q) ∙ h.1
        go h j l y n false q = h.0 j l y (sym (and-true (member left j)) ∙ ap (λ c. member left j && not c) (sym q) ∙ sym (still j (omega arith)) ∙ n)

  pub barely-all : (set left r : ℕ) → Barely set left r → left ≡ 0 → Bare k set r
  barely-all set left r o e = zero-as o.zero (λ h j l m. h j l m (ap (λ (w : ℕ). member w j) e ∙ member-zero j)) (λ h j l m n. h j l m)

  -- what lies outside the masks of block 0
  pub lines-over : (φ : SheetForm) (n all used r s t : ℕ) → used ≡ cond φ.holds_use (set_of 64 (λ i. ltb i n)) 0
      → Outside k 0 label_count all r → Outside k label_count (label_count + 1) used s → Outside k (label_count + 1) word_count 0 t → Over k (line_mask φ n all) (bit_or (bit_or r s) t)
  lines-over φ n all used r s t u o p q =
      zero-as (zero-both (zero-both o p) q) (λ h j l. go h j l (dec_lt j label_count) (dec_lt j (label_count + 1)))
      (λ h. (
        (λ j a b. at j (label-mask j b) (h j (omega arith)), λ j a b. at j (use-mask j (omega arith)) (h j (omega arith))),
        λ j a b. at j (no-mask j a) (h j b),
      )) where
        at : (j : ℕ) {m m' : ℕ} → m ≡ m' → within k m j ≡ true → within k m' j ≡ true
        at j e h = rw (sym e) h

        label-mask : (j : ℕ) → j < label_count → line_mask φ n all j ≡ all
        label-mask j l = rw (lt-ltb j label_count l)

        use-mask : (j : ℕ) → j ≡ label_count → line_mask φ n all j ≡ used
        use-mask j e = rw (le-ltb j label_count (omega arith)) (ap (λ b. cond b (set_of 64 (λ i. ltb i n)) 0) (held φ.holds_use) ∙ sym u) where
          held : (b : Bool) → ltb j (cond b (label_count + 1) label_count) ≡ b
          held true = lt-ltb j (label_count + 1) (omega arith)
          held false = le-ltb j label_count (omega arith)

        no-mask : (j : ℕ) → label_count + 1 ≤ j → line_mask φ n all j ≡ 0
        no-mask j l = rw (le-ltb j label_count (omega arith), le-ltb j (line_count φ) (omega (arith, few-lines φ)))

        go : (((j : ℕ) → 0 ≤ j → j < label_count → within k all j ≡ true) × ((j : ℕ) → label_count ≤ j → j < label_count + 1 → within k used j ≡ true)) × ((j : ℕ) → label_count + 1 ≤ j → j < word_count → within k 0 j ≡ true)
            → (j : ℕ) → j < word_count → Dec (j < label_count) → Dec (j < label_count + 1) → within k (line_mask φ n all j) j ≡ true
        go h j l (yes a) d = at j (sym (label-mask j a)) (h.0.0 j (omega arith) a)
        go h j l (no a) (yes b) = at j (sym (use-mask j (omega arith))) (h.0.1 j (omega arith) b)
        go h j l (no a) (no b) = at j (sym (no-mask j (omega arith))) (h.1 j (omega arith) l)

  -- what lies outside the masks of an arrow block; the closed nodes are those below n that are not in use
  pub rows-over : Bytes k → (n : ℕ) → n ≤ max_nodes → (nodes : Nodes) → ((i : ℕ) → n ≤ i → nodes i ≡ false) → (all : ℕ) → all ≡ set_of 64 nodes
      → (closed : ℕ) → ((j : ℕ) → j < 64 → member closed j ≡ (ltb j n && not (nodes j)))
      → (r s t : ℕ) → Outside k 0 word_count all r → Bare k closed s → Outside k n word_count 0 t → Over k (row_mask all) (bit_or (bit_or r s) t)
  rows-over bytes n few nodes below all is_all closed is-closed r s t o p q =
      zero-as (zero-both (zero-both o p) q) (λ h j l. to j l (h.0.0 j (omega arith) l) (h.0.1 j l) (λ d. h.1 j d l) (nodes j) refl (dec_lt j n))
      (λ h. (
        (λ j a b. from j b (h j b) (nodes j) refl, λ j l m. bare j l m (h j l) (nodes j) refl),
        λ j a b. rw (row-mask j b false (below j a)) at (h j b),
      )) where
        row-mask : (j : ℕ) → j < word_count → (b : Bool) → nodes j ≡ b → row_mask all j ≡ cond b all 0
        row-mask j l b e = ap (λ c. cond c all 0) (ap (λ (x : ℕ). member x j) is_all ∙ member-set_of 64 nodes j (omega arith) ∙ e)

        to : (j : ℕ) → j < word_count → within k all j ≡ true → (member closed j ≡ true → within k 0 j ≡ true) → (n ≤ j → within k 0 j ≡ true)
            → (b : Bool) → nodes j ≡ b → Dec (j < n) → within k (row_mask all j) j ≡ true
        to j l f g h true e (yes d) = rw (row-mask j l true e) f
        to j l f g h false e (yes d) = rw (row-mask j l false e) (g (is-closed j (omega arith) ∙ rw (lt-ltb j n d, e) refl))
        to j l f g h b e (no d) = rw (row-mask j l false (below j (omega arith))) (h (omega arith))

        from : (j : ℕ) → j < word_count → within k (row_mask all j) j ≡ true → (b : Bool) → nodes j ≡ b → within k all j ≡ true
        from j l e true f = rw (row-mask j l true f) at e
        from j l e false f = rw is_all (within_none k bytes nodes j l (rw (row-mask j l false f) at e))

        bare : (j : ℕ) → j < word_count → member closed j ≡ true → within k (row_mask all j) j ≡ true → (b : Bool) → nodes j ≡ b → within k 0 j ≡ true
        bare j l m e false f = rw (row-mask j l false f) at e
        bare j l m e true f = let z : ◌≡◌ {A = ℕ} 0 1 = cc (sym m ∙ is-closed j (omega arith) ∙ ap (λ y. ltb j n && not y) f ∙ and-false (ltb j n)) in absurd (omega arith)

  -- with the zeros before and after the words
  pub all-zero : (φ : Form) (mask : ℕ → ℕ) (e r : ℕ) → Edges φ k e → Over k mask r → eqb (bit_or e r) 0 ≡ zero_but φ mask k
  unfolding zero_but
  all-zero φ mask e r d o =
      same_test _ _
      (λ z. let (edge, words) = (zero-both d o).none (eqb-true _ _ z) in ap₂ ◌&&◌ edge.0 (ap₂ ◌&&◌ (all_true word_count _ words) edge.1))
      (λ z. let (f, w, b) = but-parts φ mask k z in eq-eqb _ _ ((zero-both d o).some ((f, b), all-each word_count (λ j. within k (mask j) j) w)))

  -- bytes 3 to 15 are the last five of the first word and all of the second; those after the words are the first of the last word
  pub edges : (φ : Form) → length k ≡ block_bytes → Bytes k → (r : ℕ) → r ≡ bit_or (bit_or (word_at k 0 / 0x1000000) (word_at k 8)) (word_at k 504 % 256 ^ padding φ word_count) → Edges φ k r
  edges φ h small r e =
      rw e
      (zero-as (zero-both (zero-both (zero-self (word_at k 0 / 0x1000000)) (zero-self (word_at k 8))) (zero-self (word_at k 504 % 256 ^ padding φ word_count)))
      (λ z. (zeros-are k 3 13 (λ j l. front z.0.0 z.0.1 j l (dec_lt j 5)), zeros-are k 504 (padding φ word_count) (λ j l. low-zero k small 504 (omega arith) (padding φ word_count) z.1 j l (omega (arith, φ.whole)))))
      (λ z. (
        (zero_high k small 0 (omega arith) 3 (λ j l u. zero-at k 3 13 z.0 (0 + j) (omega arith) (omega arith)), whole ∙ zero_high k small 8 (omega arith) 0 (λ j l u. zero-at k 3 13 z.0 (8 + j) (omega arith) (omega arith))),
        zero-low k small 504 (omega arith) (padding φ word_count) (omega (arith, φ.whole)) (λ j l. zero-at k 504 (padding φ word_count) z.1 (504 + j) (omega arith) (omega arith)),
      ))) where
        whole : word_at k 8 ≡ word_at k 8 / 256 ^ 0
        whole = omega arith

        front : word_at k 0 / 0x1000000 ≡ 0 → word_at k 8 ≡ 0 → (j : ℕ) → j < 13 → Dec (j < 5) → get_or k (3 + j) 0 ≡ 0
        front a b j l (yes u) = let i : 3 + j ≡ 0 + (3 + j) = omega arith in rw i (high_zero k small 0 (omega arith) 3 a (3 + j) (omega arith) (omega arith))
        front a b j l (no u) = let i : 3 + j ≡ 8 + (j - 5) = omega arith in rw i (high_zero k small 8 (omega arith) 0 (sym whole ∙ b) (j - 5) (omega arith) (omega arith))

-- the nodes below n that are not in use
module _ (n all closed : ℕ) (few : n ≤ max_nodes) (below : ℕ) (b : below ≡ set_of 64 (λ i. ltb i n)) (c : closed ≡ combined (λ x y. x && not y) below all) where
  closed_is : (j : ℕ) → j < 64 → member closed j ≡ (ltb j n && not (member all j))
  closed_is j l = rw (c, b) (member-set_of 64 _ j l ∙ ap (◌&& not (member all j)) (member-set_of 64 (λ i. ltb i n) j l))

  pub closed_in : (j : ℕ) → member closed j ≡ true → j < word_count
  closed_in j m =
      let l : j < 64 = member-small 64 closed j (rw c (set_of-lt 64 _)) m in
      omega (arith, few, ltb-true j n ((and-eq-true_iff (ltb j n) (not (member all j))).0 (sym (closed_is j l) ∙ m)).0)

  pub closed-nodes : (nodes : Nodes) → all ≡ set_of 64 nodes → (j : ℕ) → j < 64 → member closed j ≡ (ltb j n && not (nodes j))
  closed-nodes nodes e j l = closed_is j l ∙ rw (e, member-set_of 64 nodes j l) refl
