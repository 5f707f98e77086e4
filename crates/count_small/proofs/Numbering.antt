-- Each small sheet has exactly one number below 2 to the power of its bits.
use mathlib.Core.Path.{◌≡◌, refl, sym, ◌∙◌, ap, ap₂, subst}
use mathlib.Core.Bool.{Bool, true, false, ◌&&◌, cond, and-false}
use Prim.Native.Nat.{ℕ, suc, ◌+◌, ◌-◌, ◌*◌, ◌/◌, ◌%◌, ◌^◌, ◌≤◌, ◌<◌}
use native.Mathlib.Nat.{mul-suc, mul-le-mul_left, mul-add-div, mul-add-mod_self_left, div-add-mod, div-eq_of_lt, mod-eq_of_lt, mod-lt, div-lt_iff_lt-mul}
use native.Mathlib.Omega.{arith}
use native.Mathlib.Decide.{dec_lt}
use lib.Dec.{eqb, ltb}
use borrow.Author.Tests.{lt-ltb, le-ltb, ltb-true, ltb-false, ne_eqb, eqb-true, eqb-false}
use Rattle.bitset.specs.Words.{set_of, member}
use Rattle.bitset.proofs.SetLaws.{set_of-lt, set_of-cong, set_of-member-lt, member-set_of}
use Rattle.logic.specs.Graph.{Graph, Nodes, is_node}
use Rattle.logic.specs.Limits.{max_nodes}
use Rattle.logic.proofs.Below.{any-one}
use Rattle.logic.proofs.Bools.{true-false}
use Rattle.logic.proofs.Inside.{no_node}
use Rattle.count_small.specs.Small.{Small, bits, small_sheet}

-- the bit of a pair is one of the bits, after those of the nodes
pair-bit : (n i j : ℕ) → i < n → j < n → n + (n * i + j) < bits n
pair-bit n i j l k = let row : n * suc i ≤ n * n = mul-le-mul_left n l in omega (arith, mul-suc n i)

-- and says which pair it is
pair_row : (n i j : ℕ) → i < n → j < n → (n * i + j) / n ≡ i
pair_row n i j l k = let some : 0 < n = omega arith in mul-add-div some i j ∙ ap (i +◌) (div-eq_of_lt k) ∙ omega arith

pair-column : (n i j : ℕ) → j < n → (n * i + j) % n ≡ j
pair-column n i j k = mul-add-mod_self_left n i j ∙ mod-eq_of_lt k

-- a bit after those of the nodes is that of a pair
bit-pair : (n p : ℕ) → 0 < n → n ≤ p → p < bits n → (i : ℕ) × (j : ℕ) × (i < n) × (j < n) × (p ≡ n + (n * i + j))
bit-pair n p some l u =
    let q : ℕ = p - n in
    let whole : n * (q / n) + q % n ≡ q = div-add-mod q n in
    let e : p ≡ n + (n * (q / n) + q % n) = omega arith in
    (q / n, q % n, (div-lt_iff_lt-mul some).1 (omega arith), mod-lt q some, e)

-- Different numbers, different sheets.
pub numbered-once : (n x y : ℕ) → 0 < n → x < 2 ^ bits n → y < 2 ^ bits n → small_sheet n x ≡ small_sheet n y → x ≡ y
unfolding small_sheet
numbered-once n x y some l k e = sym (set_of-member-lt (bits n) x l) ∙ set_of-cong (bits n) (member x) (member y) same ∙ set_of-member-lt (bits n) y k where
  same : (p : ℕ) → p < bits n → member x p ≡ member y p
  same p u = go (dec_lt p n) where
    node : p < n → member x p ≡ member y p
    node m = let q : (ltb p n && member x p) ≡ (ltb p n && member y p) = ap (λ g. g.labelled 0 p) e in rw (lt-ltb p n m) at q

    pair : (i j : ℕ) → i < n → j < n → member x (n + (n * i + j)) ≡ member y (n + (n * i + j))
    pair i j a b = let q : ((ltb i n && ltb j n) && member x (n + (n * i + j))) ≡ ((ltb i n && ltb j n) && member y (n + (n * i + j))) = ap (λ g. g.joined 0 i j) e in rw (lt-ltb i n a, lt-ltb j n b) at q

    go : Dec (p < n) → member x p ≡ member y p
    go (yes m) = node m
    go (no m) = let (i, j, a, b, f) = bit-pair n p some (omega arith) u in ap (member x) f ∙ pair i j a b ∙ ap (member y) (sym f)

-- The number of a small sheet.
sheet_bits : ℕ → Graph → Nodes
sheet_bits n g p = cond (ltb p n) (g.labelled 0 p) (g.joined 0 ((p - n) / n) ((p - n) % n))

module _ (n : ℕ) (g : Graph) (s : Small n g) where
  x : ℕ
  x = set_of (bits n) (sheet_bits n g)

  node-bit : (i : ℕ) → i < n → member x i ≡ g.labelled 0 i
  unfolding x sheet_bits
  node-bit i l = member-set_of (bits n) (sheet_bits n g) i (omega arith) ∙ ap (λ b. cond b (g.labelled 0 i) (g.joined 0 ((i - n) / n) ((i - n) % n))) (lt-ltb i n l)

  pair-at : (i j : ℕ) → i < n → j < n → member x (n + (n * i + j)) ≡ g.joined 0 i j
  unfolding x sheet_bits
  pair-at i j l k =
      let p : ℕ = n + (n * i + j) in
      let q : p - n ≡ n * i + j = omega arith in
      member-set_of (bits n) (sheet_bits n g) p (pair-bit n i j l k)
      ∙ ap (λ b. cond b (g.labelled 0 p) (g.joined 0 ((p - n) / n) ((p - n) % n))) (le-ltb p n (omega arith))
      ∙ ap₂ (g.joined 0) (ap (◌/ n) q ∙ pair_row n i j l k) (ap (◌% n) q ∙ pair-column n i j k)

  -- on a small sheet the nodes are the numbers below n
  beyond : (i : ℕ) → ltb i n ≡ false → is_node g i ≡ false
  beyond i e = no_node g i (subst (λ m. m ≤ i) (sym s.count) (ltb-false i n e))

  numbered : small_sheet n x ≡ g
  unfolding small_sheet
  numbered =
      λ t. record {
        n = sym s.count t;
        in_use = λ i. sym (s.all_in_use i) t;
        labelled = λ k i. labels k i (eqb k 0) refl (ltb i n) refl t;
        joined = λ a i j. arrows a i j (eqb a 0) refl (ltb i n) refl (ltb j n) refl t;
      } where
        labels : (k i : ℕ) (b : Bool) → eqb k 0 ≡ b → (c : Bool) → ltb i n ≡ c → (b && (c && member x i)) ≡ g.labelled k i
        labels k i false e c d = sym (s.one_label k i (eqb-false k 0 e))
        labels k i true e true d = node-bit i (ltb-true i n d) ∙ ap (λ k. g.labelled k i) (sym (eqb-true k 0 e))
        labels k i true e false d = sym (s.within.labels_in k i (beyond i d))

        arrows : (a i j : ℕ) (b : Bool) → eqb a 0 ≡ b → (c : Bool) → ltb i n ≡ c → (d : Bool) → ltb j n ≡ d → (b && ((c && d) && member x (n + (n * i + j)))) ≡ g.joined a i j
        arrows a i j false e c l d k = sym (s.one_arrow a i j (eqb-false a 0 e))
        arrows a i j true e true l true k = pair-at i j (ltb-true i n l) (ltb-true j n k) ∙ ap (λ a. g.joined a i j) (sym (eqb-true a 0 e))
        arrows a i j true e true l false k = sym ((s.within.arrows_in a).ends i j (beyond j k))
        arrows a i j true e false l d k = sym ((s.within.arrows_in a).starts i j (beyond i l))

-- Every small sheet is numbered,
pub each-numbered : (n : ℕ) (g : Graph) → Small n g → (x : ℕ) × (x < 2 ^ bits n) × (small_sheet n x ≡ g)
each-numbered n g s = unfold x in (x n g s, set_of-lt (bits n) (sheet_bits n g), numbered n g s)

-- and every number gives a small sheet.
pub number_small : (n x : ℕ) → 1 ≤ n → n ≤ max_nodes → Small n (small_sheet n x)
unfolding small_sheet is_node
number_small n x some few =
    record {
      within = record {
        some_node = any-one n (λ i. ltb i n) 0 some (lt-ltb 0 n some);
        few_nodes = few;
        use_below = λ i l. le-ltb i n l;
        labels_in = λ k i h. label (eqb k 0) (ltb i n) (member x i) h;
        arrows_in = λ a. record { starts = λ i j h. from (eqb a 0) (ltb i n) (ltb j n) (member x (n + (n * i + j))) h; ends = λ i j h. to (eqb a 0) (ltb i n) (ltb j n) (member x (n + (n * i + j))) h };
        no_more_labels = λ k i l. ap (◌&& (ltb i n && member x i)) (ne_eqb k 0 (λ e. absurd (omega arith)));
        no_more_arrows = λ a i j l. ap (◌&& ((ltb i n && ltb j n) && member x (n + (n * i + j)))) (ne_eqb a 0 (λ e. absurd (omega arith)));
      };
      count = refl;
      all_in_use = λ i. refl;
      one_label = λ k i h. ap (◌&& (ltb i n && member x i)) (ne_eqb k 0 h);
      one_arrow = λ a i j h. ap (◌&& ((ltb i n && ltb j n) && member x (n + (n * i + j)))) (ne_eqb a 0 h);
    } where
      label : (a b m : Bool) → (b && b) ≡ false → (a && (b && m)) ≡ false
      label a true m h = true-false refl h
      label a false m h = and-false a

      from : (a b c m : Bool) → (b && b) ≡ false → (a && ((b && c) && m)) ≡ false
      from a true c m h = true-false refl h
      from a false c m h = and-false a

      to : (a b c m : Bool) → (c && c) ≡ false → (a && ((b && c) && m)) ≡ false
      to a b true m h = true-false refl h
      to a b false m h = rw (and-false b, and-false a)
