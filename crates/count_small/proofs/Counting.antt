-- One sheet after another: judged, made the next, counted.
use mathlib.Core.Path.{◌≡◌, sym, ap, ap₂, ◌∙◌, subst}
use mathlib.Core.Bool.{Bool, not, ◌&&◌, cond, and_comm}
use mathlib.Core.List.{List}
use Prim.Native.Nat.{ℕ, zero, suc, ◌+◌, ◌*◌, ◌/◌, ◌^◌, ◌≤◌, ◌<◌}
use native.Mathlib.Nat.{add_comm, add_assoc, mul-le-mul_left}
use native.Mathlib.Numerals.{add-one}
use native.Mathlib.Omega.{arith}
use lib.Dec.{ltb}
use borrow.Author.Tests.{lt-ltb}
use Rattle.logic.specs.Syntax.{Expr, rule, Edit}
use Rattle.logic.specs.Graph.{Nodes, count_below}
use Rattle.logic.specs.Meaning.{hold_all}
use Rattle.logic.specs.Steps.{run}
use Rattle.bitset.specs.Words.{set_of, member, combined}
use Rattle.bitset.proofs.SetLaws.{set_of-cong, set_of-wide, member-set_of, count-le}
use Rattle.bitset.proofs.BitLaws.{member-shr}
use Rattle.count_small.specs.declared.Four.{Four}
use Rattle.count_small.specs.Small.{bits, small_sheet, four_of, four_counts}
use Rattle.count_small.specs.Questions.{most_small}
use Rattle.count_small.specs.Counting.{tallied, Room, Turned}

-- n is small
pub few_bits : (n : ℕ) → n ≤ most_small → (n * n ≤ 9) × (2 ^ bits n ≤ 4096)
few_bits zero l = (omega arith, omega arith)
few_bits (suc zero) l = (omega arith, omega arith)
few_bits (suc (suc zero)) l = (omega arith, omega arith)
few_bits (suc (suc (suc zero))) l = (omega arith, omega arith)
few_bits (suc (suc (suc (suc n)))) l = absurd (omega arith)

pub row-few : (n i : ℕ) → n ≤ most_small → i < n → n * i ≤ 9
row-few n i l k = let h : i ≤ n = omega arith in omega (arith, (few_bits n l).0, mul-le-mul_left n h)

-- n bits of x, from a bit on
pub part-is : (x from n low : ℕ) → n < 64 → low ≡ set_of 64 (λ j. ltb j n) → combined ◌&&◌ (x / 2 ^ from) low ≡ set_of n (λ j. member x (from + j))
part-is x from n low l e =
    set_of-cong 64 _ (λ j. ltb j n && member x (from + j)) (λ j k. ap (member (x / 2 ^ from) j &&◌) (ap (λ (y : ℕ). member y j) e ∙ member-set_of 64 (λ i. ltb i n) j k)
    ∙ ap (◌&& ltb j n) (member-shr x from j ∙ ap (member x) (add_comm j from)) ∙ and_comm (member x (from + j)) (ltb j n))
    ∙ set_of-wide n 64 (λ j. member x (from + j)) (omega arith)

-- the words of a small sheet
pub label_is : (n x w : ℕ) → w ≡ set_of n (λ j. member x (0 + j)) → w ≡ set_of n ((small_sheet n x).labelled 0)
label_is n x w e = unfold small_sheet in e ∙ set_of-cong n _ _ (λ j l. let z : 0 + j ≡ j = omega arith in ap (member x) z ∙ ap (◌&& member x j) (sym (lt-ltb j n l)))

pub row_is : (n x i w : ℕ) → i < n → w ≡ set_of n (λ j. member x (n + n * i + j)) → w ≡ set_of n ((small_sheet n x).joined 0 i)
row_is n x i w k e = unfold small_sheet in e ∙ set_of-cong n _ _ (λ j l. ap (member x) (add_assoc n (n * i) j) ∙ sym (rw (lt-ltb i n k, lt-ltb j n l)))

-- One more sheet is counted.
pub tally-more : (x : ℕ) (before next : Nodes) → tallied (four_of x before next) (before x) (next x) ≡ four_of (x + 1) before next
unfolding tallied four_of count_below
tally-more x before next =
    λ t. record {
      kept = more (λ y. before y && next y) t;
      lost = more (λ y. before y && not (next y)) t;
      repaired = more (λ y. not (before y) && next y) t;
      broken = more (λ y. not (before y) && not (next y)) t;
    } where
      more : (v : Nodes) → cond (v x) (count_below x v + 1) (count_below x v) ≡ count_below (x + 1) v
      more v = ap (λ (m : ℕ). cond (v x) m (count_below x v)) (add-one (count_below x v)) ∙ sym (ap (λ (m : ℕ). count_below m v) (add-one x))

-- There is room for one more.
pub room : (x : ℕ) (before next : Nodes) (f : Four) → x < 4096 → f ≡ four_of x before next → Room f
unfolding four_of
room x before next f l e =
    subst Room (sym e) (record {
      kept_room = omega (arith, count-le x (λ y. before y && next y));
      lost_room = omega (arith, count-le x (λ y. before y && not (next y)));
      repaired_room = omega (arith, count-le x (λ y. not (before y) && next y));
      broken_room = omega (arith, count-le x (λ y. not (before y) && not (next y)));
    })

pub none-counted : (before next : Nodes) (f : Four) → (f.kept ≡ 0) × ((f.lost ≡ 0) × ((f.repaired ≡ 0) × (f.broken ≡ 0))) → f ≡ four_of 0 before next
unfolding four_of count_below
none-counted before next f e = λ t. record { kept = e.0 t; lost = e.1.0 t; repaired = e.1.1.0 t; broken = e.1.1.1 t }

-- The counts so far, with sheet x; and all of them.
pub counted-more : (n x : ℕ) (rules : List (Expr rule)) (Z : Edit) (four four' : Four) (b a : Bool) → four ≡ four_of x (λ y. hold_all (small_sheet n y) rules) (λ y. hold_all (run Z (small_sheet n y)) rules) → Turned n x rules Z b a
    → four' ≡ tallied four b a → four' ≡ four_of (x + 1) (λ y. hold_all (small_sheet n y) rules) (λ y. hold_all (run Z (small_sheet n y)) rules)
counted-more n x rules Z four four' b a e t m =
    let before : Nodes = λ y. hold_all (small_sheet n y) rules in
    let next : Nodes = λ y. hold_all (run Z (small_sheet n y)) rules in
    m ∙ ap (λ (f : Four). tallied f b a) e ∙ ap₂ (tallied (four_of x before next)) t.before_is t.next_is ∙ tally-more x before next

pub counted-all : (n x : ℕ) (rules : List (Expr rule)) (Z : Edit) (four : Four) → x ≡ 2 ^ bits n → four ≡ four_of x (λ y. hold_all (small_sheet n y) rules) (λ y. hold_all (run Z (small_sheet n y)) rules) → four ≡ four_counts n rules Z
counted-all n x rules Z four e h = unfold four_counts in h ∙ ap (λ (m : ℕ). four_of m (λ y. hold_all (small_sheet n y) rules) (λ y. hold_all (run Z (small_sheet n y)) rules)) e
