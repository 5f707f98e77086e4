-- The raised text of a term: its parts, where it ends, its bytes lowered again.
use mathlib.Core.Path.{◌≡◌, refl, sym, ap, ap₂, ◌∙◌}
use mathlib.Core.Bool.{cond}
use mathlib.Core.List.{List, [], ◌∷◌, ◌++◌, map, append_assoc, append-nil, map-append}
use Prim.Native.Nat.{ℕ, zero, suc, ◌+◌, ◌-◌, ◌%◌, ◌<◌}
use native.Mathlib.Nat.{add-zero}
use native.Mathlib.Numerals.{add-one}
use native.Mathlib.Omega.{arith}
use lib.Dec.{T, leb, ltb→lt, leb→le}
use lib.ListN.{length, length-map, length-append}
use borrow.Author.Tests.{ne_eqb}
use Rattle.logic.specs.Syntax.{Sort, Expr}
use Rattle.logic.specs.Limits.{max_nodes, ranges, InRange, Kind, label_number, arrow_number, node_number, least_count, most_count, fits}
use Rattle.logic.specs.Arity.{Unary, Binary, build1, build2, Nullary, build0, by_arity}
use Rattle.logic.proofs.Bools.{both_so}
use Rattle.logic.proofs.ArityLaws.{range-1, range-2, range-0, Fit}
use Rattle.text.specs.Code.{code}
use Rattle.text.specs.Heads.{head1, head2}
use Rattle.text.proofs.HeadLaws.{code-1, code-2}
use Rattle.shortening.specs.Place.{Context, here, only, first, second, put, before, behind}
use Rattle.shortening.proofs.Codes.{code_put}
use Rattle.check_steps.specs.Raised.{numbers_of, operands_of, next_numbers_def, raised_byte_def, raised, lowered, next_wanted_def, width}
use Rattle.check_steps.proofs.TermHeads.{Head, head-0, head-1, head-2}

abbrev pub text_of : {s : Sort} → Expr s → List ℕ
text_of e = raised 0 (code e)

-- Numbers raised.
abbrev pub marks : List ℕ → List ℕ
marks ns = map (λ x. x % 128 + 128) ns

pub length-marks : (ns : List ℕ) → length (marks ns) ≡ length ns
length-marks ns = length-map ns (λ x. x % 128 + 128)

raised-numbers : (n : ℕ) (ns z : List ℕ) → length ns ≡ n → raised n (ns ++ z) ≡ marks ns ++ raised 0 z
unfolding raised raised_byte_def next_numbers_def
raised-numbers n [] z e = ap (λ k. raised k z) (sym e)
raised-numbers zero (x ∷ ns) z e = absurd (omega arith)
raised-numbers (suc n) (x ∷ ns) z e = ap ((x % 128 + 128) ∷◌) (raised-numbers n ns z (omega arith))

width-numbers : (n w : ℕ) (ns z : List ℕ) → length ns ≡ n → width n w (ns ++ z) ≡ length ns + width 0 w z
unfolding width next_numbers_def next_wanted_def
width-numbers n w [] z e = ap (λ k. width k w z) (sym e) ∙ omega arith
width-numbers zero w (x ∷ ns) z e = absurd (omega arith)
width-numbers (suc n) w (x ∷ ns) z e =
    ap (λ b. cond b 0 (suc (width n w (ns ++ z)))) (ne_eqb (suc n + w) 0 (λ q. absurd (omega arith))) ∙ omega (arith, width-numbers n w ns z (omega arith))

-- The first bytes of a term, raised.
module _ {h : List ℕ} {k : ℕ} (H : Head h k) where
  abbrev pub numbers : List ℕ
  numbers = map (λ n. n.1) H.kinds

  counted : length numbers ≡ numbers_of H.byte
  counted = length-map H.kinds (λ n. n.1) ∙ H.count

  abbrev pub front : List ℕ
  front = H.byte ∷ marks numbers

  pub front_length : length front ≡ length h
  front_length = ap suc (length-marks numbers) ∙ sym (ap length H.is)

  raised-head : (z : List ℕ) → raised 0 (h ++ z) ≡ front ++ raised 0 z
  raised-head z = unfold raised raised_byte_def next_numbers_def in ap (λ l. raised 0 (l ++ z)) H.is ∙ ap (H.byte ∷◌) (raised-numbers (numbers_of H.byte) numbers z counted)

  raised-alone : raised 0 h ≡ front
  raised-alone = unfold raised in ap (raised 0) (sym (append-nil h)) ∙ raised-head [] ∙ append-nil front

  width-head : (w : ℕ) (z : List ℕ) → width 0 (suc w) (front ++ z) ≡ length h + width 0 (w + k) z
  unfolding width next_numbers_def next_wanted_def
  width-head w z =
      let e : suc w - 1 + operands_of H.byte ≡ w + k = omega (arith, H.wants) in
      let numbers-over = width-numbers (numbers_of H.byte) (w + k) (marks numbers) z (length-marks numbers ∙ counted) in
      ap₂ (λ b v. cond b 0 (suc (width (numbers_of H.byte) v (marks numbers ++ z)))) (ne_eqb (0 + suc w) 0 (λ q. absurd (omega arith))) e ∙ omega (arith, numbers-over, front_length)

-- A text after which the rest reads as if it stood alone.
abbrev Splits : List ℕ → Type 0
Splits l = (z : List ℕ) → raised 0 (l ++ z) ≡ raised 0 l ++ raised 0 z

splits-head : {h : List ℕ} {k : ℕ} → Head h k → Splits h
splits-head H z = raised-head H z ∙ ap (◌++ raised 0 z) (sym (raised-alone H))

splits-append : (a b : List ℕ) → Splits a → Splits b → Splits (a ++ b)
splits-append a b s t z = cc (append_assoc a b z, s (b ++ z), t z, append_assoc (raised 0 a) (raised 0 b) (raised 0 z), s b)

splits-as : {a b : List ℕ} → a ≡ b → Splits b → Splits a
splits-as e s z = ap (λ l. raised 0 (l ++ z)) e ∙ s z ∙ ap (λ l. raised 0 l ++ raised 0 z) (sym e)

pub splits : {s : Sort} (e : Expr s) → Splits (code e)
splits e = by_arity (λ s e. Splits (code e)) (λ s b. splits-head (head-0 b))
    (λ u t b x f. splits-as (code-1 b x) (splits-append (head1 b) (code x) (splits-head (head-1 b)) f))
    (λ u v t b x y f g. splits-as (code-2 b x y) (splits-append (head2 b) (code x ++ code y) (splits-head (head-2 b)) (splits-append (code x) (code y) f g)))
    e

pub text-leaf : {s : Sort} (b : Nullary s) → text_of (build0 b) ≡ front (head-0 b)
text-leaf b = raised-alone (head-0 b)

pub text-one : {u t : Sort} (b : Unary u t) (x : Expr u) → text_of (build1 b x) ≡ front (head-1 b) ++ text_of x
text-one b x = ap (raised 0) (code-1 b x) ∙ raised-head (head-1 b) (code x)

pub text-two : {u v t : Sort} (b : Binary u v t) (x : Expr u) (y : Expr v) → text_of (build2 b x y) ≡ front (head-2 b) ++ (text_of x ++ text_of y)
text-two b x y = ap (raised 0) (code-2 b x y) ∙ raised-head (head-2 b) (code x ++ code y) ∙ ap (front (head-2 b) ++◌) (splits x (code y))

-- The same with a text after it.
pub text-one-then : {u t : Sort} (b : Unary u t) (x : Expr u) (z : List ℕ) → text_of (build1 b x) ++ z ≡ front (head-1 b) ++ (text_of x ++ z)
text-one-then b x z = ap (◌++ z) (text-one b x) ∙ append_assoc (front (head-1 b)) (text_of x) z

pub text-two-then : {u v t : Sort} (b : Binary u v t) (x : Expr u) (y : Expr v) (z : List ℕ) → text_of (build2 b x y) ++ z ≡ front (head-2 b) ++ (text_of x ++ (text_of y ++ z))
text-two-then b x y z = ap (◌++ z) (text-two b x y) ∙ append_assoc (front (head-2 b)) (text_of x ++ text_of y) z ∙ ap (front (head-2 b) ++◌) (append_assoc (text_of x) (text_of y) z)

-- Where a term's text ends.
abbrev Ends : {s : Sort} → Expr s → Type 0
Ends e = (w : ℕ) (z : List ℕ) → width 0 (suc w) (text_of e ++ z) ≡ length (code e) + width 0 w z

pub width-text : {s : Sort} (e : Expr s) (w : ℕ) (z : List ℕ) → width 0 (suc w) (text_of e ++ z) ≡ length (code e) + width 0 w z
width-text e = by_arity (λ s e. Ends e)
    (λ s b w z. ap (λ l. width 0 (suc w) (l ++ z)) (text-leaf b) ∙ width-head (head-0 b) w z ∙ ap (λ v. length (code (build0 b)) + width 0 v z) (add-zero w))
    (λ u t b x f w z. ap (width 0 (suc w)) (text-one-then b x z) ∙ width-head (head-1 b) w (text_of x ++ z) ∙ ap (λ v. length (head1 b) + width 0 v (text_of x ++ z)) (add-one w)
    ∙ omega (arith, f w z, ap length (code-1 b x), length-append (head1 b) (code x)))
    (λ u v t b x y f g w z. let e : w + 2 ≡ suc (suc w) = omega arith in
    ap (width 0 (suc w)) (text-two-then b x y z) ∙ width-head (head-2 b) w (text_of x ++ (text_of y ++ z)) ∙ ap (λ v. length (head2 b) + width 0 v (text_of x ++ (text_of y ++ z))) e
    ∙ omega (arith, f (suc w) (text_of y ++ z), g w z, ap length (code-2 b x y), length-append (head2 b) (code x ++ code y), length-append (code x) (code y)))
    e

-- The text with a term at a place.
before-splits : {s t : Sort} (c : Context s t) → Splits (before c)
unfolding before raised
before-splits here = λ z. refl
before-splits (only u c) = splits-append (head1 u) (before c) (splits-head (head-1 u)) (before-splits c)
before-splits (first b c y) = splits-append (head2 b) (before c) (splits-head (head-2 b)) (before-splits c)
before-splits (second b y c) = splits-append (head2 b) (code y ++ before c) (splits-head (head-2 b)) (splits-append (code y) (before c) (splits y) (before-splits c))

pub text-put : {s t : Sort} (c : Context s t) (x : Expr s) → text_of (put c x) ≡ raised 0 (before c) ++ (text_of x ++ raised 0 (behind c))
text-put c x = ap (raised 0) (code_put c x) ∙ before-splits c (code x ++ behind c) ∙ ap (raised 0 (before c) ++◌) (splits x (behind c))

-- Lowered again, a term's text is its code.
pub lowered-append : (a b : List ℕ) → lowered (a ++ b) ≡ lowered a ++ lowered b
lowered-append a b = map-append (λ x. x % 128) a b

-- A number in range is below 128,
low : (k : Kind) (x : ℕ) → T (fits (ranges max_nodes) k x) → x < 128
low label_number x h = omega (arith, ltb→lt x 48 h)
low arrow_number x h = omega (arith, ltb→lt x 16 h)
low node_number x h = omega (arith, ltb→lt x 60 h)
low least_count x h = omega (arith, leb→le x 60 (both_so (leb 1 x) (leb x 60) h).1)
low most_count x h = omega (arith, leb→le x 59 h)

-- so raising and then lowering it changes nothing.
lower-numbers : (ns : List (Kind × ℕ)) → Fit (ranges max_nodes) ns → lowered (marks (map (λ n. n.1) ns)) ≡ map (λ n. n.1) ns
lower-numbers [] f = refl
lower-numbers (n ∷ ns) f = ap₂ ◌∷◌ (let l = low n.0 n.1 f.0 in omega arith) (lower-numbers ns f.1)

lower-head : {h : List ℕ} {k : ℕ} (H : Head h k) → Fit (ranges max_nodes) H.kinds → lowered (front H) ≡ h
lower-head H f = ap₂ ◌∷◌ (let l = H.low in omega arith) (lower-numbers H.kinds f) ∙ sym H.is

abbrev Lowers : {s : Sort} → Expr s → Type 0
Lowers e = InRange (ranges max_nodes) e → lowered (text_of e) ≡ code e

pub lowered-text : {s : Sort} (e : Expr s) → InRange (ranges max_nodes) e → lowered (text_of e) ≡ code e
unfolding head-0 head-1 head-2
lowered-text e = by_arity (λ s e. Lowers e) (λ s b r. ap lowered (text-leaf b) ∙ lower-head (head-0 b) ((range-0 (ranges max_nodes) b).0 r))
    (λ u t b x f r. let q = (range-1 (ranges max_nodes) b x).0 r in
    cc (text-one b x, lowered-append (front (head-1 b)) (text_of x), lower-head (head-1 b) q.0, f q.1, code-1 b x))
    (λ u v t b x y f g r. let q = (range-2 (ranges max_nodes) b x y).0 r in
    cc (text-two b x y, lowered-append (front (head-2 b)) (text_of x ++ text_of y), lower-head (head-2 b) q.0, lowered-append (text_of x) (text_of y), f q.1.0, g q.1.1, code-2 b x y))
    e
