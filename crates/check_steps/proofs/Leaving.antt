-- What a step leaves.
use mathlib.Core.Path.{◌≡◌, refl, sym, ap, ap₂, ◌∙◌, subst}
use mathlib.Core.Bool.{Bool, true, false, cond}
use mathlib.Core.List.{List, ◌++◌}
use Prim.Native.Nat.{ℕ, ◌+◌, ◌-◌, ◌≤◌, ◌<◌}
use native.Mathlib.Decide.{ℕ_discrete}
use native.Mathlib.Omega.{arith}
use lib.Dec.{eqb}
use lib.ListN.{length, get_or, set, take, drop, length-set, length-append, length-drop}
use lib.Seq.{drop-cons, take_at, take-set-le, length-take-le}
use borrow.Author.Tests.{eq-eqb, ne_eqb}
use Rattle.shortening.specs.Laws.{Made, made, unfit}
use Rattle.check_steps.specs.Raised.{width, behind_at, again_at, second_bytes_def, contrary_at, right_of_def, right_at, with_byte, moved_down, step_on, step_length, step_leaves}
use Rattle.check_steps.proofs.Spans.{behind-in, again-in}
use Rattle.check_steps.proofs.Sides.{contrary-none, contrary-other, contrary-found, right-4, right-5, right-again, right-next, found}

-- The right side is within the text, after the step's place.
pub record Bounds (t : List ℕ) (at from : ℕ) : Type 0 where
  pub low : at ≤ from
  pub high : from < length t

behind-on : (t : List ℕ) (at : ℕ) → at < length t → at < behind_at t at
behind-on t at h = unfold width in omega (arith, ap (width 0 1) (drop-cons t at 0 h))

module _ (t : List ℕ) (at n : ℕ) where
  contrary-bounds : (contrary_at t at ≡ 0 → ⊥) → Bounds t at (contrary_at t at)
  contrary-bounds h = go (ℕ_discrete second 0) (ℕ_discrete (get_or t (second - 1) 0) 0x05) where
    second : ℕ
    second = again_at t (at + 1) 1

    go : Dec (second ≡ 0) → Dec (get_or t (second - 1) 0 ≡ 0x05) → Bounds t at (contrary_at t at)
    go (yes z) d = absurd (h (sym (contrary-none t at second refl z)))
    go (no s) (no e) = absurd (h (sym (contrary-other t at second refl s e)))
    go (no s) (yes e) =
        let a = again-in t (at + 1) 1 second refl s in
        let q : second + (second - (at + 2)) - 1 ≡ contrary_at t at = contrary-found t at second refl s e in
        record { low = omega (arith, a.low); high = omega (arith, a.low, a.room) }

  right-bounds : at + 3 ≤ length t → (right_of_def t at n ≡ 0 → ⊥) → Bounds t at (right_of_def t at n)
  right-bounds room h = go (ℕ_discrete n 4) (ℕ_discrete n 5) (ℕ_discrete (get_or second_bytes_def n 0) 0) where
    held : {x : ℕ} → x ≡ right_of_def t at n → Bounds t at x → Bounds t at (right_of_def t at n)
    held e b = subst (Bounds t at) e b

    go : Dec (n ≡ 4) → Dec (n ≡ 5) → Dec (get_or second_bytes_def n 0 ≡ 0) → Bounds t at (right_of_def t at n)
    go (yes a) b c = held (right-4 t at n a) (contrary-bounds (λ z. h (sym (right-4 t at n a) ∙ z)))
    go (no a) (yes b) c = held (right-5 t at n a b) (record { low = omega arith; high = omega (arith, behind-in t (at + 2) (omega arith)) })
    go (no a) (no b) (yes c) =
        let q = right-again t at n a b c in
        let g = again-in t (at + 1) 0 (again_at t (at + 1) 0) refl (λ z. h (sym q ∙ z)) in
        held q (record { low = omega (arith, g.low); high = omega (arith, g.low, g.room, g.is, behind-on t (at + 1) (omega arith)) })
    go (no a) (no b) (no c) = held (right-next t at n a b c) (record { low = omega arith; high = omega arith })

  pub side-bounds : (right_at t at n ≡ 0 → ⊥) → Bounds t at (right_at t at n)
  side-bounds h = let f = found t at n h in subst (Bounds t at) f.same (right-bounds f.room f.rest)

  -- In each case of the code.
  pub leaves_none : right_at t at n ≡ 0 → (0 ≡ step_length t at n) × (t ≡ step_leaves t at n)
  leaves_none e = unfold step_length step_leaves in let b = eq-eqb (right_at t at n) 0 e in (cc b, cc b)

  module _ (from : ℕ) (is : from ≡ right_at t at n) (some : from ≡ 0 → ⊥) where
    pub from-bounds : Bounds t at from
    from-bounds = rw is (side-bounds (λ z. some (is ∙ z)))

    pub length-left : length t - (from - at) ≡ step_length t at n
    length-left = unfold step_length in cc (ne_eqb from 0 some)

    pub bytes_left : moved_down (with_byte t from n) at from ≡ step_leaves t at n
    bytes_left = unfold step_leaves in cc (ne_eqb from 0 some)

module _ (t : List ℕ) (from law : ℕ) where
  pub byte-none : (law ≡ 4 → ⊥) → (law ≡ 5 → ⊥) → t ≡ with_byte t from law
  byte-none n m = unfold with_byte in cc (ne_eqb law 4 n, ne_eqb law 5 m)

  -- the text with a byte put, or unchanged
  byte-cases : (P : List ℕ → Type 0) → ((b : ℕ) → P (set t from b)) → P t → P (with_byte t from law)
  unfolding with_byte
  byte-cases P put left = go (eqb law 4) (eqb law 5) where
    go : (a b : Bool) → P (cond a (set t from 0x02) (cond b (set t from 0x01) t))
    go true b = put 0x02
    go false true = put 0x01
    go false false = left

  length-byte : length (with_byte t from law) ≡ length t
  length-byte = byte-cases (λ z. length z ≡ length t) (length-set t from) refl

  take-byte : (at : ℕ) → at ≤ from → take at (with_byte t from law) ≡ take at t
  take-byte at h = byte-cases (λ z. take at z ≡ take at t) (λ b. take-set-le at t from b h) refl

pub length_moved : (t : List ℕ) (at from : ℕ) → at ≤ from → from ≤ length t → length (moved_down t at from) ≡ length t
length_moved t at from h k = unfold moved_down in simp (length-append, length-take-le at t (omega arith), length-drop) (omega arith)

-- What the code's two writes leave.
pub record StepLeft (t : List ℕ) (at n from : ℕ) (q : List ℕ) : Type 0 where
  pub bounds : Bounds t at from
  pub same_length : length q ≡ length t
  pub answer : length q - (from - at) ≡ step_length t at n
  pub bytes : q ≡ step_leaves t at n

pub put-length : (t : List ℕ) (from n : ℕ) {p : List ℕ} → p ≡ with_byte t from n → length p ≡ length t
put-length t from n put = ap length put ∙ length-byte t from n

pub step_left : (t : List ℕ) (at n : ℕ) {from : ℕ} {p q : List ℕ} → from ≡ right_at t at n → (from ≡ 0 → ⊥) → p ≡ with_byte t from n → q ≡ moved_down p at from → StepLeft t at n from q
step_left t at n {from} {p} {q} is some put cut =
    let b : Bounds t at from = from-bounds t at n from is some in
    let put-long : length p ≡ length t = put-length t from n put in
    let long : length q ≡ length t = ap length cut ∙ length_moved p at from b.low (omega (arith, b.high)) ∙ put-long in
    record {
      bounds = b;
      same_length = long;
      answer = ap (◌- (from - at)) long ∙ length-left t at n from is some;
      bytes = cut ∙ ap (λ z. moved_down z at from) put ∙ bytes_left t at n from is some;
    }

pub leaves-length : (t : List ℕ) (at n : ℕ) → length (step_leaves t at n) ≡ length t
leaves-length t at n = go (ℕ_discrete (right_at t at n) 0) where
  go : Dec (right_at t at n ≡ 0) → length (step_leaves t at n) ≡ length t
  go (yes z) = ap length (sym (leaves_none t at n z).1)
  go (no z) = let l = step_left t at n refl z refl refl in ap length (sym l.bytes) ∙ l.same_length

-- The text after a step, at the start of what it leaves.
abbrev pub OfStep : List ℕ → (at law : ℕ) → Made (List ℕ) → Type 0
OfStep t at law (made t') = (take (step_length t at law) (step_leaves t at law) ≡ t') × (1 ≤ step_length t at law) × (step_length t at law ≤ length t)
OfStep t at law unfit = step_length t at law ≡ 0

pub of-step : (t : List ℕ) (at law : ℕ) → OfStep t at law (step_on t at law)
unfolding step_on moved_down
of-step t at law = go (ℕ_discrete (right_at t at law) 0) where
  from : ℕ
  from = right_at t at law

  w : List ℕ
  w = with_byte t from law

  go : Dec (from ≡ 0) → OfStep t at law (cond (eqb from 0) unfit (made (take at t ++ drop from w)))
  go (yes z) = rw (eq-eqb from 0 z) (sym (leaves_none t at law z).0)
  go (no z) =
      let b : Bounds t at from = from-bounds t at law from refl z in
      let l : length t - (from - at) ≡ step_length t at law = length-left t at law from refl z in
      let long : length w ≡ length t = length-byte t from law in
      let size : length (take at w ++ drop from w) ≡ length t - (from - at) = simp (length-append, length-take-le at w (omega arith), length-drop) (omega arith) in
      let text : take (step_length t at law) (step_leaves t at law) ≡ take at t ++ drop from w =
      ap₂ take (sym l) (sym (bytes_left t at law from refl z))
      ∙ take_at (take at w ++ drop from w) (drop (at + (length w - from)) w) (length t - (from - at)) size
      ∙ ap (◌++ drop from w) (take-byte t from law at b.low) in
      rw (ne_eqb from 0 z) (text, omega arith, omega arith)
