-- Digits written from the last to the first, and the number that they say.
use mathlib.Core.Path.{◌≡◌, refl, sym, ◌∙◌, ap, ap₂}
use mathlib.Core.List.{List, [], ◌∷◌, ◌++◌, append_assoc, append-nil}
use Prim.Native.Nat.{ℕ, zero, suc, ◌+◌, ◌*◌, ◌-◌, ◌/◌, ◌%◌, ◌≤◌, ◌<◌}
use native.Mathlib.Nat.{div-add-mod'}
use native.Mathlib.Omega.{arith}
use native.Mathlib.Numerals.{sub-one}
use lib.ListN.{length, set, drop, length-append}
use lib.Seq.{drop-cons, drop-set-lt, drop-length, get_or-set_same, lt-length-set}
use Rattle.decimal.specs.Digits.{digits, said}

-- Before the first digit is written.
pub none_written : (o : List ℕ) (n : ℕ) → digits (length o) n ++ drop (length o) o ≡ digits (length o) n
none_written o n = ap (λ (l : List ℕ). digits (length o) n ++ l) (drop-length o) ∙ append-nil (digits (length o) n)

-- One more digit, before those already written.
module _ (o : List ℕ) (rest : ℕ) where
  written_at : (k : ℕ) → k < length o → drop k (set o k (48 + rest % 10)) ≡ (48 + rest % 10) ∷ drop (suc k) o
  written_at k h =
      drop-cons (set o k (48 + rest % 10)) k 0 (lt-length-set o k (48 + rest % 10) h)
      ∙ ap₂ (λ (a : ℕ) (l : List ℕ). a ∷ l) (get_or-set_same o k (48 + rest % 10) 0 h) (drop-set-lt (suc k) o k (48 + rest % 10) (omega arith))

  pub one_written : (at : ℕ) → 0 < at → at ≤ length o
      → digits (at - 1) (rest / 10) ++ drop (at - 1) (set o (at - 1) (48 + rest % 10)) ≡ digits at rest ++ drop at o
  unfolding digits
  one_written zero z h = absurd (omega arith)
  one_written (suc k) z h =
      rw sub-one
      (ap (λ (l : List ℕ). digits k (rest / 10) ++ l) (written_at k h)
      ∙ sym (append_assoc (digits k (rest / 10)) ((48 + rest % 10) ∷ []) (drop (suc k) o)))

-- How many digits there are.
pub digits-length : (w n : ℕ) → length (digits w n) ≡ w
unfolding digits
digits-length zero n = refl
digits-length (suc w) n = length-append (digits w (n / 10)) ((48 + n % 10) ∷ []) ∙ omega (arith, digits-length w (n / 10))

-- They say the number, if it has no more digits than that.
said-append : (n : ℕ) (a b : List ℕ) → said n (a ++ b) ≡ said (said n a) b
unfolding said
said-append n [] b = refl
said-append n (d ∷ a) b = said-append (10 * n + (d - 48)) a b

-- The part of a number that w digits leave out.
unfoldable pub Left : ℕ → ℕ → ℕ
Left zero n = n
Left (suc w) n = Left w (n / 10)

pub said-digits : (w n : ℕ) → Left w n ≡ 0 → said 0 (digits w n) ≡ n
unfolding said digits Left
said-digits zero n h = sym h
said-digits (suc w) n h =
    said-append 0 (digits w (n / 10)) ((48 + n % 10) ∷ [])
    ∙ ap (λ m. 10 * m + (48 + n % 10 - 48)) (said-digits w (n / 10) h)
    ∙ omega (arith, div-add-mod' n 10)
