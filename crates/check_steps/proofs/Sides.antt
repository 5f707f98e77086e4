-- The right side of a law in each case of the code, and what is known if it is found; and moving bytes down.
use mathlib.Core.Path.{◌≡◌, sym, ap, ◌∙◌}
use mathlib.Core.Bool.{cond}
use mathlib.Core.List.{List, ◌++◌}
use Prim.Native.Nat.{ℕ, ◌+◌, ◌-◌, ◌≤◌, ◌<◌}
use native.Mathlib.Decide.{dec_lt, ℕ_discrete}
use native.Mathlib.Omega.{arith}
use lib.Dec.{eqb}
use lib.ListN.{length, get_or, take, drop, length-drop}
use lib.Seq.{take-length, paste}
use borrow.Author.Tests.{le-leb, lt-leb, eq-eqb, ne_eqb}
use Rattle.check_steps.specs.Raised.{behind_at, again_at, first_bytes_def, second_bytes_def, contrary_at, right_of_def, right_at, moved_down}

module _ (t : List ℕ) (at second : ℕ) (is : second ≡ again_at t (at + 1) 1) where
  pub contrary-none : second ≡ 0 → 0 ≡ contrary_at t at
  contrary-none e = unfold contrary_at in cc (eq-eqb second 0 e)

  module _ (some : second ≡ 0 → ⊥) where
    pub contrary-other : (get_or t (second - 1) 0 ≡ 0x05 → ⊥) → 0 ≡ contrary_at t at
    contrary-other n = unfold contrary_at in cc (ne_eqb second 0 some, ne_eqb (get_or t (second - 1) 0) 0x05 n)

    pub contrary-found : get_or t (second - 1) 0 ≡ 0x05 → second + (second - (at + 2)) - 1 ≡ contrary_at t at
    contrary-found n = unfold contrary_at in cc (ne_eqb second 0 some, eq-eqb (get_or t (second - 1) 0) 0x05 n)

module _ (t : List ℕ) (at law : ℕ) where
  pub right-4 : law ≡ 4 → contrary_at t at ≡ right_of_def t at law
  right-4 e = unfold right_of_def in cc

  module _ (not4 : law ≡ 4 → ⊥) where
    pub right-5 : law ≡ 5 → behind_at t (at + 2) - 1 ≡ right_of_def t at law
    right-5 e = unfold right_of_def in cc

    module _ (not5 : law ≡ 5 → ⊥) where
      pub right-again : get_or second_bytes_def law 0 ≡ 0 → again_at t (at + 1) 0 ≡ right_of_def t at law
      right-again e = unfold right_of_def in cc (ne_eqb law 4 not4, ne_eqb law 5 not5, eq-eqb (get_or second_bytes_def law 0) 0 e)

      pub right-next : (get_or second_bytes_def law 0 ≡ 0 → ⊥) → at + 2 ≡ right_of_def t at law
      right-next e = unfold right_of_def in cc (ne_eqb law 4 not4, ne_eqb law 5 not5, ne_eqb (get_or second_bytes_def law 0) 0 e)

  pub side-short : length t < at + 3 → 0 ≡ right_at t at law
  side-short h = unfold right_at in cc (lt-leb (at + 3) (length t) h)

  module _ (room : at + 3 ≤ length t) where
    pub side-unknown : 8 < law → 0 ≡ right_at t at law
    side-unknown h = unfold right_at in cc (le-leb (at + 3) (length t) room, lt-leb law 8 h)

    module _ (known : law ≤ 8) where
      pub side-first : (get_or t at 0 ≡ get_or first_bytes_def law 0 → ⊥) → 0 ≡ right_at t at law
      side-first n = unfold right_at in cc (le-leb (at + 3) (length t) room, le-leb law 8 known, ne_eqb (get_or t at 0) (get_or first_bytes_def law 0) n)

      module _ (first : get_or t at 0 ≡ get_or first_bytes_def law 0) where
        begins : {x : ℕ} → cond (eqb (get_or second_bytes_def law 0) 0) (right_of_def t at law) (cond (eqb (get_or t (at + 1) 0) (get_or second_bytes_def law 0)) (right_of_def t at law) 0) ≡ x → x ≡ right_at t at law
        begins e = unfold right_at in cc (le-leb (at + 3) (length t) room, le-leb law 8 known, eq-eqb (get_or t at 0) (get_or first_bytes_def law 0) first)

        pub side-any : get_or second_bytes_def law 0 ≡ 0 → right_of_def t at law ≡ right_at t at law
        side-any z = begins (cc (eq-eqb (get_or second_bytes_def law 0) 0 z))

        module _ (fixed : get_or second_bytes_def law 0 ≡ 0 → ⊥) where
          pub side-second : (get_or t (at + 1) 0 ≡ get_or second_bytes_def law 0 → ⊥) → 0 ≡ right_at t at law
          side-second n = begins (cc (ne_eqb (get_or second_bytes_def law 0) 0 fixed, ne_eqb (get_or t (at + 1) 0) (get_or second_bytes_def law 0) n))

          pub side-both : get_or t (at + 1) 0 ≡ get_or second_bytes_def law 0 → right_of_def t at law ≡ right_at t at law
          side-both e = begins (cc (ne_eqb (get_or second_bytes_def law 0) 0 fixed, eq-eqb (get_or t (at + 1) 0) (get_or second_bytes_def law 0) e))

-- What is known if the right side is found.
pub record Found (t : List ℕ) (at n : ℕ) : Type 0 where
  pub known : n < 9
  pub room : at + 3 ≤ length t
  pub first-is : get_or t at 0 ≡ get_or first_bytes_def n 0
  pub second_is : (get_or second_bytes_def n 0 ≡ 0 → ⊥) → get_or t (at + 1) 0 ≡ get_or second_bytes_def n 0
  pub same : right_of_def t at n ≡ right_at t at n
  pub rest : right_of_def t at n ≡ 0 → ⊥

pub found : (t : List ℕ) (at n : ℕ) → (right_at t at n ≡ 0 → ⊥) → Found t at n
found t at n h = go (dec_lt (length t) (at + 3)) (dec_lt 8 n) (ℕ_discrete (get_or t at 0) (get_or first_bytes_def n 0)) (ℕ_discrete (get_or second_bytes_def n 0) 0) (ℕ_discrete (get_or t (at + 1) 0) (get_or second_bytes_def n 0))
  where
    there : n < 9 → at + 3 ≤ length t → get_or t at 0 ≡ get_or first_bytes_def n 0 → ((get_or second_bytes_def n 0 ≡ 0 → ⊥) → get_or t (at + 1) 0 ≡ get_or second_bytes_def n 0) → right_of_def t at n ≡ right_at t at n → Found t at n
    there k r f s e = record { known = k; room = r; first-is = f; second_is = s; same = e; rest = λ z. h (sym e ∙ z) }

    go : Dec (length t < at + 3) → Dec (8 < n) → Dec (get_or t at 0 ≡ get_or first_bytes_def n 0) → Dec (get_or second_bytes_def n 0 ≡ 0) → Dec (get_or t (at + 1) 0 ≡ get_or second_bytes_def n 0) → Found t at n
    go (yes a) b c d e = absurd (h (sym (side-short t at n a)))
    go (no a) (yes b) c d e = absurd (h (sym (side-unknown t at n (omega arith) b)))
    go (no a) (no b) (no c) d e = absurd (h (sym (side-first t at n (omega arith) (omega arith) c)))
    go (no a) (no b) (yes c) (yes d) e = there (omega arith) (omega arith) c (λ q. absurd (q d)) (side-any t at n (omega arith) (omega arith) c d)
    go (no a) (no b) (yes c) (no d) (no e) = absurd (h (sym (side-second t at n (omega arith) (omega arith) c d e)))
    go (no a) (no b) (yes c) (no d) (yes e) = there (omega arith) (omega arith) c (λ q. e) (side-both t at n (omega arith) (omega arith) c d e)

-- The bytes moved down at once.
pub moved-by : (t : List ℕ) (at from : ℕ) → paste t at (drop from t) (length t - from) ≡ moved_down t at from
unfolding moved_down
moved-by t at from = ap (λ z. take at t ++ z ++ drop (at + (length t - from)) t) (ap (λ k. take k (drop from t)) (sym (length-drop from t)) ∙ take-length (drop from t))
