-- The bytes of a joined edit: P's without the last, then Q's.
use mathlib.Core.Path.{◌≡◌, refl, sym, ◌∙◌, ap}
use mathlib.Core.List.{List, [], ◌∷◌, ◌++◌, append_assoc}
use Prim.Native.Nat.{ℕ, ◌+◌, ◌-◌, ◌<◌}
use native.Mathlib.Omega.{arith}
use lib.ListN.{length, take, length-append}
use lib.Seq.{take_at}
use Rattle.logic.specs.Syntax.{Edit, finish, add_label, take_label, add_arrow, take_arrow, choose}
use Rattle.logic.specs.Carry.{followed_by}
use Rattle.text.specs.Code.{code, edit_code}
use Rattle.join_edits.specs.Chain.{without_last}

-- the bytes of an edit before its end
step_bytes : Edit → List ℕ
step_bytes finish = []
step_bytes (add_label k E Z) = 0x31 ∷ k ∷ code E ++ step_bytes Z
step_bytes (take_label k E Z) = 0x32 ∷ k ∷ code E ++ step_bytes Z
step_bytes (add_arrow a R Z) = 0x33 ∷ a ∷ code R ++ step_bytes Z
step_bytes (take_arrow a R Z) = 0x34 ∷ a ∷ code R ++ step_bytes Z
step_bytes (choose K P Q Z) = 0x35 ∷ code K ++ edit_code P ++ edit_code Q ++ step_bytes Z

module _ (Q : Edit) where
  behind : (h m : List ℕ) {l : List ℕ} → l ≡ m ++ edit_code Q → h ++ l ≡ (h ++ m) ++ edit_code Q
  behind h m e = ap (h ++◌) e ∙ sym (append_assoc h m (edit_code Q))

steps_then : (P Q : Edit) → edit_code (followed_by P Q) ≡ step_bytes P ++ edit_code Q
unfolding step_bytes followed_by edit_code
steps_then finish Q = refl
steps_then (add_label k E P) Q = ap (λ (l : List ℕ). 0x31 ∷ k ∷ l) (behind Q (code E) (step_bytes P) (steps_then P Q))
steps_then (take_label k E P) Q = ap (λ (l : List ℕ). 0x32 ∷ k ∷ l) (behind Q (code E) (step_bytes P) (steps_then P Q))
steps_then (add_arrow a R P) Q = ap (λ (l : List ℕ). 0x33 ∷ a ∷ l) (behind Q (code R) (step_bytes P) (steps_then P Q))
steps_then (take_arrow a R P) Q = ap (λ (l : List ℕ). 0x34 ∷ a ∷ l) (behind Q (code R) (step_bytes P) (steps_then P Q))
steps_then (choose K P₁ Q₁ P) Q = ap (λ (l : List ℕ). 0x35 ∷ l) (behind Q (code K ++ edit_code P₁ ++ edit_code Q₁) (step_bytes P) (steps_then P Q))

-- An edit followed by the end alone is itself.
pub followed-by-end : (P : Edit) → followed_by P finish ≡ P
unfolding followed_by
followed-by-end finish = refl
followed-by-end (add_label k E P) = ap (add_label k E) (followed-by-end P)
followed-by-end (take_label k E P) = ap (take_label k E) (followed-by-end P)
followed-by-end (add_arrow a R P) = ap (add_arrow a R) (followed-by-end P)
followed-by-end (take_arrow a R P) = ap (take_arrow a R) (followed-by-end P)
followed-by-end (choose K P₁ Q₁ P) = ap (choose K P₁ Q₁) (followed-by-end P)

module _ (P : Edit) where
  ends_so : edit_code P ≡ step_bytes P ++ (0x30 ∷ [])
  ends_so = unfold edit_code in ap edit_code (sym (followed-by-end P)) ∙ steps_then P finish

  long : length (edit_code P) ≡ length (step_bytes P) + 1
  long = ap length ends_so ∙ length-append (step_bytes P) (0x30 ∷ [])

  -- Every edit has at least one byte.
  pub some_byte : 0 < length (edit_code P)
  some_byte = omega (arith, long)

  without-last : without_last (edit_code P) ≡ step_bytes P
  without-last = ap (take (length (edit_code P) - 1)) ends_so ∙ take_at (step_bytes P) (0x30 ∷ []) (length (edit_code P) - 1) (omega (arith, long))

  -- THE LAW: P's bytes without the last, then Q's.
  pub joined_bytes : (Q : Edit) → edit_code (followed_by P Q) ≡ without_last (edit_code P) ++ edit_code Q
  joined_bytes Q = steps_then P Q ∙ ap (◌++ edit_code Q) (sym without-last)

  pub joined_length : (Q : Edit) → length (edit_code (followed_by P Q)) ≡ length (edit_code P) - 1 + length (edit_code Q)
  joined_length Q = ap length (steps_then P Q) ∙ length-append (step_bytes P) (edit_code Q) ∙ ap (◌+ length (edit_code Q)) (let e : length (step_bytes P) ≡ length (edit_code P) - 1 = omega (arith, long) in e)
