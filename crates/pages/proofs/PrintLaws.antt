-- A page written: its head, then its lines.
use mathlib.Core.Path.{◌≡◌, sym, ◌∙◌, ap, ap₂}
use mathlib.Core.List.{List, ◌++◌, append_assoc, append-nil}
use Prim.Native.Nat.{ℕ, ◌+◌, ◌-◌, ◌≤◌}
use native.Mathlib.Omega.{arith}
use lib.ListN.{length, take, drop, length-append, length-drop}
use lib.Seq.{take_at, take_all, drop_at, drop-drop, drop-length}
use borrow.Rule.Slice.PartMut.{mid_of, post_of, put_mid, Post-is}
use Rattle.answer.specs.Outputs.{written_at_start}

-- the head is written, and then the lines after it
module _ (output head : List ℕ) (whole : length head ≡ 64) (room : 64 ≤ length output) where
  abbrev headed : List ℕ
  headed = head ++ post_of 0 64 output

  pub headed-length : length headed ≡ length output
  headed-length = length-append head (drop 64 output) ∙ omega (arith, length-drop 64 output)

  pub headed-rest : mid_of 64 (length headed - 64) headed ≡ drop 64 output
  headed-rest =
      ap (take (length headed - 64)) (drop_at head (drop 64 output) 64 whole)
      ∙ take_all (length headed - 64) (drop 64 output) (omega (arith, length-drop 64 output, headed-length))

  pub page-put : (lines new : List ℕ) → new ≡ written_at_start lines (mid_of 64 (length headed - 64) headed)
      → put_mid 64 (length headed - 64) headed new ≡ written_at_start (head ++ lines) output
  page-put lines new e =
      let w : 64 + length lines ≡ length (head ++ lines) = omega (arith, length-append head lines) in
      ap₂ (λ y z. y ++ (new ++ z)) (take_at head (drop 64 output) 64 whole) (Post-is 64 (length headed) headed (omega (arith, headed-length)) ∙ drop-length headed)
      ∙ ap (head ++◌) (append-nil new ∙ e ∙ ap (written_at_start lines) headed-rest)
      ∙ sym (append_assoc head lines _)
      ∙ ap ((head ++ lines) ++◌) (drop-drop (length lines) 64 output ∙ ap (λ k. drop k output) w)
