-- The block of a part of an edit passes its questions and holds that part.
use mathlib.Core.Path.{◌≡◌, refl, sym, ◌∙◌, ap, ap₂}
use mathlib.Core.Bool.{Bool, true, ◌||◌}
use mathlib.Core.List.{List, ◌∷◌, ◌++◌, append_assoc}
use Prim.Native.Nat.{ℕ, zero, suc, ◌+◌, ◌-◌, ◌/◌, ◌%◌, ◌≤◌}
use native.Mathlib.Omega.{arith}
use lib.Dec.{eqb}
use lib.ListN.{length, get_or, take, drop, replicate, length-append, length-replicate}
use lib.Seq.{take_at, drop_at, drop-drop}
use Rattle.answer.specs.Asked.{passed}
use Rattle.bitset.specs.Words.{bytes}
use Rattle.seal.specs.Seal.{modulo257, seal, sealed, seal_right_def}
use Rattle.seal.proofs.SealLaws.{sealed-right, length-sealed}
use Rattle.log_blocks.specs.Log.{is_last, mark_right_def, count, count_right_def, content, all_zero, zeros_behind, ask_log_block}
use Rattle.log_blocks.specs.Making.{block}
use Rattle.log_blocks.proofs.FieldLaws.{zeros-left}
use Rattle.log_blocks.proofs.TakeLaws.{good}

pub zeros-zero : (n : ℕ) → all_zero (replicate n 0) ≡ true
unfolding all_zero
zeros-zero zero = refl
zeros-zero (suc n) = zeros-zero n

-- its body
unfoldable pub body : (mark : ℕ) → List ℕ → List ℕ
body mark part = 3 ∷ mark ∷ (length part % 256) ∷ (length part / 256 % 256) ∷ (part ++ replicate (504 - length part) 0)

module _ (mark : ℕ) (part : List ℕ) where
  pub block-is : block mark part ≡ sealed modulo257 (body mark part)
  block-is = unfold block body bytes in refl

  pub mark-is : get_or (block mark part) 1 0 ≡ mark
  mark-is = unfold block sealed in refl

  three-is : get_or (block mark part) 0 0 ≡ 3
  three-is = unfold block sealed in refl

  pub last-is : is_last (block mark part) ≡ (eqb mark 2 || eqb mark 3)
  last-is = unfold is_last in ap (λ (m : ℕ). eqb m 2 || eqb m 3) mark-is

  module _ (few : length part ≤ 504) where
    length-body : length (body mark part) ≡ 508
    length-body = unfold body in omega (arith, length-append part (replicate (504 - length part) 0), length-replicate {A = ℕ} (504 - length part) 0)

    pub block-whole : length (block mark part) ≡ 512
    block-whole = ap length block-is ∙ length-sealed modulo257 (body mark part) length-body

    block-right : seal_right_def modulo257 (block mark part) ≡ true
    block-right = ap (seal_right_def modulo257) block-is ∙ sealed-right modulo257 (body mark part) length-body

    pub count-is : count (block mark part) ≡ length part
    count-is = unfold count block sealed bytes in omega arith

    pub content-is : content (block mark part) ≡ part
    unfolding content block sealed bytes body
    content-is =
        ap₂ take count-is (append_assoc part (replicate (504 - length part) 0) (seal modulo257 (body mark part)))
        ∙ take_at part _ (length part) refl

    zeros-behind : zeros_behind (block mark part) ≡ true
    unfolding zeros_behind sealed body
    zeros-behind =
        ap₂ (λ n l. all_zero (drop (4 + n) l)) count-is (ap (take 508) block-is ∙ take_at (body mark part) (seal modulo257 (body mark part)) 508 length-body)
        ∙ ap all_zero (sym (drop-drop (length part) 4 (body mark part)) ∙ drop_at part (replicate (504 - length part) 0) (length part) refl)
        ∙ zeros-zero (504 - length part)

    pub block-passes : (begun : Bool) (number : ℕ) → number ≤ 65534 → mark_right_def begun mark ≡ true → count_right_def (eqb mark 2 || eqb mark 3) (length part) ≡ true
        → ask_log_block begun number (block mark part) ≡ passed tt
    unfolding zeros_behind
    block-passes begun number low m c =
        good begun number (block mark part) block-whole block-right low
        (zeros-left begun (block mark part) three-is (ap (mark_right_def begun) mark-is ∙ m) (ap₂ count_right_def last-is count-is ∙ c) ∙ zeros-behind)
