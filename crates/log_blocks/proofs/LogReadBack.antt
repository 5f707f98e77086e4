-- Edits cut into blocks and read back are the same edits.
use mathlib.Core.Path.{◌≡◌, refl, ◌∙◌, ap, ap₂}
use mathlib.Core.Bool.{Bool, true, false, ◌||◌, cond, or-true}
use mathlib.Core.List.{List, [], ◌∷◌, ◌++◌, append_assoc}
use Prim.Native.Nat.{ℕ, zero, suc, ◌+◌, ◌≤◌, ◌<◌}
use native.Mathlib.Omega.{arith}
use native.Mathlib.Decide.{dec_lt}
use borrow.Author.Tests.{le-leb, lt-leb, lt-ltb, eq-eqb}
use lib.Dec.{eqb}
use lib.ListN.{length, take, drop, take-append-drop, length-append, length-drop}
use lib.Seq.{length-take-le}
use Rattle.answer.specs.Asked.{passed, is}
use Rattle.log_blocks.specs.Log.{mark_right_def, count_right_def, is_begun, ask_log_block, ask_log_end, follows, recorded}
use Rattle.log_blocks.specs.Making.{block, edit_blocks, log_blocks, CanHold}
use Rattle.log_blocks.proofs.FieldLaws.{counted}
use Rattle.log_blocks.proofs.ReadLaws.{read-last, read_more}
use Rattle.log_blocks.proofs.MakeLaws.{block-passes, last-is, content-is}

-- Byte 1 of a block that is not the last, by whether an edit is begun.
abbrev pub first : Bool → ℕ
first begun = cond begun 0 1

-- it is right there, and not a last block's; two more is right, and a last block's
mark-more : (begun : Bool) → (mark_right_def begun (first begun) ≡ true) × ((eqb (first begun) 2 || eqb (first begun) 3) ≡ false)
unfolding mark_right_def
mark-more true = (refl, refl)
mark-more false = (refl, refl)

mark-last : (begun : Bool) → (mark_right_def begun (first begun + 2) ≡ true) × ((eqb (first begun + 2) 2 || eqb (first begun + 2) 3) ≡ true)
unfolding mark_right_def
mark-last true = (refl, refl)
mark-last false = (refl, refl)

-- the two shapes of an edit's blocks
module _ (most mark : ℕ) (edit : List ℕ) where
  pub one_block : length edit ≤ 504 → edit_blocks (suc most) mark edit ≡ block (mark + 2) edit ∷ []
  unfolding edit_blocks
  one_block h = ap (λ (y : Bool). cond y (block (mark + 2) edit ∷ []) (block mark (take 504 edit) ∷ edit_blocks most 0 (drop 504 edit))) (le-leb (length edit) 504 h)

  pub more-blocks : 504 < length edit → edit_blocks (suc most) mark edit ≡ block mark (take 504 edit) ∷ edit_blocks most 0 (drop 504 edit)
  unfolding edit_blocks
  more-blocks h = ap (λ (y : Bool). cond y (block (mark + 2) edit ∷ []) (block mark (take 504 edit) ∷ edit_blocks most 0 (drop 504 edit))) (lt-leb (length edit) 504 h)

-- a block read after what is gathered
module _ (number : ℕ) (g : List ℕ) (begun : Bool) (b : is_begun g ≡ begun) (low : number ≤ 65534) (part : List ℕ) (rest : List (List ℕ)) where
  read-last-part : 0 < length part → length part ≤ 504
      → recorded number g (block (first begun + 2) part ∷ rest) ≡ follows (g ++ part) (recorded (suc number) [] rest)
  read-last-part h few =
      read-last number g (block (first begun + 2) part) rest
      (ap (λ x. ask_log_block x number (block (first begun + 2) part)) b
      ∙ block-passes (first begun + 2) part few begun number low (mark-last begun).0
      (ap (λ x. count_right_def x (length part)) (mark-last begun).1 ∙ counted true (length part) h few ∙ or-true (eqb (length part) 504)))
      (last-is (first begun + 2) part ∙ (mark-last begun).1)
      ∙ ap (λ x. follows (g ++ x) (recorded (suc number) [] rest)) (content-is (first begun + 2) part few)

  read-part : length part ≡ 504 → recorded number g (block (first begun) part ∷ rest) ≡ recorded (suc number) (g ++ part) rest
  read-part h =
      let few : length part ≤ 504 = omega arith in
      read_more number g (block (first begun) part) rest
      (ap (λ x. ask_log_block x number (block (first begun) part)) b
      ∙ block-passes (first begun) part few begun number low (mark-more begun).0
      (counted (eqb (first begun) 2 || eqb (first begun) 3) (length part) (omega arith) few
      ∙ ap (◌|| (eqb (first begun) 2 || eqb (first begun) 3)) (eq-eqb (length part) 504 h)))
      (last-is (first begun) part ∙ (mark-more begun).1)
      ∙ ap (λ x. recorded (suc number) (g ++ x) rest) (content-is (first begun) part few)

-- one edit
pub edit_read : (most number : ℕ) (g : List ℕ) (begun : Bool) (edit : List ℕ) (rest : List (List ℕ)) → is_begun g ≡ begun → 0 < length edit → length edit ≤ most
    → number + length (edit_blocks most (first begun) edit) ≤ 65535
    → recorded number g (edit_blocks most (first begun) edit ++ rest) ≡ follows (g ++ edit) (recorded (number + length (edit_blocks most (first begun) edit)) [] rest)
edit_read zero number g begun edit rest b h l fits = absurd (omega arith)
edit_read (suc most) number g begun edit rest b h l fits = elim (dec_lt 504 (length edit)) [
  | no few ↦ (
      let is = one_block most (first begun) edit (omega arith) in
      let e : suc number ≡ number + 1 = omega arith in
      rw is (read-last-part number g begun b (omega (arith, ap length is)) edit rest h (omega arith) ∙ ap (λ n. follows (g ++ edit) (recorded n [] rest)) e))
  | yes many ↦ (
      let is = more-blocks most (first begun) edit many in
      let tail = edit_blocks most 0 (drop 504 edit) in
      let full : length (take 504 edit) ≡ 504 = length-take-le 504 edit (omega arith) in
      let some : is_begun (g ++ take 504 edit) ≡ true = lt-ltb 0 (length (g ++ take 504 edit)) (omega (arith, length-append g (take 504 edit))) in
      let e : suc number + length tail ≡ number + suc (length tail) = omega arith in
      rw is
      (read-part number g begun b (omega (arith, ap length is)) (take 504 edit) (tail ++ rest) full
      ∙ edit_read most (suc number) (g ++ take 504 edit) true (drop 504 edit) rest some (omega (arith, length-drop 504 edit)) (omega (arith, length-drop 504 edit)) (omega (arith, ap length is))
      ∙ ap₂ (λ x n. follows x (recorded n [] rest)) (append_assoc g (take 504 edit) (drop 504 edit) ∙ ap (g ++◌) (take-append-drop 504 edit)) e))
]

-- all of them
pub log-read : (number : ℕ) (edits : List (List ℕ)) → CanHold edits → number + length (log_blocks edits) ≤ 65535 → recorded number [] (log_blocks edits) ≡ record { edits = edits; ending = passed tt }
unfolding recorded log_blocks ask_log_end is
log-read number [] c h = refl
log-read number (edit ∷ edits) c h =
    let n = length-append (edit_blocks (length edit) 1 edit) (log_blocks edits) in
    edit_read (length edit) number [] false edit (log_blocks edits) refl c.0 (omega arith) (omega (arith, n))
    ∙ ap (follows edit) (log-read (number + length (edit_blocks (length edit) 1 edit)) edits c.1 (omega (arith, n)))
