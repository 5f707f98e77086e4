use mathlib.Core.Path.{◌≡◌, sym, ◌∙◌, ap}
use mathlib.Core.Bool.{Bool, true}
use mathlib.Core.List.{List}
use Prim.Native.Nat.{ℕ, ◌≤◌}
use native.Mathlib.Omega.{arith}
use lib.Dec.{ltb}
use lib.ListN.{length, take}
use Rattle.answer.specs.Asked.{passed, refused}
use Rattle.seal.specs.Seal.{modulo257, seal_right_def}
use Rattle.log_blocks.specs.Log.{fields_right_def, is_begun, ask_log_block}
use Rattle.log_blocks.proofs.FieldLaws.{count-says, right}
use Rattle.log_blocks.proofs.TakeLaws.{cut_short, sums-wrong, too_many, fields-wrong, good, not_taken, kept_then, ends-edit, goes_on, begun_kept}
use Rattle.log_blocks.proofs.take_block.Goals as goal

-- The fields are checked for an edit begun, and one is begun when bytes of it are kept.
fields-are : (edit k : List ℕ) (n : ℕ) (r : Bool) → n ≤ length edit → r ≡ fields_right_def (ltb 0 n) k → fields_right_def (is_begun (take n edit)) k ≡ r
fields-are edit k n r h e = ap (λ b. fields_right_def b k) (sym (begun_kept edit n h)) ∙ sym e

-- Where the sums, the number and the fields are right, the questions are passed.
passes : (edit k : List ℕ) (n number : ℕ) → n ≤ length edit → length k ≡ 512 → seal_right_def modulo257 k ≡ true → number ≤ 65534 → fields_right_def (ltb 0 n) k ≡ true
    → ask_log_block (is_begun (take n edit)) number k ≡ passed tt
passes edit k n number h whole sums low f = good _ _ _ whole sums low (fields-are edit k n true h (sym f))

pub returns-then-block-ne-BLOCK : goal.returns-then-block-ne-BLOCK
returns-then-block-ne-BLOCK c =
    let s = c.args in
    let all = not_taken s.edit.now s.n s.number s.block.now 53 _ (cut_short _ s.number s.block.now c.if-block-ne-BLOCK.true) in
    record { result_value = (all.0, tt); edit_after = all.1 }

pub returns-then-not-seal_right : goal.returns-then-not-seal_right
returns-then-not-seal_right c =
    let s = c.args in
    let all =
    not_taken s.edit.now s.n s.number s.block.now 52 _
    (sums-wrong _ s.number s.block.now c.if-block-ne-BLOCK.false (sym c.seal_right.ensures ∙ c.if-not-seal_right.true)) in
    record { result_value = (all.0, tt); edit_after = all.1 }

pub returns-then-number-gt-LAST : goal.returns-then-number-gt-LAST
returns-then-number-gt-LAST c =
    let s = c.args in
    let bad : ask_log_block (is_begun (take s.n s.edit.now)) s.number s.block.now ≡ refused 53 s.number =
    elim c.then-number-gt-LAST.branch [
      | goal.then-number-gt-LAST-via-then-number-gt-LAST w ↦ too_many _ s.number s.block.now c.if-block-ne-BLOCK.false (sym c.seal_right.ensures ∙ c.if-not-seal_right.false) w.if-number-gt-LAST.true
      | goal.then-number-gt-LAST-via-else-number-gt-LAST+then-not-fields_right w ↦
          fields-wrong _ s.number s.block.now c.if-block-ne-BLOCK.false (sym c.seal_right.ensures ∙ c.if-not-seal_right.false) w.if-number-gt-LAST.false
          (fields-are s.edit.now s.block.now s.n _ (omega (arith, c.requires.0, c.requires.1)) w.fields_right.ensures ∙ w.if-not-fields_right.true)
    ] in
    let all = not_taken s.edit.now s.n s.number s.block.now 53 _ bad in
    record { result_value = (all.0, tt); edit_after = all.1 }

pub keep-m-requires : goal.keep-m-requires
keep-m-requires c =
    let small = (count-says _ _ (right _ _ (sym c.fields_right.ensures ∙ c.if-not-fields_right.false)).few).1 in
    let counted = c.count.ensures.value in
    (c.if-block-ne-BLOCK.false, counted, omega (arith, small, counted), c.requires.0, c.requires.1)

pub returns-then-is_last : goal.returns-then-is_last
returns-then-is_last c =
    let s = c.args in
    let p =
    passes s.edit.now s.block.now s.n s.number (omega (arith, c.requires.0, c.requires.1)) c.if-block-ne-BLOCK.false (sym c.seal_right.ensures ∙ c.if-not-seal_right.false)
    c.if-number-gt-LAST.false (sym c.fields_right.ensures ∙ c.if-not-fields_right.false) in
    record {
      result_value = ends-edit s.edit.now s.n s.number s.block.now p (sym c.is_last.ensures ∙ c.if-is_last.true) _ c.keep-m.ensures.value;
      edit_after = c.keep-m.ensures.edit_after ∙ kept_then s.edit.now s.n s.number s.block.now p;
    }

pub returns-else-is_last : goal.returns-else-is_last
returns-else-is_last c =
    let s = c.args in
    let p =
    passes s.edit.now s.block.now s.n s.number (omega (arith, c.requires.0, c.requires.1)) c.if-block-ne-BLOCK.false (sym c.seal_right.ensures ∙ c.if-not-seal_right.false)
    c.if-number-gt-LAST.false (sym c.fields_right.ensures ∙ c.if-not-fields_right.false) in
    record {
      result_value = goes_on s.edit.now s.n s.number s.block.now p (sym c.is_last.ensures ∙ c.if-is_last.false) _ c.keep-m.ensures.value;
      edit_after = c.keep-m.ensures.edit_after ∙ kept_then s.edit.now s.n s.number s.block.now p;
    }
