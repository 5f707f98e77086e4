use mathlib.Core.Path.{◌≡◌, refl, sym, ◌∙◌, ap}
use mathlib.Core.List.{List, [], ◌∷◌, ◌++◌}
use Prim.Native.Nat.{ℕ, ◌+◌, ◌-◌, ◌≤◌, ◌<◌}
use native.Mathlib.Omega.{arith}
use borrow.Rule.Slice.PartMut.{put_mid}
use lib.ListN.{length, take, drop, length-append, length-drop}
use lib.Seq.{length-take-le, take-length}
use Rattle.buffers.specs.Slots.{put_slot_def}
use Rattle.decimal.specs.Digits.{digits}
use Rattle.names.specs.Names.{width}
use Rattle.name_table.proofs.PlainLaws.{width_small, plain-short, Named, written}
use Rattle.name_table.proofs.put_plain.Goals as goal

abbrev blank : List ℕ
blank = 0 ∷ 0 ∷ 0 ∷ 0 ∷ 0 ∷ 0 ∷ 0 ∷ 0 ∷ []

-- After the digits are written.
module _ (start : List ℕ) (x w : ℕ) (first last : List ℕ) (s : length start ≤ 6) (h : x < 100) (wide : w ≡ width x) (f : first ≡ start)
    (d : last ≡ digits (length (take (length start + w - length start) (drop (length start) (first ++ drop (length start) blank)))) x) where
  abbrev buffer : List ℕ
  buffer = put_mid (length start) (length start + w - length start) (first ++ drop (length start) blank) last

  named : Named start x (length start + w) buffer
  named = written start x w blank (first ++ drop (length start) blank) last refl s h wide (ap (◌++ drop (length start) blank) (f ∙ sym (take-length start))) d

  short : length (take (length start + w) buffer) < 9
  short = omega (arith, ap length named.name, plain-short start x s h)

pub overflow_add-to : goal.overflow_add-to
overflow_add-to c = omega (arith, width_small c.args.x c.requires.2, c.width.ensures, c.requires.1)

pub slice_bounds-name-end-2 : goal.slice_bounds-name-end-2
slice_bounds-name-end-2 c =
    omega (
      arith,
      width_small c.args.x c.requires.2,
      c.width.ensures,
      c.requires.1,
      ap length c.copy_from_slice.ensures.after,
      length-append c.copy_from_slice.new.self (drop (length c.args.start.now) blank),
      length-drop (length c.args.start.now) blank,
    )

pub slice_bounds-put_slot-end : goal.slice_bounds-put_slot-end
slice_bounds-put_slot-end c =
    sym (length-take-le _ _ (named c.args.start.now c.args.x _ _ _ c.requires.1 c.requires.2 c.width.ensures c.copy_from_slice.ensures.after c.write_digits.ensures).inside)

pub put_slot-requires : goal.put_slot-requires
put_slot-requires c =
    let z = short c.args.start.now c.args.x _ _ _ c.requires.1 c.requires.2 c.width.ensures c.copy_from_slice.ensures.after c.write_digits.ensures in
    (c.requires.0, omega (arith, z), omega (arith, z))

pub returns : goal.returns
returns c =
    c.put_slot.ensures
    ∙ ap (put_slot_def 65 _ _) (named c.args.start.now c.args.x _ _ _ c.requires.1 c.requires.2 c.width.ensures c.copy_from_slice.ensures.after c.write_digits.ensures).name
