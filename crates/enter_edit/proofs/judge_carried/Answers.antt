use Rattle.std.proofs.Common.{◌∙◌, refl, arith}
use Rattle.enter_edit.proofs.CarriedStages.{book-is, edit-at, nothing-judged, too_long, too-deep, busy-fits, no_room, each_fits, judged}
use Rattle.enter_edit.proofs.judge_carried.Goals as goal

pub returns-then-book-eq0 : goal.returns-then-book-eq0
returns-then-book-eq0 c = λ rules Z b. nothing-judged b c.if-book-eq0.true _ _

pub size_of_book-size-requires : goal.size_of_book-size-requires
size_of_book-size-requires c = let p = c.requires in
    (record { what = p.1.rules; is = book-is p.1.read }, record { what = p.1.Z; stands = edit-at p.1.read }, p.2, omega (arith, p.2), refl)

pub returns-then-len-gt-LONGEST_CARRIED : goal.returns-then-len-gt-LONGEST_CARRIED
returns-then-len-gt-LONGEST_CARRIED c = λ rules Z b. too_long b c.size_of_book-size.ensures c.if-len-gt-LONGEST_CARRIED.true _ _

pub returns-then-size-gt-DEEPEST_CARRIED : goal.returns-then-size-gt-DEEPEST_CARRIED
returns-then-size-gt-DEEPEST_CARRIED c = λ rules Z b. too-deep b c.size_of_book-size.ensures c.if-len-gt-LONGEST_CARRIED.false c.if-size-gt-DEEPEST_CARRIED.true _ _

pub room_needed-needed-requires : goal.room_needed-needed-requires
room_needed-needed-requires c = let z = c.size_of_book-size in
    (busy-fits c.requires.1.read z.ensures c.if-len-gt-LONGEST_CARRIED.false c.if-book-eq0.false, record { short = omega (arith, z.auto.kept); long = z.auto.stack })

pub returns-then-needed-room : goal.returns-then-needed-room
returns-then-needed-room c = λ rules Z b.
    no_room b c.size_of_book-size.ensures c.if-len-gt-LONGEST_CARRIED.false c.if-book-eq0.false c.if-size-gt-DEEPEST_CARRIED.false c.room_needed-needed.ensures _ _ refl c.if-needed-room.true

pub judge_each-requires : goal.judge_each-requires
judge_each-requires c = let p = c.requires in (
  p.0,
  record { rules = p.1.rules; Z = p.1.Z; each = each_fits p.1.read c.size_of_book-size.ensures c.if-len-gt-LONGEST_CARRIED.false c.if-book-eq0.false c.if-size-gt-DEEPEST_CARRIED.false c.room_needed-needed.ensures c.if-needed-room.false },
  record { short = omega (arith, c.size_of_book-size.auto.kept); long = c.room_needed-needed.auto.work ∙ c.size_of_book-size.auto.stack },
)

pub returns : goal.returns
returns c = λ rules Z b.
    let e = each_fits b c.size_of_book-size.ensures c.if-len-gt-LONGEST_CARRIED.false c.if-book-eq0.false c.if-size-gt-DEEPEST_CARRIED.false c.room_needed-needed.ensures c.if-needed-room.false in
    judged b c.size_of_book-size.ensures c.if-len-gt-LONGEST_CARRIED.false c.if-book-eq0.false c.if-size-gt-DEEPEST_CARRIED.false c.room_needed-needed.ensures refl c.if-needed-room.false (c.judge_each.ensures rules Z e)
