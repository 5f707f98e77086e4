-- `carry::carry_into` meets its contract: it answers the questions by the measured size and writes the book carried through the edit. Assumes nothing.
use Rattle.std.proofs.Common.{arith, length, ◌≡◌}
use Rattle.std.proofs.lemmas.Grind.{common_steps}
use Rattle.carry.proofs.CarriedSizes.{too_long, too-deep, no_room, fits_out, into-written, empty-into, book-fits, written-long, written-so}
use Rattle.carry.proofs.carry_into.Goals as goal

pub returns-then-is_empty : goal.returns-then-is_empty
returns-then-is_empty c = λ rules Z h g. empty-into _ (grind (arith, common_steps)) rules Z h _

pub returns-then-len-gt-LONGEST_CARRIED : goal.returns-then-len-gt-LONGEST_CARRIED
returns-then-len-gt-LONGEST_CARRIED c = λ rules Z h g. too_long (c.size_of_book-size.ensures rules Z h g).0 _ c.if-len-gt-LONGEST_CARRIED.true

pub returns-then-size-gt-DEEPEST_CARRIED : goal.returns-then-size-gt-DEEPEST_CARRIED
returns-then-size-gt-DEEPEST_CARRIED c = λ rules Z h g. too-deep (c.size_of_book-size.ensures rules Z h g).0 _ c.if-len-gt-LONGEST_CARRIED.false c.if-size-gt-DEEPEST_CARRIED.true

pub returns-then-len-out : goal.returns-then-len-out
returns-then-len-out c = λ rules Z h g. no_room (c.size_of_book-size.ensures rules Z h g).0 _ c.if-len-gt-LONGEST_CARRIED.false c.if-size-gt-DEEPEST_CARRIED.false c.if-len-out.true

pub write_book-requires : goal.write_book-requires
write_book-requires c = let p = c.requires in let k = c.size_of_book-size.auto in
    let ne : length c.args.book.now ≡ 0 → ⊥ = grind (arith, common_steps) in
    let b = c.size_of_book-size.ensures _ _ p.0.is p.1.stands in
    (book-fits ne p.0.is p.1.stands b.1 (fits_out b.0 c.args.out.now c.if-len-gt-LONGEST_CARRIED.false c.if-size-gt-DEEPEST_CARRIED.false c.if-len-out.false), record { short = omega (arith, k.kept); long = omega (arith, k.stack) })

pub returns : goal.returns
returns c = λ rules Z h g.
    let b = c.size_of_book-size.ensures rules Z h g in
    let w = c.write_book.ensures in let ne : length c.args.book.now ≡ 0 → ⊥ = grind (arith, common_steps) in
    into-written b.0 _ c.if-len-gt-LONGEST_CARRIED.false c.if-size-gt-DEEPEST_CARRIED.false c.if-len-out.false _ _ (written-long ne h g b.1 w) (written-so ne h g b.1 w (fits_out b.0 c.args.out.now c.if-len-gt-LONGEST_CARRIED.false c.if-size-gt-DEEPEST_CARRIED.false c.if-len-out.false))
