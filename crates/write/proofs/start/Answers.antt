use Rattle.std.proofs.Common.{arith}
use Rattle.write.proofs.WorkParts.{names-long}
use Rattle.write.proofs.Finding.{linked-none}
use Rattle.write.proofs.Notes.{emptied, noted-none}
use Rattle.write.proofs.Rules.{start-way, start-rests}
use Rattle.write.proofs.start.Goals as goal

pub slice_bounds-fill-end-2 : goal.slice_bounds-fill-end-2
slice_bounds-fill-end-2 c = omega (arith, names-long c.args.work.now c.requires.1.long)

pub walk-requires : goal.walk-requires
walk-requires c =
    let e = emptied c.args.work.now _ _ c.requires.1.long (c.fill.ensures.after (λ y h. h)) (c.fill-2.ensures.after (λ y h. h)) in
    (start-way _ _ c.requires.0, record { short = c.requires.1.short; long = e.long }, linked-none c.args.edit.now _ e.lasts)

pub returns : goal.returns
returns c =
    let e = emptied c.args.work.now _ _ c.requires.1.long (c.fill.ensures.after (λ y h. h)) (c.fill-2.ensures.after (λ y h. h)) in
    start-rests c.walk.ensures.0 c.walk.ensures.1 (noted-none e)
