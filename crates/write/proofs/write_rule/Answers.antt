use native.Mathlib.Omega.{arith}
use mathlib.Core.Path.{sym, ◌∙◌}
use Rattle.write.proofs.WorkParts.{names-long}
use Rattle.write.proofs.Storing.{again}
use Rattle.write.proofs.Rules.{rest_some, rule-written, still-started}
use Rattle.write.proofs.write_rule.Goals as goal

pub slice_bounds-copy_from_slice-end-3 : goal.slice_bounds-copy_from_slice-end-3
slice_bounds-copy_from_slice-end-3 c = omega (arith, names-long c.args.work.now c.requires.1.long)

pub copy_from_slice-requires : goal.copy_from_slice-requires
copy_from_slice-requires c = sym (names-long c.args.work.now c.requires.1.long)

pub write_way-end-requires : goal.write_way-end-requires
write_way-end-requires c = let p = c.requires in (rest_some p.0, p.1, p.0.started.linked, p.0.started.noted)

pub slice_bounds-copy_from_slice-end-5 : goal.slice_bounds-copy_from_slice-end-5
slice_bounds-copy_from_slice-end-5 c = omega (arith, names-long c.write_way-end.new.work (c.write_way-end.auto.work ∙ c.requires.1.long))

pub copy_from_slice-requires-2 : goal.copy_from_slice-requires-2
copy_from_slice-requires-2 c = names-long c.write_way-end.new.work (c.write_way-end.auto.work ∙ c.requires.1.long) ∙ sym c.copy_from_slice.auto.self

pub returns : goal.returns
returns c = λ from s.
    let w = c.write_way-end in
    let a = again w.new.work s.linked c.requires.1 w.auto.work w.ensures.0 w.ensures.1 (c.copy_from_slice-2.ensures.after ∙ c.copy_from_slice.ensures.after) w.ensures.2 in
    (rule-written s a w.ensures.3, still-started s a)
