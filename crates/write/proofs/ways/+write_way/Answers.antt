use native.Mathlib.Omega.{arith}
use mathlib.Core.Path.{refl, sym, ◌∙◌}
use Prim.Native.Nat.{◌+◌}
use lib.ListN.{get_or}
use Rattle.tree.specs.Tree.{tree}
use Rattle.ends.proofs.FirstSteps.{edit-inside, as-choose}
use Rattle.ends.proofs.Kept.{kept_more}
use Rattle.write.specs.Links.{SomeLinks}
use Rattle.write.proofs.WorkParts.{names-long}
use Rattle.write.proofs.Notes.{notes-set, noted-same}
use Rattle.write.proofs.Finding.{kept-all}
use Rattle.write.proofs.Walking.{at-end, at-choice, way-low}
use Rattle.write.proofs.Storing.{branch, again, stored_back}
use Rattle.write.proofs.WrittenWays.{rested, end-some, end-carried, end_read, first-shown, ways-some, first-further, first-long, second-room, second-opened, second-further, choice-carried}
use Rattle.write.proofs.ways.+write_way.Goals as goal

pub bounds-edit-p : goal.bounds-edit-p
bounds-edit-p t c =
    let k = c.walk-rest in
    let r = rested c.requires.0 k.ensures.0 in
    edit-inside _ _ r.way.what r.way.way.here

pub emit-requires : goal.emit-requires
emit-requires t c =
    let k = c.walk-rest in
    let r = rested c.requires.0 k.ensures.0 in
    let l = way-low r.way c.requires.1.short in
    let links : SomeLinks c.args.edit.now k.new.work k.result.h = record { top = k.result.h; high = omega arith; room = omega (arith, l.0); long = k.auto.work ∙ c.requires.1.long; linked = k.ensures.1.linked } in
    (end-some r c.if-edit-p-eq48.true (at-end _ _ k.ensures.0.rests c.if-edit-p-eq48.true), links)

pub returns-then-edit-p-eq48 : goal.returns-then-edit-p-eq48
returns-then-edit-p-eq48 t c =
    let k = c.walk-rest in
    let r = rested c.requires.0 k.ensures.0 in
    let m = c.if-edit-p-eq48.true in
    let e = c.emit.ensures in (
      rw k.ensures.1.behind_same (end-carried k.ensures.0 m (at-end _ _ k.ensures.0.rests m) (λ σ x l i a. (e σ x l i a).0)),
      k.ensures.1.kept,
      noted-same k.ensures.1.notes_same c.requires.3,
      end_read r (λ σ x l i a. (e σ x l i a).1),
    )

pub open_first-k-requires : goal.open_first-k-requires
open_first-k-requires t c =
    let k = c.walk-rest in
    let r = rested c.requires.0 k.ensures.0 in
    let l = way-low r.way c.requires.1.short in
    let links : SomeLinks c.args.edit.now k.new.work k.result.h = record { top = k.result.h; high = omega arith; room = omega (arith, l.0); long = k.auto.work ∙ c.requires.1.long; linked = k.ensures.1.linked } in
    (first-shown r (at-choice _ _ k.ensures.0.rests c.if-edit-p-eq48.false), links)

pub ways_at-ways-requires : goal.ways_at-ways-requires
ways_at-ways-requires t c =
    let k = c.walk-rest in
    let r = rested c.requires.0 k.ensures.0 in
    let m = at-choice _ _ k.ensures.0.rests c.if-edit-p-eq48.false in
    let u = c.open_first-k.ensures in
    let y = r.way in
    let q = as-choose _ _ y.what y.way.here m in (
      ways-some r m (λ σ x e i a. (u σ x e i a).1),
      omega (arith, (u y.steps (tree q.K) y.way.steps_passed y.way.steps q.what).1),
      record { short = c.requires.1.short; long = k.auto.work ∙ c.requires.1.long },
      noted-same k.ensures.1.notes_same c.requires.3,
    )

pub offset_bounds-work-top : goal.offset_bounds-work-top
offset_bounds-work-top t c =
    let k = c.walk-rest in
    let r = rested c.requires.0 k.ensures.0 in
    let l = way-low r.way c.requires.1.short in
    omega (arith, l.1)

pub bounds-work-top : goal.bounds-work-top
bounds-work-top t c =
    let k = c.walk-rest in
    let r = rested c.requires.0 k.ensures.0 in
    let l = way-low r.way c.requires.1.short in
    omega (arith, l.1, c.ways_at-ways.auto.work, k.auto.work, c.requires.1.long)

pub overflow_cast-work : goal.overflow_cast-work
overflow_cast-work t c =
    let k = c.walk-rest in
    let u = c.open_first-k in
    let w = c.ways_at-ways in
    let b = branch c.requires.0 c.requires.1 k.auto.work k.ensures.0 k.ensures.1 c.if-edit-p-eq48.false u.ensures w.ensures.0.0 w.ensures.0.1 w.ensures.1 w.auto.work in
    let y = (rested c.requires.0 k.ensures.0).way in
    let q = b.chosen y.what y.way.here in
    omega (arith, edit-inside _ _ q.W q.next_at, c.requires.1.short)

pub offset_bounds-work-top-2 : goal.offset_bounds-work-top-2
offset_bounds-work-top-2 t c =
    let k = c.walk-rest in
    let r = rested c.requires.0 k.ensures.0 in
    let l = way-low r.way c.requires.1.short in
    omega (arith, l.1)

pub bounds-work-top-2 : goal.bounds-work-top-2
bounds-work-top-2 t c =
    let k = c.walk-rest in
    let r = rested c.requires.0 k.ensures.0 in
    let l = way-low r.way c.requires.1.short in
    omega (arith, l.1, c.ways_at-ways.auto.work, k.auto.work, c.requires.1.long)

pub slice_bounds-copy_from_slice-end-3 : goal.slice_bounds-copy_from_slice-end-3
slice_bounds-copy_from_slice-end-3 t c =
    let k = c.walk-rest in
    let u = c.open_first-k in
    let w = c.ways_at-ways in
    let b = branch c.requires.0 c.requires.1 k.auto.work k.ensures.0 k.ensures.1 c.if-edit-p-eq48.false u.ensures w.ensures.0.0 w.ensures.0.1 w.ensures.1 w.auto.work in
    omega (arith, names-long _ b.fits.long)

pub copy_from_slice-requires : goal.copy_from_slice-requires
copy_from_slice-requires t c =
    let k = c.walk-rest in
    let u = c.open_first-k in
    let w = c.ways_at-ways in
    let b = branch c.requires.0 c.requires.1 k.auto.work k.ensures.0 k.ensures.1 c.if-edit-p-eq48.false u.ensures w.ensures.0.0 w.ensures.0.1 w.ensures.1 w.auto.work in
    sym (names-long _ b.fits.long)

pub write_way-b-requires : goal.write_way-b-requires
write_way-b-requires t c =
    let k = c.walk-rest in
    let u = c.open_first-k in
    let w = c.ways_at-ways in
    let b = branch c.requires.0 c.requires.1 k.auto.work k.ensures.0 k.ensures.1 c.if-edit-p-eq48.false u.ensures w.ensures.0.0 w.ensures.0.1 w.ensures.1 w.auto.work in
    let f = first-further b.chosen b.low b.some b.opened b.behind u.auto.out in
    (omega (arith, c.decreases, f.on, f.inside, u.auto.out), (f.some, b.fits, b.linked, b.noted))

pub slice_bounds-copy_from_slice-end-5 : goal.slice_bounds-copy_from_slice-end-5
slice_bounds-copy_from_slice-end-5 t c =
    let k = c.walk-rest in
    let u = c.open_first-k in
    let w = c.ways_at-ways in
    let b = branch c.requires.0 c.requires.1 k.auto.work k.ensures.0 k.ensures.1 c.if-edit-p-eq48.false u.ensures w.ensures.0.0 w.ensures.0.1 w.ensures.1 w.auto.work in
    let v = c.write_way-b in
    omega (arith, names-long v.new.work (v.auto.work ∙ b.fits.long))

pub copy_from_slice-requires-2 : goal.copy_from_slice-requires-2
copy_from_slice-requires-2 t c =
    let k = c.walk-rest in
    let u = c.open_first-k in
    let w = c.ways_at-ways in
    let b = branch c.requires.0 c.requires.1 k.auto.work k.ensures.0 k.ensures.1 c.if-edit-p-eq48.false u.ensures w.ensures.0.0 w.ensures.0.1 w.ensures.1 w.auto.work in
    let v = c.write_way-b in
    names-long v.new.work (v.auto.work ∙ b.fits.long) ∙ sym c.copy_from_slice.auto.self

pub overflow_sub-a : goal.overflow_sub-a
overflow_sub-a t c =
    let k = c.walk-rest in
    let u = c.open_first-k in
    let w = c.ways_at-ways in
    let b = branch c.requires.0 c.requires.1 k.auto.work k.ensures.0 k.ensures.1 c.if-edit-p-eq48.false u.ensures w.ensures.0.0 w.ensures.0.1 w.ensures.1 w.auto.work in
    omega (arith, first-long b.chosen b.low b.some b.opened b.behind)

pub open_second-c-requires : goal.open_second-c-requires
open_second-c-requires t c =
    let k = c.walk-rest in
    let u = c.open_first-k in
    let w = c.ways_at-ways in
    let b = branch c.requires.0 c.requires.1 k.auto.work k.ensures.0 k.ensures.1 c.if-edit-p-eq48.false u.ensures w.ensures.0.0 w.ensures.0.1 w.ensures.1 w.auto.work in
    let v = c.write_way-b in
    let a = again v.new.work b.linked b.fits v.auto.work v.ensures.0 v.ensures.1 (c.copy_from_slice-2.ensures.after ∙ c.copy_from_slice.ensures.after) v.ensures.2 in
    second-room b.chosen b.low b.some b.opened b.behind a.written (v.auto.out ∙ u.auto.out)

pub write_way-end-requires : goal.write_way-end-requires
write_way-end-requires t c =
    let k = c.walk-rest in
    let u = c.open_first-k in
    let w = c.ways_at-ways in
    let b = branch c.requires.0 c.requires.1 k.auto.work k.ensures.0 k.ensures.1 c.if-edit-p-eq48.false u.ensures w.ensures.0.0 w.ensures.0.1 w.ensures.1 w.auto.work in
    let v = c.write_way-b in
    let a = again v.new.work b.linked b.fits v.auto.work v.ensures.0 v.ensures.1 (c.copy_from_slice-2.ensures.after ∙ c.copy_from_slice.ensures.after) v.ensures.2 in
    let o = c.open_second-c in
    let f = second-further b.chosen b.low b.some b.opened b.behind a.written refl o.ensures (o.auto.out ∙ v.auto.out ∙ u.auto.out) in
    (omega (arith, c.decreases, f.on, f.inside, o.auto.out ∙ v.auto.out ∙ u.auto.out), (f.some, a.fits, a.linked, a.noted))

pub offset_bounds-work-top-3 : goal.offset_bounds-work-top-3
offset_bounds-work-top-3 t c =
    let k = c.walk-rest in
    let r = rested c.requires.0 k.ensures.0 in
    let l = way-low r.way c.requires.1.short in
    omega (arith, l.1)

pub bounds-work-top-3 : goal.bounds-work-top-3
bounds-work-top-3 t c =
    let k = c.walk-rest in
    let r = rested c.requires.0 k.ensures.0 in
    let l = way-low r.way c.requires.1.short in
    let u = c.open_first-k in
    let w = c.ways_at-ways in
    let b = branch c.requires.0 c.requires.1 k.auto.work k.ensures.0 k.ensures.1 c.if-edit-p-eq48.false u.ensures w.ensures.0.0 w.ensures.0.1 w.ensures.1 w.auto.work in
    let v = c.write_way-b in
    let a = again v.new.work b.linked b.fits v.auto.work v.ensures.0 v.ensures.1 (c.copy_from_slice-2.ensures.after ∙ c.copy_from_slice.ensures.after) v.ensures.2 in
    omega (arith, l.1, a.fits.long, c.write_way-end.auto.work)

pub returns : goal.returns
returns t c =
    let k = c.walk-rest in
    let r = rested c.requires.0 k.ensures.0 in
    let l = way-low r.way c.requires.1.short in
    let u = c.open_first-k in
    let w = c.ways_at-ways in
    let b = branch c.requires.0 c.requires.1 k.auto.work k.ensures.0 k.ensures.1 c.if-edit-p-eq48.false u.ensures w.ensures.0.0 w.ensures.0.1 w.ensures.1 w.auto.work in
    let v = c.write_way-b in
    let a = again v.new.work b.linked b.fits v.auto.work v.ensures.0 v.ensures.1 (c.copy_from_slice-2.ensures.after ∙ c.copy_from_slice.ensures.after) v.ensures.2 in
    let z = c.write_way-end in
    let e = z.ensures in
    let o = second-opened b.chosen b.low b.some b.opened b.behind a.written refl c.open_second-c.ensures in
    let s = stored_back c.args.work.now w.new.work z.new.work b.low c.requires.1.long (w.ensures.1.behind_same ∙ k.ensures.1.behind_same)
    (λ y d. choice-carried b.chosen b.low b.walked b.opened b.behind a.written o e.0 d)
    (kept_more (omega arith) (kept_more b.walked.up b.kept a.kept) (kept_more b.walked.up kept-all e.1)) in
    (s.0, s.1, noted-same (notes-set z.new.work (2796 + k.result.d) (get_or w.new.work (2796 + k.result.d) 0) (omega (arith, l.1))) e.2, e.3)
