use native.Mathlib.Omega.{arith}
use mathlib.Core.Path.{refl, ◌∙◌}
use mathlib.Core.List.{[]}
use Prim.Native.Nat.{◌+◌}
use lib.ListN.{set, length-set}
use Rattle.write.specs.Work.{stack_of}
use Rattle.write.proofs.Finding.{links-lower, no-link, some-link}
use Rattle.write.proofs.Emitting as parts
use Rattle.write.proofs.Naming as naming
use Rattle.write.proofs.Naming.{older-of}
use Rattle.write.proofs.expressions.+emit_name.Goals as goal
use Rattle.write.proofs.expressions.+emit_name.Goals.{emit-in-None, emit-in-Some, name-in-None, name-in-Some}

pub emit-loop-wanted-init : goal.emit-loop-wanted-init
emit-loop-wanted-init t c = parts.showing-first _ _ _ _ _ _ _

pub emit-bounds-text-p : goal.emit-bounds-text-p
emit-bounds-text-p t c = (parts.head_first c.loop-wanted.invariant c.loop-wanted-test.true c.requires.0).inside-text

pub emit-shape-s-requires : goal.emit-shape-s-requires
emit-shape-s-requires t c = (parts.head_first c.loop-wanted.invariant c.loop-wanted-test.true c.requires.0).low

pub emit-overflow_add-number : goal.emit-overflow_add-number
emit-overflow_add-number t c = omega (arith, (parts.name-at c.loop-wanted.invariant c.loop-wanted-test.true _ c.shape-s.ensures c.if-s-ge16.true c.requires.0).in-text, c.well_formed.0.0)

pub emit-bounds-text-p-then-s-ge16 : goal.emit-bounds-text-p-then-s-ge16
emit-bounds-text-p-then-s-ge16 t c = omega (arith, (parts.name-at c.loop-wanted.invariant c.loop-wanted-test.true _ c.shape-s.ensures c.if-s-ge16.true c.requires.0).in-text)

pub emit-find-requires : goal.emit-find-requires
emit-find-requires t c = (c.requires.1, (parts.name-at c.loop-wanted.invariant c.loop-wanted-test.true _ c.shape-s.ensures c.if-s-ge16.true c.requires.0).is-named)

pub emit-put_two-q-requires : goal.emit-put_two-q-requires
emit-put_two-q-requires t c =
    omega (arith, c.loop-wanted.invariant.long, parts.bare-room ((parts.name-at c.loop-wanted.invariant c.loop-wanted-test.true _ c.shape-s.ensures c.if-s-ge16.true c.requires.0).some _ c.find.ensures.0) (no-link refl c.in-None.is))

pub emit-name-q-requires : goal.emit-name-q-requires
emit-name-q-requires t c =
    let i = c.loop-wanted.invariant in
    let n = parts.name-at c.loop-wanted.invariant c.loop-wanted-test.true _ c.shape-s.ensures c.if-s-ge16.true c.requires.0 in
    let e = c.find.ensures in
    let s = some-link refl c.in-Some.is in
    let m = n.some _ (s ∙ e.0) in (
      omega (arith, c.decreases, i.long, m.fits, n.further),
      (record { steps = m.steps; is = m.is; stands = m.stands; fits = omega (arith, m.fits, i.long) }, links-lower (omega (arith, s, e.1)) c.requires.1),
    )

pub emit-overflow_add-p : goal.emit-overflow_add-p
emit-overflow_add-p t c = omega (arith, (parts.name-at c.loop-wanted.invariant c.loop-wanted-test.true _ c.shape-s.ensures c.if-s-ge16.true c.requires.0).in-text, c.well_formed.0.0)

pub emit-loop-wanted-smaller-then-s-ge16 : goal.emit-loop-wanted-smaller-then-s-ge16
emit-loop-wanted-smaller-then-s-ge16 t c = omega (arith, (parts.name-at c.loop-wanted.invariant c.loop-wanted-test.true _ c.shape-s.ensures c.if-s-ge16.true c.requires.0).in-text)

pub emit-loop-wanted-preserved-then-s-ge16 : goal.emit-loop-wanted-preserved-then-s-ge16
emit-loop-wanted-preserved-then-s-ge16 t c =
    parts.name-shown c.loop-wanted.invariant c.loop-wanted-test.true _ c.shape-s.ensures c.if-s-ge16.true c.find.ensures.0 (elim c.match-find.branch [
      | emit-in-None w ↦ rw (w.out-is, w.q-is) (parts.bare-wrote (no-link refl w.in-None.is) w.put_two-q.ensures w.put_two-q.auto.out)
      | emit-in-Some w ↦ rw (w.out-is, w.q-is) (parts.named-wrote _ (some-link refl w.in-Some.is) w.name-q.ensures w.name-q.auto.out)
    ])

pub emit-copy_code-q-requires : goal.emit-copy_code-q-requires
emit-copy_code-q-requires t c = let g = parts.head_at c.loop-wanted.invariant c.loop-wanted-test.true _ c.shape-s.ensures c.if-s-ge16.false c.requires.0 in (g.on, omega arith, g.in-text, omega (arith, c.loop-wanted.invariant.long, g.fits))

pub emit-overflow_add-p-else-s-ge16 : goal.emit-overflow_add-p-else-s-ge16
emit-overflow_add-p-else-s-ge16 t c = omega (arith, (parts.head_at c.loop-wanted.invariant c.loop-wanted-test.true _ c.shape-s.ensures c.if-s-ge16.false c.requires.0).in-text, c.well_formed.0.0)

pub emit-overflow_add-wanted : goal.emit-overflow_add-wanted
emit-overflow_add-wanted t c = omega (arith, (parts.head_at c.loop-wanted.invariant c.loop-wanted-test.true _ c.shape-s.ensures c.if-s-ge16.false c.requires.0).in_count, c.well_formed.0.0)

pub emit-loop-wanted-smaller : goal.emit-loop-wanted-smaller
emit-loop-wanted-smaller t c = let g = parts.head_at c.loop-wanted.invariant c.loop-wanted-test.true _ c.shape-s.ensures c.if-s-ge16.false c.requires.0 in omega (arith, g.in-text, g.on)

pub emit-loop-wanted-preserved : goal.emit-loop-wanted-preserved
emit-loop-wanted-preserved t c =
    parts.head-shown c.loop-wanted.invariant c.loop-wanted-test.true _ c.shape-s.ensures c.if-s-ge16.false c.copy_code-q.ensures c.copy_code-q.auto.out

pub emit-returns : goal.emit-returns
emit-returns t c = parts.showing-end c.loop-wanted.invariant c.loop-wanted-test.false

pub name-bounds-edit-o : goal.name-bounds-edit-o
name-bounds-edit-o t c = omega (arith, (naming.step-there c.args.out.now c.args.i c.requires).room)

pub name-bounds-out-pos : goal.name-bounds-out-pos
name-bounds-out-pos t c = naming.first-room _ c.args.i c.requires

pub name-put_two-p-requires : goal.name-put_two-p-requires
name-put_two-p-requires t c = parts.bare-room (naming.older-some _ c.args.i c.requires c.lead.result) (no-link c.linked.ensures c.in-None.is)

pub name-name-p-requires : goal.name-name-p-requires
name-name-p-requires t c =
    let a = c.args in
    let s = some-link c.linked.ensures c.in-Some.is in (
      omega (arith, c.decreases, length-set a.out.now a.pos c.lead.result, naming.first-room a.out.now a.i c.requires),
      (parts.some-as _ s (naming.older-some _ a.i c.requires c.lead.result), links-lower (omega (arith, s, naming.older-lower a.out.now a.i c.requires c.lead.result)) c.requires.1),
    )

pub name-put_not-q-requires : goal.name-put_not-q-requires
name-put_not-q-requires t c =
    let a = c.args in
    let u : parts.NameWrote a.edit.now (stack_of a.work.now) (older-of a.work.now a.i) a.of.code a.of.number (set a.out.now a.pos c.lead.result) (a.pos + 1) c.match-linked.p c.match-linked.out = elim c.match-linked.branch [
      | name-in-None w ↦ rw (w.out-is, w.p-is) (parts.bare-wrote (no-link c.linked.ensures w.in-None.is) w.put_two-p.ensures w.put_two-p.auto.out)
      | name-in-Some w ↦ rw (w.out-is, w.p-is) (parts.named-wrote _ (some-link c.linked.ensures w.in-Some.is) w.name-p.ensures w.name-p.auto.out)
    ] in
    naming.not-room _ c.args.i c.requires c.lead.result u

pub name-bounds-edit-at : goal.name-bounds-edit-at
name-bounds-edit-at t c =
    let a = c.args in
    let u : parts.NameWrote a.edit.now (stack_of a.work.now) (older-of a.work.now a.i) a.of.code a.of.number (set a.out.now a.pos c.lead.result) (a.pos + 1) c.match-linked.p c.match-linked.out = elim c.match-linked.branch [
      | name-in-None w ↦ rw (w.out-is, w.p-is) (parts.bare-wrote (no-link c.linked.ensures w.in-None.is) w.put_two-p.ensures w.put_two-p.auto.out)
      | name-in-Some w ↦ rw (w.out-is, w.p-is) (parts.named-wrote _ (some-link c.linked.ensures w.in-Some.is) w.name-p.ensures w.name-p.auto.out)
    ] in
    let n = c.put_not-q in
    (parts.head_first (parts.showing-first _ _ _ _ _ [] _) (omega arith) (naming.there _ c.args.i c.requires c.lead.result u n.ensures n.auto.out)).inside-text

pub name-shape-s-requires : goal.name-shape-s-requires
name-shape-s-requires t c =
    let a = c.args in
    let u : parts.NameWrote a.edit.now (stack_of a.work.now) (older-of a.work.now a.i) a.of.code a.of.number (set a.out.now a.pos c.lead.result) (a.pos + 1) c.match-linked.p c.match-linked.out = elim c.match-linked.branch [
      | name-in-None w ↦ rw (w.out-is, w.p-is) (parts.bare-wrote (no-link c.linked.ensures w.in-None.is) w.put_two-p.ensures w.put_two-p.auto.out)
      | name-in-Some w ↦ rw (w.out-is, w.p-is) (parts.named-wrote _ (some-link c.linked.ensures w.in-Some.is) w.name-p.ensures w.name-p.auto.out)
    ] in
    let n = c.put_not-q in
    (parts.head_first (parts.showing-first _ _ _ _ _ [] _) (omega arith) (naming.there _ c.args.i c.requires c.lead.result u n.ensures n.auto.out)).low

pub name-copy_code-requires : goal.name-copy_code-requires
name-copy_code-requires t c =
    let a = c.args in
    let u : parts.NameWrote a.edit.now (stack_of a.work.now) (older-of a.work.now a.i) a.of.code a.of.number (set a.out.now a.pos c.lead.result) (a.pos + 1) c.match-linked.p c.match-linked.out = elim c.match-linked.branch [
      | name-in-None w ↦ rw (w.out-is, w.p-is) (parts.bare-wrote (no-link c.linked.ensures w.in-None.is) w.put_two-p.ensures w.put_two-p.auto.out)
      | name-in-Some w ↦ rw (w.out-is, w.p-is) (parts.named-wrote _ (some-link c.linked.ensures w.in-Some.is) w.name-p.ensures w.name-p.auto.out)
    ] in
    let n = c.put_not-q in
    parts.leaf_room _ _ _ _ _ _ _ c.shape-s.ensures c.if-s-lt4.true (naming.there _ c.args.i c.requires c.lead.result u n.ensures n.auto.out)

pub name-returns-then-s-lt4 : goal.name-returns-then-s-lt4
name-returns-then-s-lt4 t c =
    let a = c.args in
    let u : parts.NameWrote a.edit.now (stack_of a.work.now) (older-of a.work.now a.i) a.of.code a.of.number (set a.out.now a.pos c.lead.result) (a.pos + 1) c.match-linked.p c.match-linked.out = elim c.match-linked.branch [
      | name-in-None w ↦ rw (w.out-is, w.p-is) (parts.bare-wrote (no-link c.linked.ensures w.in-None.is) w.put_two-p.ensures w.put_two-p.auto.out)
      | name-in-Some w ↦ rw (w.out-is, w.p-is) (parts.named-wrote _ (some-link c.linked.ensures w.in-Some.is) w.name-p.ensures w.name-p.auto.out)
    ] in
    let n = c.put_not-q in
    naming.put _ c.args.i c.requires c.lead.result u n.ensures n.auto.out c.lead.ensures (parts.leaf-shown _ _ _ _ _ _ _ c.shape-s.ensures c.if-s-lt4.true c.copy_code.ensures c.copy_code.auto.out)

pub name-bounds-edit-at-then-s-ge16 : goal.name-bounds-edit-at-then-s-ge16
name-bounds-edit-at-then-s-ge16 t c =
    let a = c.args in
    let u : parts.NameWrote a.edit.now (stack_of a.work.now) (older-of a.work.now a.i) a.of.code a.of.number (set a.out.now a.pos c.lead.result) (a.pos + 1) c.match-linked.p c.match-linked.out = elim c.match-linked.branch [
      | name-in-None w ↦ rw (w.out-is, w.p-is) (parts.bare-wrote (no-link c.linked.ensures w.in-None.is) w.put_two-p.ensures w.put_two-p.auto.out)
      | name-in-Some w ↦ rw (w.out-is, w.p-is) (parts.named-wrote _ (some-link c.linked.ensures w.in-Some.is) w.name-p.ensures w.name-p.auto.out)
    ] in
    let n = c.put_not-q in
    omega (arith, (naming.sole _ c.args.i c.requires c.lead.result u n.ensures n.auto.out c.shape-s.ensures c.if-s-ge16.true).in-text)

pub name-find-requires : goal.name-find-requires
name-find-requires t c =
    let a = c.args in
    let u : parts.NameWrote a.edit.now (stack_of a.work.now) (older-of a.work.now a.i) a.of.code a.of.number (set a.out.now a.pos c.lead.result) (a.pos + 1) c.match-linked.p c.match-linked.out = elim c.match-linked.branch [
      | name-in-None w ↦ rw (w.out-is, w.p-is) (parts.bare-wrote (no-link c.linked.ensures w.in-None.is) w.put_two-p.ensures w.put_two-p.auto.out)
      | name-in-Some w ↦ rw (w.out-is, w.p-is) (parts.named-wrote _ (some-link c.linked.ensures w.in-Some.is) w.name-p.ensures w.name-p.auto.out)
    ] in
    let n = c.put_not-q in
    (links-lower (omega arith) c.requires.1, (naming.sole _ c.args.i c.requires c.lead.result u n.ensures n.auto.out c.shape-s.ensures c.if-s-ge16.true).is-named)

pub name-put_two-requires : goal.name-put_two-requires
name-put_two-requires t c =
    let a = c.args in
    let u : parts.NameWrote a.edit.now (stack_of a.work.now) (older-of a.work.now a.i) a.of.code a.of.number (set a.out.now a.pos c.lead.result) (a.pos + 1) c.match-linked.p c.match-linked.out = elim c.match-linked.branch [
      | name-in-None w ↦ rw (w.out-is, w.p-is) (parts.bare-wrote (no-link c.linked.ensures w.in-None.is) w.put_two-p.ensures w.put_two-p.auto.out)
      | name-in-Some w ↦ rw (w.out-is, w.p-is) (parts.named-wrote _ (some-link c.linked.ensures w.in-Some.is) w.name-p.ensures w.name-p.auto.out)
    ] in
    let n = c.put_not-q in
    parts.bare-room ((naming.sole _ c.args.i c.requires c.lead.result u n.ensures n.auto.out c.shape-s.ensures c.if-s-ge16.true).some _ c.find.ensures.0) (no-link refl c.in-None-find.is)

pub name-returns-in-None-find : goal.name-returns-in-None-find
name-returns-in-None-find t c =
    let a = c.args in
    let u : parts.NameWrote a.edit.now (stack_of a.work.now) (older-of a.work.now a.i) a.of.code a.of.number (set a.out.now a.pos c.lead.result) (a.pos + 1) c.match-linked.p c.match-linked.out = elim c.match-linked.branch [
      | name-in-None w ↦ rw (w.out-is, w.p-is) (parts.bare-wrote (no-link c.linked.ensures w.in-None.is) w.put_two-p.ensures w.put_two-p.auto.out)
      | name-in-Some w ↦ rw (w.out-is, w.p-is) (parts.named-wrote _ (some-link c.linked.ensures w.in-Some.is) w.name-p.ensures w.name-p.auto.out)
    ] in
    let n = c.put_not-q in
    naming.put _ c.args.i c.requires c.lead.result u n.ensures n.auto.out c.lead.ensures (naming.sole-wrote _ c.args.i c.requires c.lead.result u n.ensures n.auto.out c.shape-s.ensures c.if-s-ge16.true c.find.ensures.0 (parts.bare-wrote (no-link refl c.in-None-find.is) c.put_two.ensures c.put_two.auto.out))

pub name-name-requires : goal.name-name-requires
name-name-requires t c =
    let a = c.args in
    let u : parts.NameWrote a.edit.now (stack_of a.work.now) (older-of a.work.now a.i) a.of.code a.of.number (set a.out.now a.pos c.lead.result) (a.pos + 1) c.match-linked.p c.match-linked.out = elim c.match-linked.branch [
      | name-in-None w ↦ rw (w.out-is, w.p-is) (parts.bare-wrote (no-link c.linked.ensures w.in-None.is) w.put_two-p.ensures w.put_two-p.auto.out)
      | name-in-Some w ↦ rw (w.out-is, w.p-is) (parts.named-wrote _ (some-link c.linked.ensures w.in-Some.is) w.name-p.ensures w.name-p.auto.out)
    ] in
    let n = c.put_not-q in
    let e = c.find.ensures in
    let l = some-link refl c.in-Some-find.is in (
      omega (arith, c.decreases, naming.wide _ c.args.i c.requires c.lead.result u n.ensures n.auto.out, naming.further _ c.args.i c.requires c.lead.result u n.ensures n.auto.out, naming.first-room a.out.now c.args.i c.requires),
      ((naming.sole _ c.args.i c.requires c.lead.result u n.ensures n.auto.out c.shape-s.ensures c.if-s-ge16.true).some _ (l ∙ e.0), links-lower (omega (arith, l, e.1)) c.requires.1),
    )

pub name-returns-in-Some-find : goal.name-returns-in-Some-find
name-returns-in-Some-find t c =
    let a = c.args in
    let u : parts.NameWrote a.edit.now (stack_of a.work.now) (older-of a.work.now a.i) a.of.code a.of.number (set a.out.now a.pos c.lead.result) (a.pos + 1) c.match-linked.p c.match-linked.out = elim c.match-linked.branch [
      | name-in-None w ↦ rw (w.out-is, w.p-is) (parts.bare-wrote (no-link c.linked.ensures w.in-None.is) w.put_two-p.ensures w.put_two-p.auto.out)
      | name-in-Some w ↦ rw (w.out-is, w.p-is) (parts.named-wrote _ (some-link c.linked.ensures w.in-Some.is) w.name-p.ensures w.name-p.auto.out)
    ] in
    let n = c.put_not-q in
    naming.put _ c.args.i c.requires c.lead.result u n.ensures n.auto.out c.lead.ensures (naming.sole-wrote _ c.args.i c.requires c.lead.result u n.ensures n.auto.out c.shape-s.ensures c.if-s-ge16.true c.find.ensures.0 (parts.named-wrote _ (some-link refl c.in-Some-find.is) c.name.ensures c.name.auto.out))

pub name-emit-requires : goal.name-emit-requires
name-emit-requires t c =
    let a = c.args in
    let u : parts.NameWrote a.edit.now (stack_of a.work.now) (older-of a.work.now a.i) a.of.code a.of.number (set a.out.now a.pos c.lead.result) (a.pos + 1) c.match-linked.p c.match-linked.out = elim c.match-linked.branch [
      | name-in-None w ↦ rw (w.out-is, w.p-is) (parts.bare-wrote (no-link c.linked.ensures w.in-None.is) w.put_two-p.ensures w.put_two-p.auto.out)
      | name-in-Some w ↦ rw (w.out-is, w.p-is) (parts.named-wrote _ (some-link c.linked.ensures w.in-Some.is) w.name-p.ensures w.name-p.auto.out)
    ] in
    let n = c.put_not-q in
    (omega (arith, c.decreases, naming.wide _ c.args.i c.requires c.lead.result u n.ensures n.auto.out, naming.further _ c.args.i c.requires c.lead.result u n.ensures n.auto.out, naming.first-room a.out.now c.args.i c.requires), (naming.there _ c.args.i c.requires c.lead.result u n.ensures n.auto.out, links-lower (omega arith) c.requires.1))

pub name-returns : goal.name-returns
name-returns t c =
    let a = c.args in
    let u : parts.NameWrote a.edit.now (stack_of a.work.now) (older-of a.work.now a.i) a.of.code a.of.number (set a.out.now a.pos c.lead.result) (a.pos + 1) c.match-linked.p c.match-linked.out = elim c.match-linked.branch [
      | name-in-None w ↦ rw (w.out-is, w.p-is) (parts.bare-wrote (no-link c.linked.ensures w.in-None.is) w.put_two-p.ensures w.put_two-p.auto.out)
      | name-in-Some w ↦ rw (w.out-is, w.p-is) (parts.named-wrote _ (some-link c.linked.ensures w.in-Some.is) w.name-p.ensures w.name-p.auto.out)
    ] in
    let n = c.put_not-q in
    naming.put _ c.args.i c.requires c.lead.result u n.ensures n.auto.out c.lead.ensures (λ σ x e i a. (c.emit.ensures σ x e i a).0)
