use Rattle.std.proofs.Common.{sym, ap, length, arith}
use Rattle.write.proofs.Laying.{wrote_as, wrote_one}
use Rattle.rewrite_counts.proofs.ToCome.{tree-here, next-turn, stored-first, stored-length, stored-room, stored_next, stored-size, stored-end}
use Rattle.rewrite_counts.proofs.put_rewritten.Goals as goal

pub loop-p-init : goal.loop-p-init
loop-p-init c = λ rules b. stored-first _ rules b _

pub turn_at-here-requires : goal.turn_at-here-requires
turn_at-here-requires c = tree-here (c.loop-p.invariant c.requires.rules c.requires.is).left c.loop-p-test.true

pub overflow_sub-here : goal.overflow_sub-here
overflow_sub-here c = let n = next-turn (c.loop-p.invariant c.requires.rules c.requires.is).left c.loop-p-test.true c.turn_at-here.ensures in omega (arith, n.on)

pub copy-q-requires : goal.copy-q-requires
copy-q-requires c = let n = next-turn (c.loop-p.invariant c.requires.rules c.requires.is).left c.loop-p-test.true c.turn_at-here.ensures in (omega (arith, n.on, n.in-text), omega (arith, n.on, stored-room (c.loop-p.invariant c.requires.rules c.requires.is) n c.requires.fits, (n.copied c.in-None.is).1))

pub bounds-out-q : goal.bounds-out-q
bounds-out-q c = let n = next-turn (c.loop-p.invariant c.requires.rules c.requires.is).left c.loop-p-test.true c.turn_at-here.ensures in omega (arith, stored-room (c.loop-p.invariant c.requires.rules c.requires.is) n c.requires.fits, ap length (n.put _ c.in-Some.is))

pub overflow_add-q : goal.overflow_add-q
overflow_add-q c = let n = next-turn (c.loop-p.invariant c.requires.rules c.requires.is).left c.loop-p-test.true c.turn_at-here.ensures in
    omega (arith, stored-room (c.loop-p.invariant c.requires.rules c.requires.is) n c.requires.fits, ap length (n.put _ c.in-Some.is), stored-length (c.loop-p.invariant c.requires.rules c.requires.is), c.well_formed.0.1)

pub loop-p-smaller-in-None : goal.loop-p-smaller-in-None
loop-p-smaller-in-None c = let n = next-turn (c.loop-p.invariant c.requires.rules c.requires.is).left c.loop-p-test.true c.turn_at-here.ensures in omega (arith, n.on, n.in-text)

pub loop-p-preserved-in-None : goal.loop-p-preserved-in-None
loop-p-preserved-in-None c = λ rules b.
    let n = next-turn (c.loop-p.invariant rules b).left c.loop-p-test.true c.turn_at-here.ensures in
    stored_next (c.loop-p.invariant rules b) n (wrote_as (sym (n.copied c.in-None.is).0) c.copy-q.ensures)

pub loop-p-smaller : goal.loop-p-smaller
loop-p-smaller c = let n = next-turn (c.loop-p.invariant c.requires.rules c.requires.is).left c.loop-p-test.true c.turn_at-here.ensures in omega (arith, n.on, n.in-text)

pub loop-p-preserved : goal.loop-p-preserved
loop-p-preserved c = λ rules b.
    let n = next-turn (c.loop-p.invariant rules b).left c.loop-p-test.true c.turn_at-here.ensures in
    stored_next (c.loop-p.invariant rules b) n (wrote_as (sym (n.put _ c.in-Some.is)) (wrote_one _ _ _))

pub returns : goal.returns
returns c = λ rules b. stored-end (c.loop-p.invariant rules b) c.loop-p-test.false (omega (arith, stored-size (c.loop-p.invariant c.requires.rules c.requires.is) c.loop-p-test.false, c.requires.fits))
