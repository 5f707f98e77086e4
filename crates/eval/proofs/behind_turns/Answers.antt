use Rattle.eval.proofs.CodePlaces.{starts-inside}
use Rattle.eval.proofs.ReversedTurns.{turned_more}
use Rattle.eval.proofs.behind_turns.Goals as goal

pub bounds-text-next : goal.bounds-text-next
bounds-text-next c = let t = c.loop-next.invariant _ c.requires.stands in starts-inside _ _ _ _ t.stands

pub loop-next-preserved : goal.loop-next-preserved
loop-next-preserved c e h = turned_more _ _ _ _ _ _ (c.loop-next.invariant e h) c.loop-next-test.true
