use mathlib.Core.Path.{sym, ◌∙◌}
use Rattle.count_small.proofs.NameWalks.{reached-more, reached-other, reached-end}
use Rattle.count_small.proofs.names.only_first.Goals as goal

pub returns-then-other_named : goal.returns-then-other_named
returns-then-other_named c = reached-other _ _ _ c.loop-byte.invariant c.loop-byte-test.true (sym c.other_named.ensures ∙ c.if-other_named.true)

pub loop-byte-preserved : goal.loop-byte-preserved
loop-byte-preserved c = reached-more _ _ _ c.loop-byte.invariant _ c.loop-byte-test.true (sym c.other_named.ensures ∙ c.if-other_named.false) c.due_next-due.ensures

pub returns : goal.returns
returns c = reached-end _ _ _ c.loop-byte.invariant c.loop-byte-test.false
