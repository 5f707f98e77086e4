use native.Mathlib.Omega.{arith}
use mathlib.Core.Path.{refl, ◌∙◌}
use Rattle.tree.specs.Tree.{tree}
use Rattle.ends.proofs.RulePlaces.{rule-at}
use Rattle.measure.proofs.RuleMeasures.{rule-added}
use Rattle.measure.proofs.book.add_rule.Goals as goal

pub scan-next-requires : goal.scan-next-requires
scan-next-requires c = let s = c in (record { what = tree s.requires.0.what; stands = rule-at _ _ s.requires.0.what s.requires.0.stands }, omega arith, s.requires.1)

pub overflow_sub-next : goal.overflow_sub-next
overflow_sub-next c = let s = c in omega (arith, (c.scan-next.ensures (tree s.requires.0.what) (rule-at _ _ s.requires.0.what s.requires.0.stands)).ends)

pub returns : goal.returns
returns c = λ K h. let a = c.scan-next in rule-added _ _ K h _ _ _ _ (a.auto.state ∙ c.requires.1) a.ensures _ refl c.lengthen.ensures
