use native.Mathlib.Omega.{arith}
use Rattle.tree.specs.Tree.{under}
use Rattle.measure.proofs.Held.{under-two}
use Rattle.measure.proofs.numbers.deeper.Goals as goal

pub returns-then-v-eq0 : goal.returns-then-v-eq0
unfolding under
returns-then-v-eq0 c = rw c.if-v-eq0.true

pub returns-else-v-eq0 : goal.returns-else-v-eq0
returns-else-v-eq0 c = omega (arith, c.add.ensures, under-two _ c.if-v-eq0.false)
