use native.Mathlib.Omega.{arith}
use Rattle.eval.proofs.CodePlaces.{some-inside}
use Rattle.eval.proofs.leaf_rule.Goals as goal

pub bounds-text-at : goal.bounds-text-at
bounds-text-at c = omega (arith, some-inside c.requires.1)
