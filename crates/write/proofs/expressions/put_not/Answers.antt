use native.Mathlib.Omega.{arith}
use borrow.Author.Tests.{eq-eqb, ne_eqb}
use Rattle.write.proofs.Laying.{wrote_one, wrote_none}
use Rattle.write.proofs.expressions.put_not.Goals as goal

pub bounds-out-pos : goal.bounds-out-pos
bounds-out-pos c = omega (arith, simp (eq-eqb _ _ c.if-op-eq50.true) at c.requires)

pub overflow_add-result : goal.overflow_add-result
overflow_add-result c = omega (arith, simp (eq-eqb _ _ c.if-op-eq50.true) at c.requires)

pub returns-then-op-eq50 : goal.returns-then-op-eq50
returns-then-op-eq50 c = simp (eq-eqb _ _ c.if-op-eq50.true) (wrote_one c.args.out.now c.args.pos 0x05)

pub returns : goal.returns
returns c = simp (ne_eqb _ _ c.if-op-eq50.false) (wrote_none c.args.out.now c.args.pos)
