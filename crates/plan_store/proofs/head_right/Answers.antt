use Rattle.std.proofs.Common.{sym, ◌∙◌, arith}
use Rattle.plan_store.proofs.StoreHead.{not-four, bit-7, not-zero, words-not-zero, only-sums}
use Rattle.plan_store.proofs.head_right.Goals as goal
use Rattle.plan_store.proofs.head_right.Goals.{then-head-ne4-via-then-head-ne4, then-head-ne4-via-else-head-ne4+then-head-ge128, then-head-ne4-via-else-head-ne4+else-head-ge128+then-head-ne0, then-head-ne4-via-else-head-ne4+else-head-ge128+else-head-ne0+then-head-ne0-2}

pub returns-then-head-ne4 : goal.returns-then-head-ne4
returns-then-head-ne4 c =
    elim c.then-head-ne4.branch [
      | then-head-ne4-via-then-head-ne4 w ↦ not-four _ w.if-head-ne4.true
      | then-head-ne4-via-else-head-ne4+then-head-ge128 w ↦ bit-7 _ w.if-head-ge128.true
      | then-head-ne4-via-else-head-ne4+else-head-ge128+then-head-ne0 w ↦ not-zero _ 504 (omega arith) w.if-head-ne0.true
      | then-head-ne4-via-else-head-ne4+else-head-ge128+else-head-ne0+then-head-ne0-2 w ↦ not-zero _ 505 (omega arith) w.if-head-ne0-2.true
    ]

-- the bytes outside the words are zero
pub returns-then-zeros : goal.returns-then-zeros
returns-then-zeros c =
    c.seal_right.ensures
    ∙ only-sums _ c.if-head-ne0.false c.if-head-ne0-2.false c.if-head-ne4.false c.if-head-ge128.false (sym c.zeros.ensures ∙ c.if-zeros.true)

pub returns-else-zeros : goal.returns-else-zeros
returns-else-zeros c = c.if-zeros.false ∙ words-not-zero _ c.if-head-ne0.false c.if-head-ne0-2.false (sym c.zeros.ensures ∙ c.if-zeros.false)
