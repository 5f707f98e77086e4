use Rattle.rows.proofs.OperationLaws.{ending-turned, ending-straight}
use Rattle.rows.proofs.relations.ending_rows.Goals as goal

pub returns-then-turned : goal.returns-then-turned
returns-then-turned c = (ending-turned _ c.if-turned.true c.start_rows.ensures.0, c.start_rows.ensures.1)

pub returns-else-turned : goal.returns-else-turned
returns-else-turned c = (ending-straight _ c.if-turned.false c.end_rows.ensures.0, c.end_rows.ensures.1)
