use Rattle.check_steps.proofs.Spans.{shape-none}
use Rattle.check_steps.proofs.shape_of.Goals as goal

pub returns-else-code-lt40 : goal.returns-else-code-lt40
returns-else-code-lt40 c = shape-none _ c.if-code-lt40.false
