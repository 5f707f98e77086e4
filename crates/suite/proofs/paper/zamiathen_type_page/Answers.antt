use Rattle.std.proofs.Common.{ap, ◌∙◌}
use Rattle.suite.specs.Numbers.{numbers}
use Rattle.suite.proofs.NumberLaws.{outcome-numbers}
use Rattle.suite.proofs.paper.zamiathen_type_page.Goals as goal

pub returns-clause-value : goal.returns-clause-value
returns-clause-value c = c.from.ensures ∙ ap numbers c.type_page.ensures.result_value ∙ outcome-numbers _
