use Rattle.std.proofs.Common.{ap, ◌∙◌}
use Rattle.suite.specs.Numbers.{numbers}
use Rattle.suite.proofs.NumberLaws.{outcome-numbers}
use Rattle.suite.proofs.words.zamiathen_check_names.Goals as goal

pub returns : goal.returns
returns c = c.from.ensures ∙ ap numbers c.check_names.ensures ∙ outcome-numbers _
