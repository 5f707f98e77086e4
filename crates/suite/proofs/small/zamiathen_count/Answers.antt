use Rattle.std.proofs.Common.{ap, ◌∙◌}
use Rattle.suite.specs.CountNumbers.{four_numbers}
use Rattle.suite.proofs.NumberLaws.{counts-numbers}
use Rattle.suite.proofs.small.zamiathen_count.Goals as goal

pub returns : goal.returns
returns c = c.from.ensures ∙ ap four_numbers c.count.ensures.value ∙ counts-numbers c.args.n c.args.book.now c.args.edit.now
