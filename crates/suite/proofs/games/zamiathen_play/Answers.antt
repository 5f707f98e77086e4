use Rattle.std.proofs.Common.{◌∙◌}
use Rattle.suite.proofs.NumberLaws.{play-numbers}
use Rattle.suite.proofs.games.zamiathen_play.Goals as goal

pub returns : goal.returns
returns c = c.from.ensures ∙ play-numbers _ _ _ c.play.ensures.value c.play.ensures.edit_value
