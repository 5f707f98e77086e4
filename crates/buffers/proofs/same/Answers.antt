use mathlib.Core.Path.{◌∙◌}
use Rattle.names.proofs.TokenLaws.{bytes-same}
use Rattle.buffers.proofs.same.Goals as goal

pub returns : goal.returns
returns c = c.eq.ensures ∙ bytes-same _ _
