use Rattle.std.proofs.Common.{refl}
use Rattle.answer.specs.Asked.{asked_number, asked_place}
use Rattle.log_blocks.specs.Round.{stopped}
use Rattle.log_blocks.proofs.stop.Goals as goal

pub returns-in-Ok-clause-value : goal.returns-in-Ok-clause-value
unfolding stopped
returns-in-Ok-clause-value c held edit sheet = rw c.in-Ok.is refl

pub returns-in-Err-clause-value : goal.returns-in-Err-clause-value
unfolding stopped asked_number asked_place
returns-in-Err-clause-value c held edit sheet = rw (c.line_of.ensures, c.in-Err.is) refl
