use mathlib.Core.Path.{◌∙◌, ap}
use native.Mathlib.Omega.{arith}
use Rattle.names.specs.Token.{same}
use Rattle.read_words.proofs.MeetLaws.{mark-part}
use Rattle.read_words.proofs.is_mark.Goals as goal

pub returns : goal.returns
returns c = c.same.ensures ∙ ap (same _) (mark-part _ (omega arith) (omega arith))
