use native.Mathlib.Omega.{arith}
use Rattle.keywords.proofs.PickLaws.{phrase-below}
use Rattle.read_words.proofs.MeetLaws.{bare-meets, phrase-meets}
use Rattle.read_words.proofs.begin.Goals as goal

pub returns-in_default : goal.returns-in_default
returns-in_default c = bare-meets _ (omega arith) c.in_default.ensures c.bare.ensures

pub code_at-requires : goal.code_at-requires
code_at-requires c = phrase-below _ _ c.in-Some.ensures.1

pub returns : goal.returns
returns c = phrase-meets _ (omega arith) c.in-Some.ensures c.code_at.ensures c.row_of.ensures
