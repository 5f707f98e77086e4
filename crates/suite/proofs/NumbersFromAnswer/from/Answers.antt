use Rattle.std.proofs.Common.{refl}
use Rattle.answer.proofs.AnswerLaws.{unit-numbers}
use Rattle.suite.proofs.NumbersFromAnswer.from.Goals as goal

pub returns : goal.returns
returns c = let n = unit-numbers c.args.a _ refl in cc
