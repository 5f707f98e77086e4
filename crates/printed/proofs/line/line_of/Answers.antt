use mathlib.Core.Path.{refl}
use Rattle.answer.proofs.AnswerLaws.{unit-numbers}
use Rattle.printed.proofs.line.line_of.Goals as goal

pub returns : goal.returns
returns c = let n = unit-numbers c.args.a _ refl in cc
