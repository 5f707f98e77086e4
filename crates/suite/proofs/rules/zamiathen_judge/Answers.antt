use Rattle.std.proofs.Common.{ap}
use Rattle.text.specs.Part.{Part}
use Rattle.answer.proofs.AnswerLaws.{unit-numbers}
use Rattle.suite.proofs.rules.zamiathen_judge.Goals as goal

pub returns : goal.returns
returns c =
    let v = c.decide-verdict in
    let n = unit-numbers v.result.answer _ v.ensures.0 in
    cc (ap (λ (p : Part). p.start) v.ensures.1, ap (λ (p : Part). p.size) v.ensures.1)
