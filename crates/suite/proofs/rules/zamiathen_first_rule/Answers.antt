use Rattle.std.proofs.Common.{ap, ◌∙◌, length}
use Rattle.answer.proofs.AnswerLaws.{numbers_of}
use Rattle.text.proofs.TextSpelling.{part-is-rule}
use Rattle.suite.proofs.NumberLaws.{rule-end-numbers}
use Rattle.suite.proofs.rules.zamiathen_first_rule.Goals as goal

pub returns : goal.returns
returns c =
    let a = c.first_rule_answer-a in
    let n = numbers_of a.result _ a.ensures in
    rule-end-numbers _ (c.number.ensures ∙ n.0) (c.place.ensures ∙ n.1) (ap length (part-is-rule c.first_rule-rule.ensures))
