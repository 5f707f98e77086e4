use Rattle.judge.proofs.QuestionLaws.{judged-kept, judged-broken}
use Rattle.judge.proofs.holds.Goals as goal

pub returns-in-Done : goal.returns-in-Done
returns-in-Done c rules stand = judged-kept _ rules _ (c.judge_rules-verdict.ensures rules stand).0 c.in-Done.is

pub returns-in_default : goal.returns-in_default
returns-in_default c rules stand = judged-broken _ rules _ (c.judge_rules-verdict.ensures rules stand).0 _ c.in_default.is
