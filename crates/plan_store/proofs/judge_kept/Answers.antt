use Rattle.std.proofs.Common.{◌∙◌}
use Rattle.judge.proofs.SheetAndBook.{book-refused, book-learned, rules_stand}
use Rattle.judge.proofs.Deciding.{judge-refused, judge-found}
use Rattle.plan_store.proofs.StoreStages.{kept-judged}
use Rattle.plan_store.proofs.judge_kept.Goals as goal

pub returns-in_default : goal.returns-in_default
returns-in_default c =
    let no = c.in_default.is in
    rw no ((judge-refused _ _ (book-refused _ _ c.requires c.node_count.ensures.0 c.check_book-rules.ensures no)).0 ∙ kept-judged _ _ c.requires)

-- the book has been read
pub judge_rules-verdict-requires : goal.judge_rules-verdict-requires
judge_rules-verdict-requires c =
    let k = book-learned _ _ c.requires c.node_count.ensures.0 c.check_book-rules.ensures c.in-Done.is in
    (c.requires, record { what = k.what; stand = rules_stand _ _ k.is })

pub returns : goal.returns
returns c =
    let k = book-learned _ _ c.requires c.node_count.ensures.0 c.check_book-rules.ensures c.in-Done.is in
    (judge-found _ _ k.is (c.judge_rules-verdict.ensures k.what (rules_stand _ _ k.is))).0 ∙ kept-judged _ _ c.requires
