use Rattle.std.proofs.Common.{sym, ◌∙◌, arith, rules}
use Rattle.sheet.specs.Sheet.{graph_of}
use Rattle.close_node.proofs.Uses.{within-opened}
use Rattle.close_node.proofs.CloseStages.{ask-passed, open-stops, open-already, open-judged}
use Rattle.close_node.proofs.open.Goals as goal

pub returns-in_default : goal.returns-in_default
returns-in_default c =
    let w = open-stops _ _ _ c.ask-answer.ensures c.in_default.is in
    record { result_value = w.0; sheet_after = w.1 }

-- Sheet, book and range have passed.
pub overflow_cast-it : goal.overflow_cast-it
overflow_cast-it c =
    let known = ask-passed _ _ _ (λ p. search rules) c.ask-answer.ensures c.in-Done.is in
    omega (arith, known.ready.below, known.within.few_nodes)

pub in_use-requires : goal.in_use-requires
in_use-requires c =
    let known = ask-passed _ _ _ (λ p. search rules) c.ask-answer.ensures c.in-Done.is in
    (known.ready.sound, known.ready.below)

pub returns-then-in_use : goal.returns-then-in_use
returns-then-in_use c =
    let known = ask-passed _ _ _ (λ p. search rules) c.ask-answer.ensures c.in-Done.is in
    let w = open-already _ _ _ known.ready known.bytes (sym c.in_use.ensures ∙ c.if-in_use.true) in
    record { result_value = w.0; sheet_after = w.1 }

-- The node is not in use.
pub judge_with-requires : goal.judge_with-requires
judge_with-requires c =
    let known = ask-passed _ _ _ (λ p. search rules) c.ask-answer.ensures c.in-Done.is in
    let unused = sym c.in_use.ensures ∙ c.if-in_use.false in
    let q = known.ready in
    (q.sound, q.below, unused, within-opened (graph_of c.args.sheet.now) _ known.within q.below, record { what = known.rules; stand = q.stand })

pub returns : goal.returns
returns c =
    let known = ask-passed _ _ _ (λ p. search rules) c.ask-answer.ensures c.in-Done.is in
    let unused = sym c.in_use.ensures ∙ c.if-in_use.false in
    let w = open-judged _ _ _ known.ready unused (c.judge_with.ensures known.rules known.ready.stand) in
    record { result_value = w.0; sheet_after = w.1 }
