use Rattle.std.proofs.Common.{sym, ◌∙◌, arith, rules}
use Rattle.sheet.specs.Sheet.{graph_of}
use Rattle.close_node.proofs.Uses.{within-closed}
use Rattle.close_node.proofs.CloseStages.{ask-passed, close-stops, close-already, close-kept, close-judged}
use Rattle.close_node.proofs.close.Goals as goal

pub returns-in_default : goal.returns-in_default
returns-in_default c =
    let w = close-stops _ _ _ c.ask-answer.ensures c.in_default.is in
    record { result_value = w.0; sheet_after = w.1 }

-- Sheet, book and range have passed.
pub overflow_cast-it : goal.overflow_cast-it
overflow_cast-it c =
    let known = ask-passed _ _ _ (λ p. search rules) c.ask-answer.ensures c.in-Done.is in
    omega (arith, known.ready.below, known.within.few_nodes)

pub in_use-requires : goal.in_use-requires
in_use-requires c =
    let known = ask-passed _ _ _ (λ p. search rules) c.ask-answer.ensures c.in-Done.is in
    (known.ready.sound, known.ready.below)

pub returns-then-not-in_use : goal.returns-then-not-in_use
returns-then-not-in_use c =
    let known = ask-passed _ _ _ (λ p. search rules) c.ask-answer.ensures c.in-Done.is in
    let w = close-already _ _ _ known.ready known.bytes (sym c.in_use.ensures ∙ c.if-not-in_use.true) in
    record { result_value = w.0; sheet_after = w.1 }

pub can_close-requires : goal.can_close-requires
can_close-requires c =
    let known = ask-passed _ _ _ (λ p. search rules) c.ask-answer.ensures c.in-Done.is in
    (known.ready.sound, known.ready.below)

-- The node is in use.
pub returns-then-not-can_close : goal.returns-then-not-can_close
returns-then-not-can_close c =
    let known = ask-passed _ _ _ (λ p. search rules) c.ask-answer.ensures c.in-Done.is in
    let used = sym c.in_use.ensures ∙ c.if-not-in_use.false in
    let w = close-kept _ _ _ known.ready used (sym c.can_close.ensures ∙ c.if-not-can_close.true) in
    record { result_value = w.0; sheet_after = w.1 }

-- It may be closed.
pub judge_with-requires : goal.judge_with-requires
judge_with-requires c =
    let known = ask-passed _ _ _ (λ p. search rules) c.ask-answer.ensures c.in-Done.is in
    let used = sym c.in_use.ensures ∙ c.if-not-in_use.false in
    let may = sym c.can_close.ensures ∙ c.if-not-can_close.false in
    let q = known.ready in
    (q.sound, q.below, used, within-closed (graph_of c.args.sheet.now) _ known.within may, record { what = known.rules; stand = q.stand })

pub returns : goal.returns
returns c =
    let known = ask-passed _ _ _ (λ p. search rules) c.ask-answer.ensures c.in-Done.is in
    let used = sym c.in_use.ensures ∙ c.if-not-in_use.false in
    let may = sym c.can_close.ensures ∙ c.if-not-can_close.false in
    let w = close-judged _ _ _ known.ready used may (c.judge_with.ensures known.rules known.ready.stand) in
    record { result_value = w.0; sheet_after = w.1 }
