use mathlib.Core.Path.{refl, sym, ◌∙◌}
use mathlib.Core.Logic.{inl}
use native.Mathlib.Omega.{arith}
use Rattle.answer.proofs.AnswerLaws.{not-learned}
use Rattle.read_words.proofs.FromLaws.{known, was_read, was-refused, no-such-rule, no_names, all-rules-read, rule-there, other-fault}
use Rattle.read_words.proofs.rule_in_words.Goals as goal

pub returns-then-rule-ge-RULES : goal.returns-then-rule-ge-RULES
returns-then-rule-ge-RULES c = no-such-rule _ _ _ c.if-rule-ge-RULES.true

pub returns-in-Err : goal.returns-in-Err
returns-in-Err c = no_names _ _ _ c.if-rule-ge-RULES.false (not-learned _ _ _ c.in-Err.ensures.result_value)

pub read-requires : goal.read-requires
read-requires c =
    let k = known _ _ c.in_default.ensures.result_value c.in_default.ensures.held in
    (k.holds.slots, inl refl, omega (arith, c.if-rule-ge-RULES.false))

pub returns-then-number-eq69 : goal.returns-then-number-eq69
returns-then-number-eq69 c =
    let k = known _ _ c.in_default.ensures.result_value c.in_default.ensures.held in
    c.place.ensures
    ∙ rule-there _ _ _ c.if-rule-ge-RULES.false k (sym c.number.ensures ∙ c.if-number-eq69.true)
    (was-refused _ _ _ (c.in-Err-read.ensures.result_value _ k.holds))

pub returns-else-number-eq69 : goal.returns-else-number-eq69
returns-else-number-eq69 c =
    let k = known _ _ c.in_default.ensures.result_value c.in_default.ensures.held in
    other-fault _ _ _ c.if-rule-ge-RULES.false k (λ e. c.if-number-eq69.false (c.number.ensures ∙ e))
    (was-refused _ _ _ (c.in-Err-read.ensures.result_value _ k.holds))

-- the words were read
pub returns-in_default-read : goal.returns-in_default-read
returns-in_default-read c =
    let k = known _ _ c.in_default.ensures.result_value c.in_default.ensures.held in
    all-rules-read _ _ _ c.if-rule-ge-RULES.false k (was_read _ _ (c.in_default-read.ensures.result_value _ k.holds))
