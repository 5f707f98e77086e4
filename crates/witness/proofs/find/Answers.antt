use Rattle.std.proofs.Common.{rules, sym, ◌∙◌}
use native.Mathlib.Nat.{sub-zero}
use Rattle.answer.specs.Asked.{◌>>◌}
use Rattle.answer.proofs.AnswerLaws.{learned, not-learned}
use Rattle.text.specs.Reading.{longest_carried}
use Rattle.text.proofs.TextPlaces.{take_min}
use Rattle.witness.specs.Witnessed.{ask_witness}
use Rattle.witness.proofs.WitnessStages.{rule-refused, rule_found, rule-stands}
use Rattle.witness.proofs.find.Goals as goal

pub returns-in_err-passed : goal.returns-in_err-passed
returns-in_err-passed c = unfold ask_witness ◌>>◌ in search rules

-- the sheet has passed, and this much of the text is looked at
pub returns-in_err-passed-2 : goal.returns-in_err-passed-2
returns-in_err-passed-2 c =
    let sound = sym c.check.ensures ∙ sym c.in_ok-passed.ensures in
    let seen = rw sub-zero at (take_min c.args.text.now longest_carried _ c.looked_at.ensures) in
    let w = rule-refused _ c.args.text.now sound c.node_count.ensures.0 _ seen (not-learned _ _ _ (c.in_err-passed-2.ensures ∙ c.check_first_carried.ensures)) in
    search rules

-- the rule has passed
pub name_first-requires : goal.name_first-requires
name_first-requires c =
    let k = learned _ (c.in_ok-passed-2.ensures ∙ c.check_first_carried.ensures) in
    (sym c.check.ensures ∙ sym c.in_ok-passed.ensures, record { what = k.what; stands = rule-stands _ c.node_count.ensures.0 k.is })

pub returns : goal.returns
returns c =
    let sound = sym c.check.ensures ∙ sym c.in_ok-passed.ensures in
    let seen = rw sub-zero at (take_min c.args.text.now longest_carried _ c.looked_at.ensures) in
    let k = learned _ (c.in_ok-passed-2.ensures ∙ c.check_first_carried.ensures) in let n = c.node_count.ensures.0 in
    rule_found _ c.args.text.now sound n _ seen k.is (c.name_first.ensures k.what (rule-stands _ n k.is))
