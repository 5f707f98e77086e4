use borrow.Author.Rules.{rules}
use mathlib.Core.Path.{sym}
use Rattle.answer.specs.Answers.{asked}
use Rattle.answer.proofs.AnswerLaws.{learned, not-learned}
use Rattle.answer.proofs.OutputLaws.{not_written}
use Rattle.print_words.proofs.PrintStages.{answered-as, names-refused, text-refused, to_room, holds-names}
use Rattle.print_words.proofs.to_words.Goals as goal

pub returns-in_err-read_names : goal.returns-in_err-read_names
returns-in_err-read_names c =
    let w = not_written _ c.args.output.now _ _
    (names-refused _ (asked c.args.second) c.args.codes.now c.args.start c.args.rules _ (not-learned _ _ _ c.in_err-read_names.ensures.result_value)) in
    record { result_value = (let e = w.0 in search rules); output_after = w.1 }

pub returns-in_err-passed : goal.returns-in_err-passed
returns-in_err-passed c =
    let named = learned _ c.in_ok-read_names.ensures.result_value in
    let w = not_written _ c.args.output.now _ _ (text-refused _ _ c.args.codes.now c.args.start c.args.rules _ named.is (sym c.in_err-passed.ensures)) in
    record { result_value = (let e = w.0 in search rules); output_after = w.1 }

pub print_into-requires : goal.print_into-requires
print_into-requires c =
    let named = learned _ c.in_ok-read_names.ensures.result_value in
    let holds = holds-names _ named.is c.in_ok-read_names.ensures.held in
    let q = c.requires in
    let p = q.0 (sym c.in_ok-passed.ensures) in
    (holds.slots, p.0, p.1, q.1, q.2)

pub returns : goal.returns
returns c =
    let named = learned _ c.in_ok-read_names.ensures.result_value in
    let holds = holds-names _ named.is c.in_ok-read_names.ensures.held in
    let e = c.print_into.ensures in
    let a = answered-as (to_room _ _ _ _ _ _ named.is (sym c.in_ok-passed.ensures)) c.args.output.now (e.result_value _ holds, e.output_after _ holds) in
    record { result_value = a.0; output_after = a.1 }
