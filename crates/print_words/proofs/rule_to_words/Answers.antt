use native.Mathlib.Omega.{arith}
use Rattle.text.specs.Reading.{longest_carried}
use Rattle.text.proofs.TextPlaces.{take_min}
use Rattle.print_words.proofs.PrintStages.{answered-as, rule-prints, rule-asked}
use Rattle.print_words.proofs.rule_to_words.Goals as goal

pub to_words-requires : goal.to_words-requires
to_words-requires c = (rule-prints _ c.check_first_carried-second.ensures, omega arith, omega arith)

pub returns : goal.returns
returns c =
    let e = c.to_words.ensures in
    let seen = take_min _ longest_carried _ c.looked_at-end.ensures in
    let a = answered-as (rule-asked _ c.check_first_carried-second.ensures _ _ _ seen) c.args.output.now (e.result_value, e.output_after) in
    record { result_value = a.0; output_after = a.1 }
