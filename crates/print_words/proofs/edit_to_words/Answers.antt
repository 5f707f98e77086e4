use native.Mathlib.Omega.{arith}
use Rattle.print_words.proofs.PrintStages.{answered-as, edit-prints, edit-asked}
use Rattle.print_words.proofs.edit_to_words.Goals as goal

pub to_words-requires : goal.to_words-requires
to_words-requires c = (edit-prints _ c.check_edit-second.ensures, omega arith, omega arith)

pub returns : goal.returns
returns c =
    let e = c.to_words.ensures in
    let a = answered-as (edit-asked _ c.check_edit-second.ensures _ _) c.args.output.now (e.result_value, e.output_after) in
    record { result_value = a.0; output_after = a.1 }
