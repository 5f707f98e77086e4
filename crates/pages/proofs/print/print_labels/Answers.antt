use Rattle.std.proofs.Common.{rules}
use Rattle.answer.specs.Asked.{◌>>◌, ◌>>=◌, is, after}
use Rattle.answer.specs.Outputs.{written_length, written_output}
use Rattle.pages.specs.Print.{ask_print_labels}
use Rattle.pages.proofs.print.print_labels.Goals as goal

pub returns-in_err-passed : goal.returns-in_err-passed
unfolding ask_print_labels written_length written_output ◌>>◌ ◌>>=◌ after
returns-in_err-passed c = search rules

pub returns : goal.returns
unfolding ask_print_labels ◌>>◌ is
returns c = search rules
