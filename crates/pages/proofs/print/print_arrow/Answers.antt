use Rattle.std.proofs.Common.{rules}
use Rattle.answer.specs.Asked.{◌>>◌, ◌>>=◌, is, after}
use Rattle.answer.specs.Outputs.{written_length, written_output}
use Rattle.pages.specs.Print.{ask_print_arrow}
use Rattle.pages.proofs.print.print_arrow.Goals as goal

pub returns-in_err-passed : goal.returns-in_err-passed
unfolding ask_print_arrow written_length written_output ◌>>◌ ◌>>=◌ after
returns-in_err-passed c = search rules

pub returns-then-arrow-ge-ARROWS : goal.returns-then-arrow-ge-ARROWS
unfolding ask_print_arrow written_length written_output ◌>>◌ ◌>>=◌ after is
returns-then-arrow-ge-ARROWS c = search rules

pub returns : goal.returns
unfolding ask_print_arrow ◌>>◌ is
returns c = search rules
