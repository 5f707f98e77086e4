use Rattle.std.proofs.Common.{rules}
use Rattle.pages.specs.Typed.{head_is_def, ask_head}
use Rattle.pages.proofs.typed.head_of.Goals as goal

pub returns-then-head_is : goal.returns-then-head_is
unfolding ask_head
returns-then-head_is c = search rules

pub returns-then-page-lt-LINE : goal.returns-then-page-lt-LINE
unfolding ask_head head_is_def
returns-then-page-lt-LINE c = search rules

pub returns-then-head_is-2 : goal.returns-then-head_is-2
unfolding ask_head
returns-then-head_is-2 c = search rules

pub returns : goal.returns
unfolding ask_head
returns c = search rules
