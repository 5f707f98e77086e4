use mathlib.Core.Path.{refl, sym}
use native.Mathlib.Omega.{arith}
use borrow.Author.Tests.{le-leb, lt-leb}
use Rattle.read_words.specs.Meeting.{wrong_number}
use Rattle.read_words.proofs.wrong.Goals as goal

pub returns-then-item-lt4 : goal.returns-then-item-lt4
unfolding wrong_number
returns-then-item-lt4 c = (sym (rw (le-leb c.args.item 3 (omega arith))), refl)

pub returns-then-item-lt9 : goal.returns-then-item-lt9
unfolding wrong_number
returns-then-item-lt9 c = (sym (rw (lt-leb c.args.item 3 (omega arith), le-leb c.args.item 8 (omega arith))), refl)

pub returns : goal.returns
unfolding wrong_number
returns c = (sym (rw (lt-leb c.args.item 3 (omega arith), lt-leb c.args.item 8 (omega arith))), refl)
