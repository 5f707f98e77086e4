use mathlib.Core.Path.{sym, subst}
use native.Mathlib.Omega.{arith}
use Rattle.std.specs.Prelude.{Some}
use Rattle.read_words.specs.Meeting.{Meets}
use Rattle.read_words.proofs.MeetLaws.{mark-there, mark-none, number-there, number-none}
use Rattle.read_words.proofs.meet.Goals as goal

pub returns-then-not-is_mark : goal.returns-then-not-is_mark
returns-then-not-is_mark c = mark-none _ (omega arith) (sym c.if-not-is_mark.ensures)

pub returns-then-item-lt4 : goal.returns-then-item-lt4
returns-then-item-lt4 c = subst (λ m. Meets c.args.table.now c.args.item c.args.word.now (Some m)) (sym c.alone.ensures) (mark-there _ (omega arith) (sym c.if-not-is_mark.ensures))

pub returns-in_err-x : goal.returns-in_err-x
returns-in_err-x c = subst (λ r. Meets c.args.table.now c.args.item c.args.word.now r) (sym c.from_residual.ensures) (number-none _ (omega arith) (omega arith) c.in_err-x.ensures)

pub returns-then-item-lt9 : goal.returns-then-item-lt9
returns-then-item-lt9 c = subst (λ m. Meets c.args.table.now c.args.item c.args.word.now (Some m)) (sym c.alone-then-item-lt9.ensures) (number-there _ (omega arith) (omega arith) c.in_ok-x.ensures)
