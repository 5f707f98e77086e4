use mathlib.Core.Path.{sym, subst}
use native.Mathlib.Omega.{arith}
use borrow.Author.Rules.{rules}
use Rattle.std.specs.Prelude.{Some}
use Rattle.names.specs.Token.{ascii}
use Rattle.read_words.specs.Meeting.{MeetsBare}
use Rattle.read_words.proofs.MeetLaws.{label-there, node-there, node-none, arrow-there, arrow-none, else-meets, end-meets, none-meets}
use Rattle.read_words.proofs.bare.Goals as goal

pub returns-in-Some : goal.returns-in-Some
returns-in-Some c = subst (λ m. MeetsBare c.args.table.now c.args.item c.args.word.now (Some m)) (sym c.alone.ensures) (label-there _ c.in-9.is c.in-Some.ensures)

pub returns-in_err-node-in-9 : goal.returns-in_err-node-in-9
returns-in_err-node-in-9 c = subst (λ r. MeetsBare c.args.table.now c.args.item c.args.word.now r) (sym c.from_residual.ensures) (node-none _ c.in-9.is c.in_default-number_of.ensures c.in_err-node-in-9.ensures)

pub returns-in_ok-node-in-9 : goal.returns-in_ok-node-in-9
returns-in_ok-node-in-9 c = subst (λ m. MeetsBare c.args.table.now c.args.item c.args.word.now (Some m)) (sym c.alone-in-9.ensures) (node-there _ c.in-9.is c.in_default-number_of.ensures c.in_ok-node-in-9.ensures)

pub returns-in_err-arrow-in-10 : goal.returns-in_err-arrow-in-10
returns-in_err-arrow-in-10 c = subst (λ r. MeetsBare c.args.table.now c.args.item c.args.word.now r) (sym c.from_residual-in_err-arrow-in-10.ensures) (arrow-none _ c.in-10.is c.in_err-arrow-in-10.ensures)

pub returns-in_ok-arrow-in-10 : goal.returns-in_ok-arrow-in-10
returns-in_ok-arrow-in-10 c = subst (λ m. MeetsBare c.args.table.now c.args.item c.args.word.now (Some m)) (sym c.alone-in-10.ensures) (arrow-there _ c.in-10.is c.in_ok-arrow-in-10.ensures)

pub returns-in-12 : goal.returns-in-12
unfolding ascii
returns-in-12 c = else-meets _ c.in-12.is c.same.ensures c.closed.ensures

pub returns-in-13 : goal.returns-in-13
unfolding ascii
returns-in-13 c = end-meets _ c.in-13.is c.same-in-13.ensures c.closed-in-13.ensures

pub returns-in_default : goal.returns-in_default
returns-in_default c = none-meets _ (omega arith) (omega arith) (search rules) (search rules) (search rules) (search rules)
