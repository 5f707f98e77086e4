use Rattle.answer.specs.Asked.{◌>>◌, is}
use borrow.Author.Rules.{rules}
use Rattle.join_sheets.specs.Joined.{ask_join}
use Rattle.join_sheets.proofs.ask.Goals as goal

pub returns-in_default : goal.returns-in_default
returns-in_default c = unfold ask_join ◌>>◌ is in search rules

pub returns-in_default-other : goal.returns-in_default-other
returns-in_default-other c = unfold ask_join ◌>>◌ is in search rules

pub returns-then-total-le-NODES : goal.returns-then-total-le-NODES
returns-then-total-le-NODES c = unfold ask_join ◌>>◌ is in search rules

pub returns : goal.returns
returns c = unfold ask_join ◌>>◌ is in search rules
