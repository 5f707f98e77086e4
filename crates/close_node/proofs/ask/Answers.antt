use Rattle.std.proofs.Common.{sym, ap, ◌∙◌, arith}
use Rattle.answer.specs.Answers.{asked}
use Rattle.judge.proofs.SheetAndBook.{sheet-refused, book-refused, book-learned}
use Rattle.close_node.proofs.CloseStages.{ask-stops, in-range, out_of_range}
use Rattle.close_node.proofs.ask.Goals as goal

pub returns-in_default : goal.returns-in_default
returns-in_default c = let no = c.in_default.is in rw no (ask-stops _ _ _ (sheet-refused _ _ c.check-sound.ensures no))

-- The sheet has passed.
pub returns-in_default-rules : goal.returns-in_default-rules
returns-in_default-rules c =
    let sound = sym c.check-sound.ensures ∙ ap asked c.in-Done.is in
    let no = c.in_default-rules.is in
    rw no (ask-stops _ _ _ (book-refused _ _ sound c.node_count-n.ensures.0 c.check_book-rules.ensures no))

-- The book has passed.
pub returns-then-node-n : goal.returns-then-node-n
returns-then-node-n c =
    let sound = sym c.check-sound.ensures ∙ ap asked c.in-Done.is in
    let read = book-learned _ _ sound c.node_count-n.ensures.0 c.check_book-rules.ensures c.in-Done-rules.is in
    in-range _ _ _ read.is (omega (arith, c.node_count-n.ensures.0, c.if-node-n.true))

pub returns : goal.returns
returns c =
    let sound = sym c.check-sound.ensures ∙ ap asked c.in-Done.is in
    let read = book-learned _ _ sound c.node_count-n.ensures.0 c.check_book-rules.ensures c.in-Done-rules.is in
    out_of_range _ _ _ read.is (omega (arith, c.node_count-n.ensures.0, c.if-node-n.false))
