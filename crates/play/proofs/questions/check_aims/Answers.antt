use Rattle.std.proofs.Common.{sym, ◌∙◌, rules}
use Rattle.std.proofs.lemmas.Result.{err_from_is_err_and}
use Rattle.play.proofs.PlayStages.{sheet-stops, book-stops, goal-last}
use Rattle.play.proofs.questions.check_aims.Goals as goal

pub returns-in_err-passed : goal.returns-in_err-passed
returns-in_err-passed c =
    let p = err_from_is_err_and c.from_residual.result c.from_residual.ensures.1 in
    rw (p.1, p.2) (sheet-stops _ _ _ _ _ (c.in_err-passed.ensures ∙ c.check.ensures))

pub returns-in_err-passed-2 : goal.returns-in_err-passed-2
returns-in_err-passed-2 c =
    let p = err_from_is_err_and c.from_residual-in_err-passed-2.result c.from_residual-in_err-passed-2.ensures.1 in
    rw (p.1, p.2)
    (book-stops _ _ _ (sym c.check.ensures ∙ sym c.in_ok-passed.ensures) c.node_count-n.ensures.0 _ _ (c.in_err-passed-2.ensures ∙ c.check_book.ensures))

pub returns : goal.returns
returns c =
    goal-last _ _ _ (sym c.check.ensures ∙ sym c.in_ok-passed.ensures) c.node_count-n.ensures.0 (c.in_ok-passed-2.ensures ∙ c.check_book.ensures)
    (search rules)
