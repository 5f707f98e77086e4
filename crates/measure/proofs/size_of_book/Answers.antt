use mathlib.Core.Path.{sym, ◌∙◌}
use borrow.Author.Tests.{eqb-true, eqb-false}
use Rattle.measure.proofs.RuleMeasures.{no-book, book-sized, book_kept}
use Rattle.measure.proofs.size_of_book.Goals as goal

pub returns-then-is_empty : goal.returns-then-is_empty
returns-then-is_empty c = λ rules Z h g. no-book _ (eqb-true _ _ (sym c.is_empty.ensures ∙ c.if-is_empty.true)) rules Z h _ _

pub returns : goal.returns
returns c = λ rules Z h g.
    let k = c in let s = k in let a = s.add_book-rules.ensures rules h in let b = k.back-start.ensures.0 Z g in
    (book-sized _ (eqb-false _ _ (sym c.is_empty.ensures ∙ c.if-is_empty.false)) rules Z h _ _ _ _ _ _ _ a b, book_kept Z rules _ _ _ _ _ _ _ s.requires.4 a b)
