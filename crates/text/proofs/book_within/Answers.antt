use native.Mathlib.Omega.{arith}
use mathlib.Core.Path.{sym, ◌∙◌}
use Rattle.text.proofs.TextStages.{book-long, book-short, rules-end, rules-full, rules-next, rules-stopped}
use Rattle.text.proofs.book_within.Goals as goal

pub returns-then-book-limits : goal.returns-then-book-limits
returns-then-book-limits c = book-long _ _ c.if-book-limits.true

pub loop-init : goal.loop-init
loop-init c = book-short _ _ c.if-book-limits.false

pub returns-then-p-book : goal.returns-then-p-book
returns-then-p-book c = rules-end _ _ _ _ c.if-p-book.true ∙ c.loop.invariant

pub returns-in-Err : goal.returns-in-Err
returns-in-Err c =
    c.in_book.ensures
    ∙ rules-stopped _ _ _ _ c.if-p-book.false (omega (arith, c.loop-test.true)) (sym c.read.ensures ∙ c.in-Err.is)
    ∙ c.loop.invariant

pub loop-preserved : goal.loop-preserved
loop-preserved c =
    rules-next _ _ _ _ c.if-p-book.false _ (omega (arith, c.loop-test.true)) (sym c.read.ensures ∙ c.in-Ok.is)
    ∙ c.loop.invariant

pub returns-then-p-book-2 : goal.returns-then-p-book-2
returns-then-p-book-2 c = rules-full _ _ _ _ c.if-p-book-2.true (omega (arith, c.loop-test.false)) ∙ c.loop.invariant

pub returns : goal.returns
returns c = rules-end _ _ _ _ c.if-p-book-2.false ∙ c.loop.invariant
