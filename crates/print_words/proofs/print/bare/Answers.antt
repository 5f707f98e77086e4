use borrow.Author.Rules.{rules}
use Rattle.print_words.proofs.OpeningLaws.{bare-label, bare-node, bare-arrow, bare-else, bare-end, bare-none}
use Rattle.print_words.proofs.print.bare.Goals as goal

pub returns-then-code-eq3 : goal.returns-then-code-eq3
returns-then-code-eq3 c = bare-label _ _ c.in-9.is c.if-code-eq3.true

pub returns-else-code-eq3 : goal.returns-else-code-eq3
returns-else-code-eq3 c = bare-node _ _ c.in-9.is c.if-code-eq3.false

pub returns-in-10 : goal.returns-in-10
returns-in-10 c = bare-arrow _ _ c.in-10.is

pub returns-in-12 : goal.returns-in-12
returns-in-12 c = bare-else _ _ c.in-12.is

pub returns-in-13 : goal.returns-in-13
returns-in-13 c = bare-end _ _ c.in-13.is

pub returns-in_default : goal.returns-in_default
returns-in_default c = bare-none _ _ c.requires.0 c.requires.1 (search rules) (search rules) (search rules) (search rules)
