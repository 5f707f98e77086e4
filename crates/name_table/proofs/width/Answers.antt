use borrow.Author.Tests.{lt-ltb, le-ltb}
use Rattle.names.specs.Names.{width}
use Rattle.name_table.proofs.width.Goals as goal

pub returns-then-x-lt10 : goal.returns-then-x-lt10
unfolding width
returns-then-x-lt10 c = rw (lt-ltb _ 10 c.if-x-lt10.true)

pub returns-then-x-lt100 : goal.returns-then-x-lt100
unfolding width
returns-then-x-lt100 c = rw (le-ltb _ 10 c.if-x-lt10.false) (rw (lt-ltb _ 100 c.if-x-lt100.true))

pub returns : goal.returns
unfolding width
returns c = rw (le-ltb _ 10 c.if-x-lt10.false) (rw (le-ltb _ 100 c.if-x-lt100.false))
