-- An edit without its idle steps: a step changes nothing if its name stands nowhere in the book carried through what follows.
-- M is the measure of a book of r rules.
use Rattle.std.specs.Prelude.{cond, ℕ, eqb}
use Rattle.logic.specs.Syntax.{Edit, finish, add_label, take_label, add_arrow, take_arrow, choose}
use Rattle.tree.specs.Sizes.{Measure, back}

unfoldable pub pruned : ℕ → Edit → Measure → Edit
pruned r finish M = finish
pruned r (add_label k E Z) M = cond (eqb ((back r Z M).counts 0x03 k) 0) (pruned r Z M) (add_label k E (pruned r Z M))
pruned r (take_label k E Z) M = cond (eqb ((back r Z M).counts 0x03 k) 0) (pruned r Z M) (take_label k E (pruned r Z M))
pruned r (add_arrow a R Z) M = cond (eqb ((back r Z M).counts 0x11 a) 0) (pruned r Z M) (add_arrow a R (pruned r Z M))
pruned r (take_arrow a R Z) M = cond (eqb ((back r Z M).counts 0x11 a) 0) (pruned r Z M) (take_arrow a R (pruned r Z M))
pruned r (choose K P Q Z) M = choose K (pruned r P (back r Z M)) (pruned r Q (back r Z M)) (pruned r Z M)
