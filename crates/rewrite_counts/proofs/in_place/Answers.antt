use Rattle.std.proofs.Common.{◌∙◌, ap, arith}
use Rattle.ends.specs.Shapes.{shapes, shape_of}
use Rattle.ends.proofs.TreePlaces.{inside}
use Rattle.rewrite_counts.proofs.RewriterTurns.{count_at, least-here, most-here, nothing-here}
use Rattle.rewrite_counts.proofs.in_place.Goals as goal

pub bounds-book-at : goal.bounds-book-at
bounds-book-at c = inside _ _ _ c.requires.stands

pub bounds-book-at-in-10 : goal.bounds-book-at-in-10
bounds-book-at-in-10 c = unfold shapes in omega (arith, (count_at _ _ _ c.requires.stands (ap shape_of c.in-10.is)).room)

pub bounds-book-at-in-11 : goal.bounds-book-at-in-11
bounds-book-at-in-11 c = unfold shapes in omega (arith, (count_at _ _ _ c.requires.stands (ap shape_of c.in-11.is)).room)

pub returns-in-10 : goal.returns-in-10
returns-in-10 c = λ t h. c.least_in_place.ensures ∙ least-here _ _ t h c.in-10.is

pub returns-in-11 : goal.returns-in-11
returns-in-11 c = λ t h. c.most_in_place.ensures ∙ most-here _ _ t h c.in-11.is

pub returns-in_default : goal.returns-in_default
returns-in_default c = λ t h. nothing-here _ _ t h (λ e. omega arith) (λ e. omega arith)
