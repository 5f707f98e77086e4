use native.Mathlib.Omega.{arith}
use Rattle.ends.proofs.TreePlaces.{inside}
use Rattle.ends.proofs.Pending.{code_at}
use Rattle.write.proofs.Walking.{one_code}
use Rattle.write.proofs.ways.behind.Goals as goal

pub bounds-edit-at : goal.bounds-edit-at
bounds-edit-at c = let w = c.requires in inside _ _ w.what w.stands

pub shape-s-requires : goal.shape-s-requires
shape-s-requires c = let w = c.requires in code_at _ _ w.what w.stands

pub overflow_add-result : goal.overflow_add-result
overflow_add-result c = let s = c in omega (arith, inside _ _ s.requires.what s.requires.stands, s.well_formed.0.0)

pub returns-then-s-lt4 : goal.returns-then-s-lt4
returns-then-s-lt4 c = one_code _ _ _ c.shape-s.ensures c.if-s-lt4.true

pub returns : goal.returns
returns c = c.past.ensures
