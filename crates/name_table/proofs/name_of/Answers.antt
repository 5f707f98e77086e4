use mathlib.Core.Path.{◌∙◌}
use native.Mathlib.Omega.{arith}
use Rattle.name_table.proofs.NumberLaws.{in-slots, name-at}
use Rattle.name_table.proofs.name_of.Goals as goal

pub overflow_add-k : goal.overflow_add-k
overflow_add-k c = let s = c in omega (arith, in-slots s.args.item s.requires.1 s.requires.2 s.args.x s.requires.3)

pub slot-requires : goal.slot-requires
slot-requires c = let s = c in let i = in-slots s.args.item s.requires.1 s.requires.2 s.args.x s.requires.3 in (omega (arith, s.requires.0.room), s.requires.0.short _ i)

pub returns : goal.returns
returns c = let s = c in λ name h. c.slot.ensures ∙ name-at _ name h s.args.item s.requires.1 s.requires.2 s.args.x s.requires.3
