use Rattle.name_table.specs.Entries.{Filled}
use Rattle.name_table.proofs.fill.Given as goal

abbrev pub invariant-loop-x : goal.invariant-loop-x
invariant-loop-x l = Filled l.base l.x l.start l.initial.table l.table
