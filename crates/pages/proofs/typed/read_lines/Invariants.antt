use Rattle.sheet.specs.Sheet.{graph_of}
use Rattle.pages.specs.Typed.{block_shown}
use Rattle.pages.proofs.TypeLaws.{Reading}
use Rattle.pages.proofs.typed.read_lines.Given as goal

abbrev pub invariant-loop-x : goal.invariant-loop-x
invariant-loop-x l = Reading (graph_of l.sheet) (block_shown l.shown) l.page l.m l.sets l.x
