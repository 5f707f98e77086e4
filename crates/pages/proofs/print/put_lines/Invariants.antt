use Rattle.sheet.specs.Sheet.{graph_of}
use Rattle.pages.specs.Typed.{block_shown}
use Rattle.pages.specs.Prints.{set_at}
use Rattle.pages.proofs.PageLaws.{Grown}
use Rattle.pages.proofs.print.put_lines.Given as goal

abbrev pub invariant-loop-x : goal.invariant-loop-x
invariant-loop-x l = Grown l.initial.out l.n (set_at (graph_of l.sheet) (block_shown l.shown)) l.x l.out
