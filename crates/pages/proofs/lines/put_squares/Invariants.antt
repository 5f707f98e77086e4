use Rattle.pages.proofs.LineLaws.{Squares}
use Rattle.pages.proofs.lines.put_squares.Given as goal

abbrev pub invariant-loop-j : goal.invariant-loop-j
invariant-loop-j l = Squares l.initial.line l.n l.row l.j l.line
