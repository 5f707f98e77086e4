use mathlib.Core.List.{List}
use Rattle.logic.specs.Syntax.{Edit}
use Rattle.play.specs.Standing.{EditsAt}
use Rattle.play.proofs.GameEdits.{FromHere}
use Rattle.play.proofs.questions.behind.Given as goal

abbrev pub invariant-loop : goal.invariant-loop
invariant-loop l = (Zs : List Edit) (e : EditsAt l.edits l.count Zs) → FromHere e.limits l.edits Zs l.counter l.at
