use mathlib.Core.List.{List}
use Rattle.logic.specs.Syntax.{Expr, rule, Edit}
use Rattle.ends.specs.Books.{BookIs}
use Rattle.play.specs.Standing.{EditsAt}
use Rattle.play.proofs.GameEdits.{FromHere, FitsLeft}
use Rattle.play.proofs.questions.check_fits.Given as goal

abbrev pub invariant-loop-i : goal.invariant-loop-i
invariant-loop-i l = ((Zs : List Edit) (e : EditsAt l.edits l.count Zs) → FromHere e.limits l.edits Zs l.i l.at)
    × ((rules : List (Expr rule)) (Zs : List Edit) → BookIs l.book rules → (e : EditsAt l.edits l.count Zs) → FitsLeft rules Zs l.count l.i)
