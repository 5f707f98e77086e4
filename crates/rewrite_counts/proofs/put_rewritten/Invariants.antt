use mathlib.Core.List.{List}
use Prim.Native.Nat.{◌-◌}
use lib.ListN.{length}
use Rattle.logic.specs.Syntax.{Expr, rule}
use Rattle.text.specs.Code.{book_code}
use Rattle.ends.specs.Books.{BookIs}
use Rattle.rewrite_counts.specs.Rewritten.{rewritten_book}
use Rattle.rewrite_counts.proofs.ToCome.{Stored}
use Rattle.rewrite_counts.proofs.put_rewritten.Given as goal

-- whatever the rules of the book
abbrev pub invariant-loop-p : goal.invariant-loop-p
invariant-loop-p l = (rules : List (Expr rule)) → BookIs l.book rules → Stored l.book (book_code (rewritten_book rules)) l.initial.out l.p l.q l.out

abbrev pub decreases-loop-p : goal.decreases-loop-p
decreases-loop-p l = length l.book - l.p
