-- The head of each code is as the table of shapes says, so an expression in range is a formed tree.
use mathlib.Core.Path.{refl}
use mathlib.Core.Logic.{inl, inr}
use native.Mathlib.Omega.{arith}
use lib.Dec.{ltb→lt}
use Rattle.logic.specs.Syntax.{Sort, Expr}
use Rattle.logic.specs.Limits.{Ranges, InRange}
use Rattle.logic.specs.Arity.{Nullary, all·, none·, label·, nominal·, arrow_kind·, pair·, Unary, complement·, reversed·, node_in·, pair_in·, not_rule·, Binary, and·, or·, some·, every·, at_least·, at_most·, union·, common·, minus·, ending_in·, sub_nodes·, sub_arrows·, both·, either·, build0, by_arity}
use Rattle.logic.proofs.ArityLaws.{range-1, range-2}
use Rattle.text.specs.Heads.{head1, head2}
use Rattle.tree.specs.Tree.{bare, tree}
use Rattle.tree.proofs.TreeLaws.{tree-0, tree-1, tree-2}
use Rattle.ends.specs.Shapes.{shapes, Head, Formed}

pub shape-1 : {u t : Sort} (b : Unary u t) → Head (head1 b) 1
unfolding head1 shapes
shape-1 complement· = record { pos = omega arith; short = omega arith; is = refl }
shape-1 reversed· = record { pos = omega arith; short = omega arith; is = refl }
shape-1 (node_in· i) = record { pos = omega arith; short = omega arith; is = refl }
shape-1 (pair_in· i j) = record { pos = omega arith; short = omega arith; is = refl }
shape-1 not_rule· = record { pos = omega arith; short = omega arith; is = refl }

pub shape-2 : {u v t : Sort} (b : Binary u v t) → Head (head2 b) 2
unfolding head2 shapes
shape-2 and· = record { pos = omega arith; short = omega arith; is = refl }
shape-2 or· = record { pos = omega arith; short = omega arith; is = refl }
shape-2 some· = record { pos = omega arith; short = omega arith; is = refl }
shape-2 every· = record { pos = omega arith; short = omega arith; is = refl }
shape-2 (at_least· m) = record { pos = omega arith; short = omega arith; is = refl }
shape-2 (at_most· m) = record { pos = omega arith; short = omega arith; is = refl }
shape-2 union· = record { pos = omega arith; short = omega arith; is = refl }
shape-2 common· = record { pos = omega arith; short = omega arith; is = refl }
shape-2 minus· = record { pos = omega arith; short = omega arith; is = refl }
shape-2 ending_in· = record { pos = omega arith; short = omega arith; is = refl }
shape-2 sub_nodes· = record { pos = omega arith; short = omega arith; is = refl }
shape-2 sub_arrows· = record { pos = omega arith; short = omega arith; is = refl }
shape-2 both· = record { pos = omega arith; short = omega arith; is = refl }
shape-2 either· = record { pos = omega arith; short = omega arith; is = refl }

formed_bare : (r : Ranges) {s : Sort} (b : Nullary s) → InRange r (build0 b) → Formed (bare b)
unfolding Formed bare InRange build0 shapes
formed_bare r all· q = record { pos = omega arith; short = omega arith; is = refl }
formed_bare r none· q = record { pos = omega arith; short = omega arith; is = refl }
formed_bare r (label· k) q = inl (refl, ltb→lt k 48 q)
formed_bare r (nominal· i) q = record { pos = omega arith; short = omega arith; is = refl }
formed_bare r (arrow_kind· a) q = inr (refl, ltb→lt a 16 q)
formed_bare r (pair· i j) q = record { pos = omega arith; short = omega arith; is = refl }

pub formed-tree : (r : Ranges) {s : Sort} (e : Expr s) → InRange r e → Formed (tree e)
unfolding Formed
formed-tree r e = by_arity (λ s e. InRange r e → Formed (tree e)) (λ s b q. rw tree-0 (formed_bare r b q))
    (λ u t b x f q. rw tree-1 (shape-1 b, f ((range-1 r b x).0 q).1))
    (λ u v t b x y f g q. let p = ((range-2 r b x y).0 q).1 in rw tree-2 (shape-2 b, f p.0, g p.1))
    e
