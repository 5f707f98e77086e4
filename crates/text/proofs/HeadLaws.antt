-- The code of a term by arity: its head, then the codes of its operands; and its levels.
use mathlib.Core.Path.{◌≡◌, refl, ap}
use mathlib.Core.List.{◌++◌}
use Prim.Native.Nat.{suc, max, ◌≤◌}
use native.Mathlib.Omega.{arith}
use lib.ListN.{length}
use Rattle.logic.specs.Syntax.{Sort, Expr}
use Rattle.logic.specs.Arity.{Nullary, all·, none·, label·, nominal·, arrow_kind·, pair·, Unary, complement·, reversed·, node_in·, pair_in·, not_rule·, Binary, and·, or·, some·, every·, at_least·, at_most·, union·, common·, minus·, ending_in·, sub_nodes·, sub_arrows·, both·, either·, build0, build1, build2, by_arity}
use Rattle.logic.proofs.ArityLaws.{by_arity-0, by_arity-1, by_arity-2}
use Rattle.text.specs.Code.{code, levels}
use Rattle.text.specs.Heads.{head0, head1, head2}

pub code-0 : {s : Sort} (b : Nullary s) → code (build0 b) ≡ head0 b
unfolding code build0 head0
code-0 all· = refl
code-0 none· = refl
code-0 (label· k) = refl
code-0 (nominal· i) = refl
code-0 (arrow_kind· a) = refl
code-0 (pair· i j) = refl

pub code-1 : {u t : Sort} (b : Unary u t) (x : Expr u) → code (build1 b x) ≡ head1 b ++ code x
unfolding code build1 head1
code-1 complement· x = refl
code-1 reversed· x = refl
code-1 (node_in· i) x = refl
code-1 (pair_in· i j) x = refl
code-1 not_rule· x = refl

pub code-2 : {u v t : Sort} (b : Binary u v t) (x : Expr u) (y : Expr v) → code (build2 b x y) ≡ head2 b ++ (code x ++ code y)
unfolding code build2 head2
code-2 and· x y = refl
code-2 or· x y = refl
code-2 some· x y = refl
code-2 every· x y = refl
code-2 (at_least· m) x y = refl
code-2 (at_most· m) x y = refl
code-2 union· x y = refl
code-2 common· x y = refl
code-2 minus· x y = refl
code-2 ending_in· x y = refl
code-2 sub_nodes· x y = refl
code-2 sub_arrows· x y = refl
code-2 both· x y = refl
code-2 either· x y = refl

pub levels-0 : {s : Sort} (b : Nullary s) → levels (build0 b) ≡ 1
levels-0 b = unfold levels in rw by_arity-0

pub levels-1 : {u t : Sort} (b : Unary u t) (x : Expr u) → levels (build1 b x) ≡ suc (levels x)
levels-1 b x = unfold levels in rw by_arity-1

pub levels-2 : {u v t : Sort} (b : Binary u v t) (x : Expr u) (y : Expr v) → levels (build2 b x y) ≡ suc (max (levels x) (levels y))
levels-2 b x y = unfold levels in rw by_arity-2

-- A code has at least one byte before its first operand.
pub head1-some : {u t : Sort} (b : Unary u t) → 1 ≤ length (head1 b)
head1-some b = unfold head1 in omega arith

pub head2-some : {u v t : Sort} (b : Binary u v t) → 1 ≤ length (head2 b)
head2-some b = unfold head2 in omega arith

pub code-some : {s : Sort} (e : Expr s) → 1 ≤ length (code e)
unfolding head0 head1 head2
code-some e = by_arity (λ s e. 1 ≤ length (code e)) (λ s b. omega (arith, ap length (code-0 b)))
    (λ u t b x h. omega (arith, ap length (code-1 b x)))
    (λ u v t b x y h k. omega (arith, ap length (code-2 b x y)))
    e
