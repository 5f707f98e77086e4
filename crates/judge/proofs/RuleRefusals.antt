-- The refusals of rules: 41, and the number of a rule.
use mathlib.Core.List.{List, [], ◌∷◌}
use Prim.Native.Nat.{ℕ, suc, ◌+◌}
use native.Mathlib.Omega.{arith}
use lib.ListN.{length}
use Rattle.answer.proofs.Refusals.{Refuses, passes, asked-refuses, wider}
use Rattle.logic.specs.Syntax.{Expr, rule}
use Rattle.logic.specs.Graph.{Graph}
use Rattle.logic.specs.Meaning.{value}
use Rattle.judge.specs.Questions.{ask_rules}

pub rules-refuse : (g : Graph) (rules : List (Expr rule)) (i : ℕ) → Refuses 41 41 (i + length rules) (ask_rules g rules i)
unfolding ask_rules
rules-refuse g [] i = passes
rules-refuse g (K ∷ rules) i = asked-refuses (value g K) (omega arith) (omega arith) (omega arith) (λ e. wider (omega arith) (omega arith) (omega arith) (rules-refuse g rules (suc i)))
