use mathlib.Core.Path.{sym, ap}
use Prim.Native.Nat.{ℕ}
use native.Mathlib.Omega.{arith}
use Rattle.rows.proofs.OperationLaws.{rows-combined}
use Rattle.bitset.specs.Words.{set_of}
use Rattle.sheet.specs.Sheet.{graph_of}
use Rattle.rows.proofs.relations.combine_kind.Goals as goal

pub returns : goal.returns
returns c = let s = c in let w = (graph_of s.args.sheet.now).joined s.args.k.0 in
    (λ v p. rows-combined w s.args.c (omega (arith, s.requires.2)) c.loop-i-test.false p (λ i l. ap (λ (m : ℕ). set_of m (w i)) (sym s.requires.1)) c.loop-i.invariant.1, c.loop-i.invariant.0)
