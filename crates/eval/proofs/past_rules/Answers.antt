use mathlib.Core.Path.{◌≡◌, sym, subst₂}
use Prim.Native.Nat.{◌+◌, ◌-◌}
use native.Mathlib.Omega.{arith}
use Rattle.ends.proofs.Behind.{some-tree, behind-stands}
use Rattle.eval.specs.Evaluated.{Upto}
use Rattle.eval.proofs.RulesUpto.{upto-none, upto-first}
use Rattle.eval.proofs.past_rules.Goals as goal

pub past-p-requires : goal.past-p-requires
past-p-requires c =
    let f = upto-first _ _ _ _ _ (c.loop.invariant _ _ c.requires.stand) (omega arith) in some-tree (record { what = f.K; stands = f.stands })

pub loop-preserved : goal.loop-preserved
loop-preserved c l end u =
    let f = upto-first _ _ _ _ _ (c.loop.invariant l end u) (omega arith) in
    let e : c.args.rules - c.loop.counter - 1 ≡ c.args.rules - (c.loop.counter + 1) = omega arith in
    subst₂ (Upto l _ end) e (sym (behind-stands _ c.past-p.ensures f.K f.stands)) f.onward

pub returns : goal.returns
returns c l end u = upto-none _ _ _ _ _ (c.loop.invariant l end u) (omega arith)
