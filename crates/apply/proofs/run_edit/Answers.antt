use mathlib.Core.Path.{sym, subst}
use Prim.Native.Nat.{ℕ}
use native.Mathlib.Omega.{arith}
use Rattle.logic.specs.Limits.{ranges}
use Rattle.text.specs.Stands.{EditStands, SomeEditStands}
use Rattle.apply.proofs.StepsMade.{ready-first, opened}
use Rattle.apply.proofs.run_edit.Goals as goal

pub make_steps-requires : goal.make_steps-requires
make_steps-requires c = let s = c in let n = c.node_count-n.ensures.0 in
    (ready-first _ _ _ (λ p. grind arith) s.requires.0 n c.all_nodes-all.ensures, subst (λ (m : ℕ). SomeEditStands (ranges m) s.args.edit.now s.args.at) (sym n) s.requires.1)

pub returns : goal.returns
returns c = let s = c in let m = c.make_steps.ensures in
    ((opened _ _ _ m.0).sound, λ Z h. m.1 Z (subst (λ (x : ℕ). EditStands (ranges x) s.args.edit.now s.args.at Z) (sym c.node_count-n.ensures.0) h))
