use native.Mathlib.Omega.{arith}
use Rattle.judge.proofs.RulesJudged.{opened}
use Rattle.witness.proofs.WitnessStages.{for-count, names-none, names-part}
use Rattle.witness.proofs.name_first.Goals as goal

pub walk-w-requires : goal.walk-w-requires
walk-w-requires c =
    let s = c.requires in let n = c.node_count-n.ensures in (
      opened _ _ _ (λ p. omega (arith, c.type_inv.sheet p)) s.0 n.0 n.2 c.all_nodes-all.ensures,
      record { what = s.1.what; stands = for-count _ _ _ n.0 _ s.1.stands },
    )

pub name_part-requires : goal.name_part-requires
name_part-requires c =
    let s = c.requires in let n = c.node_count-n.ensures in
    let b = (c.walk-w.ensures _ (for-count _ _ _ n.0 _ s.1.stands)).breaking _ c.in-Some.is in (
      opened _ _ _ (λ p. omega (arith, c.type_inv.sheet p)) s.0 n.0 n.2 c.all_nodes-all.ensures,
      record { what = b.part; stands = b.stands },
      b.single,
    )

pub returns-in-None : goal.returns-in-None
returns-in-None c e h = names-none _ _ _ c.node_count-n.ensures.0 e h c.walk-w.ensures c.in-None.is

pub returns-in-Some : goal.returns-in-Some
returns-in-Some c e h = names-part _ _ _ c.node_count-n.ensures.0 e h c.walk-w.ensures _ _ c.in-Some.is c.name_part.ensures
