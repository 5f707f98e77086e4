use native.Mathlib.Omega.{arith}
use borrow.Author.Rules.{rules}
use Rattle.bitset.proofs.MemberLaws.{member-small}
use Rattle.rows.proofs.MemberWalks.{inside-less, counted_none, counted-one, counted-end}
use Rattle.rows.proofs.over.ends_of_one.Goals as goal

pub loop-left-init : goal.loop-left-init
loop-left-init g c = (search rules, λ k h. h, λ v p. counted_none _ _ v 1 (omega arith))

pub row-requires : goal.row-requires
row-requires g c = c.requires.2 _ (member-small _ _ _ c.loop-left.invariant.0 c.first-i.ensures.0)

pub loop-left-preserved : goal.loop-left-preserved
loop-left-preserved g c = let s = c in let l = c.loop-left in
    let m = c.first-i.ensures.0 in
    let i = member-small _ _ _ l.invariant.0 m in (
      omega (arith, c.but_first-left.ensures.1, l.invariant.0),
      inside-less _ _ _ _ (c.but_first-left.ensures.0 _ c.first-i.ensures.2) l.invariant.1,
      λ v p. counted-one _ _ v _ _ _ _ _ (omega (arith, s.requires.0)) i (c.but_first-left.ensures.0 _ c.first-i.ensures.2) l.invariant.1 m (p.row _ _ i c.row.ensures) (l.invariant.2 v p) _ c.either-one.ensures,
    )

pub returns : goal.returns
returns g c v p = counted-end _ _ v 1 _ _ (omega (arith, c.loop-left-test.false)) (c.loop-left.invariant.2 v p)
