use mathlib.Core.Path.{sym, ◌∙◌}
use native.Mathlib.Omega.{arith}
use borrow.Author.Rules.{rules}
use Rattle.bitset.proofs.MemberLaws.{member-small}
use Rattle.rows.proofs.MemberWalks.{inside-less, picked_none, picked-yes, picked-no, picked-end}
use Rattle.rows.proofs.over.starts.Goals as goal
use Rattle.rows.proofs.over.starts.Goals.{then-enough, else-enough}

pub loop-left-init : goal.loop-left-init
loop-left-init g c = (search rules, λ k h. h, λ v w p q. picked_none _ _ _)

pub returns : goal.returns
returns g c v w p q = picked-end _ _ _ _ _ (omega (arith, c.loop-left-test.false)) (c.loop-left.invariant.2 v w p q)

pub row-requires : goal.row-requires
row-requires g c = c.requires.2 _ (member-small _ _ _ c.loop-left.invariant.0 c.first-i.ensures.0)

pub loop-left-preserved : goal.loop-left-preserved
loop-left-preserved g c =
    let l = c.loop-left in
    let m = c.first-i.ensures.0 in
    let i = member-small _ _ _ l.invariant.0 m in (
      omega (arith, c.but_first-left.ensures.1, l.invariant.0),
      inside-less _ _ _ _ (c.but_first-left.ensures.0 _ c.first-i.ensures.2) l.invariant.1,
      λ v w p q.
          let h = c.enough.ensures _ (v _) w (omega (arith, c.requires.0)) (p.row _ _ i c.row.ensures) q in
          elim c.if-enough.branch [
            | then-enough x ↦ picked-yes _ _ _ _ _ _ _ (omega (arith, c.requires.0)) i (c.but_first-left.ensures.0 _ c.first-i.ensures.2) l.invariant.1 m (l.invariant.2 v w p q) _ _ (sym h ∙ x.if-enough.true) x.only.ensures (x.r-is ∙ x.either-r.ensures)
            | else-enough x ↦ x.r-is ∙ picked-no _ _ _ _ _ _ _ (omega (arith, c.requires.0)) i (c.but_first-left.ensures.0 _ c.first-i.ensures.2) l.invariant.1 m (l.invariant.2 v w p q) (sym h ∙ x.if-enough.false)
          ],
    )
