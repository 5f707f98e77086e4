use mathlib.Core.Bool.{true, false}
use mathlib.Core.Path.{sym}
use native.Mathlib.Omega.{arith}
use Rattle.bitset.proofs.SetLaws.{set_of-member-lt}
use Rattle.rows.proofs.Quantifiers.{by-columns, by_rows, set-small}
use Rattle.rows.proofs.over.quantified.Goals as goal

pub ends-requires : goal.ends-requires
ends-requires g c = let s = c.requires in (s.0, set-small _ _ (c.looked-f.ensures _ _ _ (omega (arith, s.0)) (sym (set_of-member-lt _ _ s.2)) (sym (set_of-member-lt _ _ s.3))), s.5)

pub returns-then-turned : goal.returns-then-turned
returns-then-turned g c v a p = let s = c.requires in
    by-columns _ _ _ _ _ _ v a _ true c.if-turned.true (omega (arith, s.0)) s.1 s.2 s.3 1 _ _ _
    (s.4 c.if-turned.true) c.looked-f.ensures c.answered.ensures (λ q. c.ends.ensures v a p)

pub returns-else-turned : goal.returns-else-turned
returns-else-turned g c v a p = let s = c.requires in
    by_rows _ _ _ _ _ _ v a _ false c.if-turned.false (omega (arith, s.0)) s.1 s.2 s.3 _ _ _ _
    c.least.ensures c.looked-f.ensures c.answered-else-turned.ensures (λ w. c.asked_starts.ensures v w p)
