use mathlib.Core.Path.{refl}
use native.Mathlib.Omega.{arith}
use Rattle.ends.proofs.Behind.{some-tree, behind-stands}
use Rattle.eval.proofs.CodePlaces.{starts-inside, some-inside, operand, operand-1, operand-2}
use Rattle.eval.proofs.InUse.{nothing-asked, all-used, part-used, minus-used, among-all}
use Rattle.eval.proofs.NodeCases.{as-complement, as-and, as-or, as-quantifier, complement-set, and_set, or_set}
use Rattle.eval.proofs.QuantifierSets.{quantifier-set, quantifier-kind}
use Rattle.eval.proofs.ArrowCases as arrows
use Rattle.eval.proofs.+combine_arrow_either_way_node_within.Goals as goal

-- In the answers below q is the expression by its code byte, g its first operand without the leading 12s, and w the kind that stands there.
pub combine_arrow-bounds-text-p : goal.combine_arrow-bounds-text-p
combine_arrow-bounds-text-p t c = starts-inside _ _ _ _ (c.behind_turns-t.ensures _ c.requires.1.stands).stands

pub combine_arrow-combine_kind-next-requires : goal.combine_arrow-combine_kind-next-requires
combine_arrow-combine_kind-next-requires t c =
    let o = c.requires.0 in let g = c.behind_turns-t.ensures _ c.requires.1.stands in
    (o.sound, o.count, o.few, record { what = g.R; stands = g.stands }, c.if-d-le17.true, c.face_rows.ensures.1)

pub combine_arrow-combine_pair-next-requires : goal.combine_arrow-combine_pair-next-requires
combine_arrow-combine_pair-next-requires t c =
    let g = c.behind_turns-t.ensures _ c.requires.1.stands in let l = c.one_row.ensures c.if-one_row.true in
    (c.requires.0, record { what = g.R; stands = g.stands }, l.0, l.1, c.face_rows-then-one_row.ensures.1)

pub combine_arrow-returns-then-d-le17 : goal.combine_arrow-returns-then-d-le17
combine_arrow-returns-then-d-le17 t c =
    let g = c.behind_turns-t in let r = c.combine_kind-next.ensures in
    (λ e h. arrows.leaf-way _ _ _ _ _ e c.args.first.turned _ _ _ g.result.turned _ _ (g.ensures e h) c.face_rows.ensures.0 r.0, r.1)

pub combine_arrow-returns-then-one_row : goal.combine_arrow-returns-then-one_row
combine_arrow-returns-then-one_row t c =
    let g = c.behind_turns-t in let r = c.combine_pair-next.ensures in
    (λ e h. arrows.leaf-way _ _ _ _ _ e c.args.first.turned _ _ _ g.result.turned _ _ (g.ensures e h) c.face_rows-then-one_row.ensures.0 r.0, r.1)

pub combine_arrow-returns-else-one_row : goal.combine_arrow-returns-else-one_row
combine_arrow-returns-else-one_row t c =
    let g = c.either_way-r in let r = c.combine_rows.ensures in
    (λ e h. arrows.apart-way _ c.args.text.now _ _ _ e c.args.first.turned _ _ _ _ g.result.turned _ (g.ensures.0 e h) c.face_rows-else-one_row.ensures.0 r.0, r.1)

pub either_way-bounds-text-at : goal.either_way-bounds-text-at
either_way-bounds-text-at t c = omega (arith, some-inside c.requires.1)

pub either_way-either_way-r-requires : goal.either_way-either_way-r-requires
either_way-either_way-r-requires t c =
    let q = arrows.as_reversed _ _ _ _ c.requires.1.stands c.if-c-le17.false c.if-c-le18.true in
    (omega (arith, c.decreases, q.inside), (c.requires.0, operand q, c.requires.2))

pub either_way-either_way-r-requires-then-c-le21 : goal.either_way-either_way-r-requires-then-c-le21
either_way-either_way-r-requires-then-c-le21 t c =
    let q = arrows.as-two _ _ _ _ c.requires.1.stands c.if-c-le18.false c.if-c-le21.true in
    (omega (arith, c.decreases, q.inside), (c.requires.0, operand-1 q, c.requires.2))

pub either_way-combine_arrow-requires : goal.either_way-combine_arrow-requires
either_way-combine_arrow-requires t c =
    let q = arrows.as-two _ _ _ _ c.requires.1.stands c.if-c-le18.false c.if-c-le21.true in
    let r = c.either_way-r-then-c-le21.ensures in let b = r.0 q.A q.first in
    (omega (arith, c.decreases, q.inside, b.ends), (c.requires.0, operand-2 q b.ends, r.1))

pub either_way-either_way-r-requires-then-c-le22 : goal.either_way-either_way-r-requires-then-c-le22
either_way-either_way-r-requires-then-c-le22 t c =
    let q = arrows.as-ending _ _ _ _ c.requires.1.stands c.if-c-le21.false c.if-c-le22.true in
    (omega (arith, c.decreases, q.inside), (c.requires.0, operand-1 q, c.requires.2))

pub either_way-node_within-e-requires : goal.either_way-node_within-e-requires
either_way-node_within-e-requires t c =
    let q = arrows.as-ending _ _ _ _ c.requires.1.stands c.if-c-le21.false c.if-c-le22.true in
    let b = c.either_way-r-then-c-le22.ensures.0 q.A q.first in
    (omega (arith, c.decreases, q.inside, b.ends), (c.requires.0, all-used c.requires.0, operand-2 q b.ends))

pub either_way-returns-then-c-le18 : goal.either_way-returns-then-c-le18
either_way-returns-then-c-le18 t c =
    let r = c.either_way-r in
    (λ e h. arrows.reversed-way _ _ _ _ e _ (arrows.as_reversed _ _ _ e h c.if-c-le17.false c.if-c-le18.true) r.result.turned _ r.ensures.0, r.ensures.1)

pub either_way-returns-then-c-le21 : goal.either_way-returns-then-c-le21
either_way-returns-then-c-le21 t c =
    let a = c.either_way-r-then-c-le21 in let r = c.combine_arrow in
    (λ e h. arrows.two-way _ _ _ _ e _ (arrows.as-two _ _ _ e h c.if-c-le18.false c.if-c-le21.true) _ a.result.turned r.result.turned _ _ a.ensures.0 r.ensures.0, r.ensures.1)

pub either_way-returns-then-c-le22 : goal.either_way-returns-then-c-le22
either_way-returns-then-c-le22 t c =
    let a = c.either_way-r-then-c-le22 in let r = c.ending_rows.ensures in (
      λ e h. arrows.ending-way _ _ _ _ e _ c.requires.0 (arrows.as-ending _ _ _ e h c.if-c-le21.false c.if-c-le22.true) _ a.result.turned _ _ _
          a.ensures.0 c.node_within-e.ensures r.0,
      r.1,
    )

pub node_within-past-requires : goal.node_within-past-requires
node_within-past-requires t c = some-tree c.requires.2

pub node_within-returns-then-within-eq0 : goal.node_within-returns-then-within-eq0
node_within-returns-then-within-eq0 t c e h = record { set = nothing-asked _ _ _ c.if-within-eq0.true; ends = behind-stands _ c.past.ensures e h }

pub node_within-bounds-text-at : goal.node_within-bounds-text-at
node_within-bounds-text-at t c = omega (arith, some-inside c.requires.2)

pub node_within-node_within-e-requires : goal.node_within-node_within-e-requires
node_within-node_within-e-requires t c =
    let q = as-complement _ _ _ _ c.requires.2.stands c.if-c-le4.false c.if-c-le5.true in
    (omega (arith, c.decreases, q.inside), (c.requires.0, c.requires.1, operand q))

pub node_within-node_within-e-requires-then-c-le6 : goal.node_within-node_within-e-requires-then-c-le6
node_within-node_within-e-requires-then-c-le6 t c =
    let q = as-and _ _ _ _ c.requires.2.stands c.if-c-le5.false c.if-c-le6.true in
    (omega (arith, c.decreases, q.inside), (c.requires.0, c.requires.1, operand-1 q))

pub node_within-node_within-requires : goal.node_within-node_within-requires
node_within-node_within-requires t c =
    let q = as-and _ _ _ _ c.requires.2.stands c.if-c-le5.false c.if-c-le6.true in let a = c.node_within-e-then-c-le6.ensures q.A q.first in
    (omega (arith, c.decreases, q.inside, a.ends), (c.requires.0, part-used c.requires.1 a, operand-2 q a.ends))

pub node_within-node_within-e-requires-then-c-le7 : goal.node_within-node_within-e-requires-then-c-le7
node_within-node_within-e-requires-then-c-le7 t c =
    let q = as-or _ _ _ _ c.requires.2.stands c.if-c-le6.false c.if-c-le7.true in
    (omega (arith, c.decreases, q.inside), (c.requires.0, c.requires.1, operand-1 q))

pub node_within-node_within-f-requires : goal.node_within-node_within-f-requires
node_within-node_within-f-requires t c =
    let q = as-or _ _ _ _ c.requires.2.stands c.if-c-le6.false c.if-c-le7.true in let a = c.node_within-e-then-c-le7.ensures q.A q.first in
    let left = minus-used _ _ _ _ (omega (arith, c.requires.0.few)) c.requires.1 (part-used c.requires.1 a) c.minus-then-c-le7.ensures in
    (omega (arith, c.decreases, q.inside, a.ends), (c.requires.0, left, operand-2 q a.ends))

pub node_within-bounds-text-at-else-c-le7 : goal.node_within-bounds-text-at-else-c-le7
node_within-bounds-text-at-else-c-le7 t c =
    let q = as-quantifier _ _ _ _ c.requires.2.stands c.if-c-le7.false _ c.ahead-k.ensures.0 c.ahead-k.ensures.1 in omega (arith, q.inside)

pub node_within-behind_turns-t-requires : goal.node_within-behind_turns-t-requires
node_within-behind_turns-t-requires t c =
    let q = as-quantifier _ _ _ _ c.requires.2.stands c.if-c-le7.false _ c.ahead-k.ensures.0 c.ahead-k.ensures.1 in operand-1 q

pub node_within-bounds-text-p : goal.node_within-bounds-text-p
node_within-bounds-text-p t c =
    let q = as-quantifier _ _ _ _ c.requires.2.stands c.if-c-le7.false _ c.ahead-k.ensures.0 c.ahead-k.ensures.1 in
    starts-inside _ _ _ _ (c.behind_turns-t.ensures _ q.first).stands

pub node_within-overflow_add-p : goal.node_within-overflow_add-p
node_within-overflow_add-p t c =
    let q = as-quantifier _ _ _ _ c.requires.2.stands c.if-c-le7.false _ c.ahead-k.ensures.0 c.ahead-k.ensures.1 in
    let g = c.behind_turns-t.ensures _ q.first in let w = arrows.as-kind _ _ _ _ g.stands (c.straight.ensures c.if-straight.true).0 in
    omega (arith, w.inside)

pub node_within-node_within-e-requires-then-straight : goal.node_within-node_within-e-requires-then-straight
node_within-node_within-e-requires-then-straight t c =
    let q = as-quantifier _ _ _ _ c.requires.2.stands c.if-c-le7.false _ c.ahead-k.ensures.0 c.ahead-k.ensures.1 in
    let g = c.behind_turns-t.ensures _ q.first in let w = arrows.as-kind _ _ _ _ g.stands (c.straight.ensures c.if-straight.true).0 in
    (omega (arith, c.decreases, q.behind-code, g.on, w.inside), (c.requires.0, all-used c.requires.0, operand-2 q (omega (arith, g.ends, w.size))))

pub node_within-overflow_add-p-then-straight : goal.node_within-overflow_add-p-then-straight
node_within-overflow_add-p-then-straight t c =
    let q = as-quantifier _ _ _ _ c.requires.2.stands c.if-c-le7.false _ c.ahead-k.ensures.0 c.ahead-k.ensures.1 in
    let g = c.behind_turns-t.ensures _ q.first in let w = arrows.as-kind _ _ _ _ g.stands (c.straight.ensures c.if-straight.true).0 in
    omega (arith, w.inside)

pub node_within-bounds-text-p-then-straight : goal.node_within-bounds-text-p-then-straight
node_within-bounds-text-p-then-straight t c =
    let q = as-quantifier _ _ _ _ c.requires.2.stands c.if-c-le7.false _ c.ahead-k.ensures.0 c.ahead-k.ensures.1 in
    let g = c.behind_turns-t.ensures _ q.first in let w = arrows.as-kind _ _ _ _ g.stands (c.straight.ensures c.if-straight.true).0 in
    omega (arith, w.inside)

pub node_within-quantified_kind-requires : goal.node_within-quantified_kind-requires
node_within-quantified_kind-requires t c =
    let q = as-quantifier _ _ _ _ c.requires.2.stands c.if-c-le7.false _ c.ahead-k.ensures.0 c.ahead-k.ensures.1 in
    let g = c.behind_turns-t.ensures _ q.first in let w = arrows.as-kind _ _ _ _ g.stands (c.straight.ensures c.if-straight.true).0 in
    let o = c.requires.0 in let ends = c.node_within-e-then-straight.ensures q.B (q.second _ (omega (arith, g.ends, w.size))) in (
      record { sound = o.sound; count = o.count; few = o.few; kind = w.range },
      c.requires.1.small,
      (all-used o).small,
      among-all o (o.within.arrows_in _),
      (part-used (all-used o) ends).small,
      omega (arith, c.if-c-le7.false),
      (c.straight.ensures c.if-straight.true).1,
    )

pub node_within-either_way-r-requires : goal.node_within-either_way-r-requires
node_within-either_way-r-requires t c =
    let q = as-quantifier _ _ _ _ c.requires.2.stands c.if-c-le7.false _ c.ahead-k.ensures.0 c.ahead-k.ensures.1 in
    (omega (arith, c.decreases, q.behind-code, q.inside), (c.requires.0, operand-1 q, refl))

pub node_within-node_within-e-requires-else-straight : goal.node_within-node_within-e-requires-else-straight
node_within-node_within-e-requires-else-straight t c =
    let q = as-quantifier _ _ _ _ c.requires.2.stands c.if-c-le7.false _ c.ahead-k.ensures.0 c.ahead-k.ensures.1 in
    let a = c.either_way-r.ensures.0 q.A q.first in
    (omega (arith, c.decreases, q.behind-code, q.inside, a.ends), (c.requires.0, all-used c.requires.0, operand-2 q a.ends))

pub node_within-quantified-requires : goal.node_within-quantified-requires
node_within-quantified-requires t c =
    let q = as-quantifier _ _ _ _ c.requires.2.stands c.if-c-le7.false _ c.ahead-k.ensures.0 c.ahead-k.ensures.1 in
    let o = c.requires.0 in let a = c.either_way-r.ensures.0 q.A q.first in let ends = c.node_within-e-else-straight.ensures q.B (q.second _ a.ends) in
    (o.few, c.either_way-r.ensures.1, c.requires.1.small, (all-used o).small, (part-used (all-used o) ends).small)

pub node_within-returns-then-c-le5 : goal.node_within-returns-then-c-le5
node_within-returns-then-c-le5 t c e h =
    complement-set _ _ _ _ _ c.requires.0 _ c.requires.1 e (as-complement _ _ _ e h c.if-c-le4.false c.if-c-le5.true) _ _ _ c.node_within-e.ensures c.minus.ensures

pub node_within-returns-then-c-le6 : goal.node_within-returns-then-c-le6
node_within-returns-then-c-le6 t c e h =
    and_set _ _ _ _ _ c.requires.0 _ c.requires.1 e (as-and _ _ _ e h c.if-c-le5.false c.if-c-le6.true) _ _ _ _
    c.node_within-e-then-c-le6.ensures c.node_within.ensures

pub node_within-returns-then-c-le7 : goal.node_within-returns-then-c-le7
node_within-returns-then-c-le7 t c e h =
    or_set _ _ _ _ _ c.requires.0 _ c.requires.1 e (as-or _ _ _ e h c.if-c-le6.false c.if-c-le7.true) _ _ _ _ _ _
    c.node_within-e-then-c-le7.ensures c.minus-then-c-le7.ensures c.node_within-f.ensures c.either.ensures

pub node_within-returns-then-straight : goal.node_within-returns-then-straight
node_within-returns-then-straight t c e h =
    quantifier-kind _ _ _ _ _ c.requires.0 _ c.requires.1 e _ (as-quantifier _ _ _ e h c.if-c-le7.false _ c.ahead-k.ensures.0 c.ahead-k.ensures.1) _ _ _ _ _
    c.behind_turns-t.ensures (c.straight.ensures c.if-straight.true).0 c.node_within-e-then-straight.ensures c.quantified_kind.ensures

pub node_within-returns-else-straight : goal.node_within-returns-else-straight
node_within-returns-else-straight t c e h =
    quantifier-set _ _ _ _ _ c.requires.0 _ c.requires.1 e _ (as-quantifier _ _ _ e h c.if-c-le7.false _ c.ahead-k.ensures.0 c.ahead-k.ensures.1)
    c.either_way-r.result.turned _ _ _ _ _ c.either_way-r.ensures.0 c.node_within-e-else-straight.ensures c.quantified.ensures.0
