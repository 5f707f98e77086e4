use native.Mathlib.Omega.{arith}
use Rattle.sheet.proofs.MaskLaws.{rows-over, closed_in, closed-nodes}
use Rattle.sheet.proofs.block.rows_over.Goals as goal

pub bare-closed-requires : goal.bare-closed-requires
bare-closed-requires c =
    let st = c in
    (closed_in st.args.n st.args.all c.minus.result st.requires.0 c.lowest.result c.lowest.ensures c.minus.ensures, st.requires.1)

pub returns : goal.returns
returns c = λ nodes below e.
    let st = c in
    let n = st.args.n in
    let all = st.args.all in
    rows-over st.args.block.now (λ p. omega (arith, c.type_inv.block p)) n st.requires.0 nodes below all e c.minus.result
    (closed-nodes n all c.minus.result st.requires.0 c.lowest.result c.lowest.ensures c.minus.ensures nodes e)
    _ _ _ c.outside-rows.ensures c.bare-closed.ensures c.outside.ensures
