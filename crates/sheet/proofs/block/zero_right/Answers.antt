use mathlib.Core.Path.{refl, ◌∙◌}
use native.Mathlib.Omega.{arith}
use Rattle.seal.specs.Forms.{form_of}
use Rattle.sheet.specs.SheetForms.{form_in}
use Rattle.sheet.specs.Masks.{line_mask, row_mask}
use Rattle.sheet.proofs.MaskLaws.{all-zero}
use Rattle.sheet.proofs.ZeroLaws.{masks-first, masks-later}
use Rattle.sheet.proofs.block.zero_right.Goals as goal

pub returns-then-b-eq0 : goal.returns-then-b-eq0
returns-then-b-eq0 c = λ nodes below e.
    let st = c in
    let k = st.args.block.now in
    let φ = form_in st.args.sums st.args.held in
    all-zero k (form_of st.args.sums) (line_mask φ st.args.n st.args.all) _ _ c.edges-ends.ensures (c.lines_over.ensures φ refl)
    ∙ masks-first φ k (λ p. omega (arith, c.type_inv.block p)) st.args.n nodes st.args.b st.args.all e c.if-b-eq0.true

pub returns : goal.returns
returns c = λ nodes below e.
    let st = c in
    let k = st.args.block.now in
    let φ = form_in st.args.sums st.args.held in
    all-zero k (form_of st.args.sums) (row_mask st.args.all) _ _ c.edges-ends.ensures (c.rows_over.ensures nodes below e)
    ∙ masks-later φ k (λ p. omega (arith, c.type_inv.block p)) st.args.n nodes st.args.b st.args.all e c.if-b-eq0.false (λ i l. below i (omega (arith, st.requires.0)))
