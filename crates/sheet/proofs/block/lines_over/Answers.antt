use mathlib.Core.Path.{ap, ◌∙◌}
use mathlib.Core.Bool.{cond}
use lib.Dec.{ltb}
use Rattle.bitset.specs.Words.{set_of}
use Rattle.sheet.proofs.MaskLaws.{lines-over}
use Rattle.sheet.proofs.block.lines_over.Goals as goal

pub returns : goal.returns
returns c = λ φ e.
    let st = c in
    lines-over st.args.block.now φ st.args.n st.args.all _ _ _ _
    (c.use_mask.ensures ∙ ap (λ b. cond b (set_of 64 (λ i. ltb i st.args.n)) 0) e)
    c.outside-labels.ensures c.outside-line.ensures c.outside.ensures
