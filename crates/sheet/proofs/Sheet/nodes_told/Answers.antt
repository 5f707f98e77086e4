use mathlib.Core.Path.{sym, ap, ◌∙◌}
use mathlib.Core.Bool.{◌&&◌}
use native.Mathlib.Omega.{arith}
use Rattle.bitset.specs.Words.{combined}
use Rattle.sheet.proofs.SheetQuestionLaws.{told-held, told-all}
use Rattle.sheet.proofs.Sheet.nodes_told.Goals as goal

pub returns-then-held : goal.returns-then-held
returns-then-held c = λ φ e h.
    let st = c in
    told-held φ st.args.sheet.now st.args.n st.requires.1 (λ p. omega (arith, c.type_inv.sheet p)) c.lowest-below.result _ c.lowest-below.ensures
    (c.both.ensures ∙ ap (combined ◌&&◌ c.lowest-below.result) c.load.ensures) (sym e ∙ c.if-held.true)

pub returns : goal.returns
returns c = λ φ e h.
    let st = c in
    told-all φ st.args.sheet.now st.args.n st.requires.1 _ c.lowest-below.ensures (sym e ∙ c.if-held.false)
