use mathlib.Core.Path.{refl, ◌∙◌}
use native.Mathlib.Omega.{arith}
use Rattle.sheet.specs.Sheet.{present}
use Rattle.sheet.proofs.SoundWords.{sound-length, sound-used}
use Rattle.sheet.proofs.Sheet.all_nodes.Goals as goal

pub load-requires : goal.load-requires
load-requires c = let st = c in omega (arith, sound-length present st.args.sheet.now st.requires)

pub returns : goal.returns
returns c =
    let st = c in
    c.load.ensures ∙ sound-used present st.args.sheet.now (λ p. omega (arith, c.type_inv.sheet p)) st.requires refl
