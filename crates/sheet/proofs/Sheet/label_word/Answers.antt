use mathlib.Core.Path.{ap, ◌∙◌}
use native.Mathlib.Omega.{arith}
use Rattle.bitset.specs.Words.{word_at}
use Rattle.sheet.specs.Sheet.{present}
use Rattle.sheet.proofs.SoundWords.{sound-length, sound-label}
use Rattle.sheet.proofs.Sheet.label_word.Goals as goal

pub load-requires : goal.load-requires
load-requires c =
    let st = c in
    omega (arith, sound-length present st.args.sheet.now st.requires.0, st.requires.1, c.word_place.ensures)

pub returns : goal.returns
returns c =
    let known = c in
    let st = known in
    c.load.ensures ∙ ap (word_at st.args.sheet.now) c.word_place.ensures
    ∙ sound-label present st.args.sheet.now (λ p. omega (arith, known.type_inv.sheet p)) st.requires.0 st.args.k.0 st.requires.1
