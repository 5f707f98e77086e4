use mathlib.Core.Path.{ap, ◌∙◌}
use Prim.Native.Nat.{ℕ, ◌+◌, ◌*◌}
use native.Mathlib.Omega.{arith}
use Rattle.bitset.specs.Words.{word_at}
use Rattle.seal.specs.Seal.{block_bytes}
use Rattle.sheet.specs.Sheet.{present}
use Rattle.sheet.proofs.SoundWords.{sound-length, sound-n, sound-row}
use Rattle.sheet.proofs.Sheet.row_word.Goals as goal

-- a node's row is one of the block's words
pub word_place-requires : goal.word_place-requires
word_place-requires c = omega (arith, (sound-n present _ (λ i. omega (arith, c.type_inv.sheet i)) c.requires.0).1, c.requires.2)

pub load-requires : goal.load-requires
load-requires c =
    let pre = c.requires in
    omega (arith, sound-length present _ pre.0, (sound-n present _ (λ i. omega (arith, c.type_inv.sheet i)) pre.0).1, pre.2, pre.1, c.word_place.ensures)

pub returns : goal.returns
returns c =
    let args = c.args in
    let pre = c.requires in
    c.load.ensures ∙ ap (λ (p : ℕ). word_at args.sheet.now (block_bytes * (args.a.0 + 1) + p)) c.word_place.ensures
    ∙ sound-row present _ (λ i. omega (arith, c.type_inv.sheet i)) pre.0 _ _ pre.1 pre.2
