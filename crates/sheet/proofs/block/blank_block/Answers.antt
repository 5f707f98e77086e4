use mathlib.Core.Path.{ap, ◌∙◌}
use mathlib.Core.List.{List}
use Prim.Native.Nat.{ℕ}
use Rattle.bitset.specs.Words.{put_word_def}
use Rattle.seal.specs.Seal.{reseal}
use Rattle.sheet.specs.Sheet.{present}
use Rattle.sheet.specs.Writes.{blank_block_def}
use Rattle.sheet.proofs.BlankSheets.{heads}
use Rattle.sheet.proofs.block.blank_block.Goals as goal

pub returns : goal.returns
unfolding blank_block_def
returns c =
    let a = c.args in
    c.seal.ensures ∙ ap (reseal present.sums) (c.store.ensures ∙ ap (λ (k : List ℕ). put_word_def k 400 a.used) (heads _ _ a.x a.y a.z c.wipe.ensures c.requires))
