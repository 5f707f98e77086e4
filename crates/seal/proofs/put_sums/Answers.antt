use mathlib.Core.Path.{◌∙◌}
use Rattle.seal.proofs.CodeLaws.{put-257}
use Rattle.seal.proofs.put_sums.Goals as goal

pub returns : goal.returns
returns c =
    put-257 c.args.block.now c.requires c.args.c.s c.args.c.t _ _
    (c.copy_from_slice.ensures.after ∙ c.to_le_bytes.ensures) (c.copy_from_slice-2.ensures.after ∙ c.to_le_bytes-2.ensures)
