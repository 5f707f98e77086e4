use Rattle.std.proofs.Common.{◌∙◌}
use Rattle.log_edit.proofs.BlockMade.{made}
use Rattle.log_edit.proofs.make_block.Goals as goal

pub returns : goal.returns
returns c = c.seal.ensures ∙ made c.args.mark c.args.part.now c.requires.0 (c.fill.ensures.after (λ y h. h)) c.requires.1 (c.copy_from_slice.ensures.after ∙ c.to_le_bytes.ensures) c.copy_from_slice-2.ensures.after
