use Rattle.log_blocks.proofs.TakeLaws.{kept-count, kept-copied}
use Rattle.log_blocks.proofs.keep.Goals as goal

pub returns : goal.returns
returns c =
    let s = c.args in
    let r = c.requires in
    record {
      value = kept-count s.edit.now s.block.now s.c s.n _ r.3 r.4 r.1 c.min-m.ensures r.0 r.2;
      edit_after = kept-copied s.edit.now s.block.now s.c s.n _ r.3 r.4 r.1 c.min-m.ensures r.0 r.2 _ c.copy_from_slice.ensures.after;
    }
