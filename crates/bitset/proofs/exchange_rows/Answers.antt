use Rattle.std.proofs.Common.{arith}
use Rattle.bitset.proofs.ExchangedBlocks.{moving-more}
use Rattle.bitset.proofs.exchange_rows.Goals as goal

pub loop-i-preserved : goal.loop-i-preserved
loop-i-preserved c =
    let l = c.loop-i in
    moving-more c.requires.0 _ c.requires.1 _ _ _ l.auto.i (omega arith) c.requires.2 (omega arith) l.invariant _ _ c.low_row.ensures c.high_row.ensures
