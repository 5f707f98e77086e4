use Rattle.std.proofs.Common.{arith}
use Rattle.bitset.proofs.ExchangedBlocks.{low-more, done_more}
use Rattle.bitset.proofs.exchange_blocks.Goals as goal

pub loop-b-preserved : goal.loop-b-preserved
loop-b-preserved c = let l = c.loop-b.invariant in (low-more c.requires.0 _ l.0, done_more c.requires.0 _ l.0 _ _ _ l.1 c.exchange_rows.ensures.0)

pub returns-2 : goal.returns-2
returns-2 c =
    let l = c.loop-b.invariant in
    let d = done_more c.requires.0 _ l.0 _ _ _ l.1 c.exchange_rows.ensures.0 in
    (record { rows = λ i h. d.below i (omega arith) h }, omega arith)
