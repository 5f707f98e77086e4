use Rattle.bitset.proofs.ExchangedBlocks.{Moving}
use Rattle.bitset.proofs.exchange_rows.Given as goal

-- The loop's invariant: the rows from b to i, and those s further on, are as the exchange leaves them.
abbrev pub invariant-loop-i : goal.invariant-loop-i
invariant-loop-i l = Moving l.b l.i l.s l.initial.rows l.rows
