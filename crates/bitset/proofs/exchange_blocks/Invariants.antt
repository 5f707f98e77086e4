use Prim.Native.Nat.{◌-◌}
use Rattle.bitset.specs.Transpose.{LowFrom}
use Rattle.bitset.proofs.ExchangedBlocks.{Done}
use Rattle.bitset.proofs.exchange_blocks.Given as goal

-- The loop's invariant: b starts a low half, and the rows below b are as the exchange leaves them.
abbrev pub invariant-loop-b : goal.invariant-loop-b
invariant-loop-b l = LowFrom l.s l.b × Done l.b l.s l.initial.rows l.rows

abbrev pub decreases-loop-b : goal.decreases-loop-b
decreases-loop-b l = 64 - l.b
