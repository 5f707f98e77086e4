use Rattle.std.proofs.Common.{◌≡◌, ℕ, suc, ◌-◌, ◌≤◌, length}
use Rattle.std.specs.Prelude.{Option, Some, None, IfSome}
use Rattle.log_blocks.specs.declared.Held.{Held}
use Rattle.replay.proofs.replay_log.Given as goal

-- how many rounds may follow: a block of a number above 65,534 is bad
abbrev pub left : Option Held → ℕ
left None = 0
left (Some held) = suc (65536 - held.number)

abbrev pub invariant-loop-next : goal.invariant-loop-next
invariant-loop-next g l = (length l.sheet ≡ length l.initial.sheet) × (length l.block ≡ 512) × (length l.edit ≡ 4097) × IfSome l.next (λ held. held.kept ≤ 4097)

abbrev pub decreases-loop-next : goal.decreases-loop-next
decreases-loop-next g l = left l.next
