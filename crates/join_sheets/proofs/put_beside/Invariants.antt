use mathlib.Core.Path.{◌≡◌}
use Prim.Native.Nat.{ℕ, ◌+◌, ◌*◌, ◌≤◌}
use Rattle.bitset.specs.Words.{word_at}
use Rattle.join_sheets.specs.BesideWrites.{put_beside_def}
use Rattle.join_sheets.proofs.put_beside.Given as goal

-- i words are put, and those after them are unchanged
abbrev pub invariant-loop-i : goal.invariant-loop-i
invariant-loop-i l = (l.block ≡ put_beside_def l.at l.n l.other l.i l.initial.block) × ((p : ℕ) → 16 + 8 * (l.at + l.i) ≤ p → word_at l.block p ≡ word_at l.initial.block p)
