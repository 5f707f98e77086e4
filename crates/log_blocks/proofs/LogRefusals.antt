-- The refusals of a log: 52 and 53, with a place of at most 65,535, since no block after block 65,534 passes.
use mathlib.Core.Path.{subst}
use mathlib.Core.Bool.{Bool}
use mathlib.Core.List.{List, []}
use Prim.Native.Nat.{ℕ, ◌≤◌}
use native.Mathlib.Omega.{arith}
use Rattle.answer.proofs.Refusals.{Refuses, is-refuses, asked-refuses}
use Rattle.log_blocks.specs.Log.{is_begun, ask_log_block, ask_log_end, recorded, read_log, blocks_of}
use Rattle.log_blocks.proofs.PassedLaws.{passes}
use Rattle.log_blocks.proofs.ReadLaws.{read-bad, read-on, each-passed}

block-refuses : (begun : Bool) (number : ℕ) (k : List ℕ) → number ≤ 65535 → Refuses 52 53 65535 (ask_log_block begun number k)
block-refuses begun number k h = unfold ask_log_block in asked-refuses _ (omega arith) (omega arith) h (λ e. is-refuses _ (omega arith) (omega arith) h)

recorded-refuses : (number : ℕ) (gathered : List ℕ) (blocks : List (List ℕ)) → number ≤ 65535 → Refuses 52 53 65535 (recorded number gathered blocks).ending
unfolding recorded ask_log_end
recorded-refuses = each-passed (λ number g ks. number ≤ 65535 → Refuses 52 53 65535 (recorded number g ks).ending)
    (λ number g h. is-refuses _ (omega arith) (omega arith) h)
    (λ number g k ks q p e h. rw (read-bad number g k ks q p e) (subst (Refuses 52 53 65535) e (block-refuses (is_begun g) number k h)))
    (λ number g k ks e on h. rw (read-on number g k ks e) (on (omega (arith, (passes (is_begun g) number k e).low))))

pub log-refuses : (log : List ℕ) → Refuses 52 53 65535 (read_log log).ending
log-refuses log = recorded-refuses 0 [] (blocks_of log) (omega arith)
