use Rattle.std.proofs.Common.{◌≡◌, ℕ, List, ◌<◌, arith, ap, refl}
use Rattle.std.specs.Prelude.{Option, Some, None, is_some, unwrap_or}
use Rattle.log_blocks.specs.declared.Held.{Held}
use Rattle.log_blocks.specs.declared.Told.{Told}
use Rattle.log_blocks.specs.Round.{replay_round, said}
use Rattle.log_blocks.proofs.RoundLaws.{counts-on}
use Rattle.replay.proofs.replay_log.Invariants.{left}
use Rattle.replay.proofs.replay_log.Goals as goal

-- a round that goes on counts its block
counted : (held : Held) (told : Told) (edit after part sheet book block : List ℕ) → said held told edit after ≡ replay_round held.number part sheet book block → left told.held < left (Some held)
counted held told edit after part sheet book block e = go told.held refl where
  go : (next : Option Held) → told.held ≡ next → left next < left (Some held)
  go None q = omega arith
  go (Some h) q =
      let on = counts-on held.number part sheet book block _ e (ap is_some q) in
      omega (arith, ap (λ o. (unwrap_or o held).number) q, on.0, on.1)

pub loop-next-smaller : goal.loop-next-smaller
loop-next-smaller g c = rw c.in-Some.is (counted _ c.round-told.result _ _ _ _ _ _ c.round-told.ensures.sheet_after)

pub loop-next-smaller-in-Some-line : goal.loop-next-smaller-in-Some-line
loop-next-smaller-in-Some-line g c = rw c.in-Some.is (counted _ c.round-told.result _ _ _ _ _ _ c.round-told.ensures.sheet_after)
