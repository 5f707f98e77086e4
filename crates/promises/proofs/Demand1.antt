-- Demand 1 is kept.
use mathlib.Core.Path.{◌≡◌, refl}
use mathlib.Core.List.{List}
use Prim.Native.Nat.{ℕ}
use native.Mathlib.Omega.{arith}
use lib.ListN.{length}
use Rattle.answer.specs.Asked.{Asked, passed, refused, ◌>>=◌, after}
use Rattle.answer.specs.Outputs.{written_length, written_output}
use Rattle.apply.specs.Apply.{ask_apply, applied_sheet}
use Rattle.carry.specs.Carrying.{ask_carry, carry_answer, carry_output}
use Rattle.runs.proofs.Leaves.{leaves}
use Rattle.promises.specs.Demand1.{Demand1}
use Rattle.promises.proofs.SheetFirst.{sheet_first}
use Rattle.promises.proofs.Lines.{lines}

apply_stays : (sheet edit : List ℕ) (q p : ℕ) → ask_apply sheet edit ≡ refused q p → applied_sheet sheet edit ≡ sheet
apply_stays sheet edit q p e = unfold applied_sheet after in rw e

carry_back_stays : (book edit output : List ℕ) (q p : ℕ) → carry_answer book edit (length output) ≡ refused q p → carry_output book edit output ≡ output
unfolding carry_answer carry_output written_length written_output after ◌>>=◌
carry_back_stays book edit output q p e = go (ask_carry book edit (length output)) e where
  go : (a : Asked (List ℕ)) → written_length a ≡ refused q p → written_output a output ≡ output
  go (passed bytes) e = let z : ◌≡◌ {A = ℕ} 0 1 = cc in absurd (omega arith)
  go (refused n m) e = refl

pub demand_1 : Demand1
demand_1 = record { sheet_first = sheet_first; enter_leaves = leaves; apply_stays = apply_stays; carry_back_stays = carry_back_stays; lines = lines }
