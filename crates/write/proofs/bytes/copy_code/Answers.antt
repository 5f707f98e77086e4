use native.Mathlib.Omega.{arith}
use native.Mathlib.Nat.{add-zero}
use lib.ListN.{get_or, set}
use Rattle.write.proofs.Laying.{Coded, coded_none, coded-more, coded-stay, coded-end}
use Rattle.write.proofs.bytes.copy_code.Goals as goal
use Rattle.write.proofs.bytes.copy_code.Goals.{then-n-gt1, else-n-gt1, then-n-gt2, else-n-gt2}

-- the first byte is there, then the first two, or all, and the first three
pub returns : goal.returns
returns c =
    let a = c.args in
    let one : Coded a.text.now a.at a.n a.out.now a.pos 1 (set a.out.now a.pos (get_or a.text.now a.at 0)) = simp add-zero at (coded-more (coded_none a.text.now a.at a.n a.out.now a.pos c.requires.2) c.requires.0) in
    let two : Coded a.text.now a.at a.n a.out.now a.pos 2 c.if-n-gt1.out = elim c.if-n-gt1.branch [
      | then-n-gt1 w ↦ rw w.out-is (coded-more one w.if-n-gt1.true)
      | else-n-gt1 w ↦ rw w.out-is (coded-stay one w.if-n-gt1.false)
    ] in
    let three : Coded a.text.now a.at a.n a.out.now a.pos 3 c.if-n-gt2.out = elim c.if-n-gt2.branch [
      | then-n-gt2 w ↦ rw w.out-is (coded-more two w.if-n-gt2.true)
      | else-n-gt2 w ↦ rw w.out-is (coded-stay two w.if-n-gt2.false)
    ] in
    coded-end three (omega (arith, c.requires.1))
