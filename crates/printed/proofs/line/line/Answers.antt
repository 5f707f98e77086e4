use native.Mathlib.Omega.{arith}
use lib.ListN.{length-append}
use Rattle.printed.proofs.AnswerLineLaws.{line_made}
use Rattle.printed.proofs.line.line.Goals as goal

pub slice_bounds-out-end-2 : goal.slice_bounds-out-end-2
slice_bounds-out-end-2 c = simp length-append (omega (arith, c.out-2-1.given))

pub returns : goal.returns
returns c =
    let st = c in
    line_made st.args.number st.args.place _ c.write_digits.ensures _ c.write_digits-2.ensures
