use mathlib.Core.Path.{refl, sym, ◌∙◌}
use native.Mathlib.Omega.{arith}
use borrow.Author.Tests.{ne_eqb}
use Rattle.names.proofs.ScannerLaws.{blank-on, hash-on}
use Rattle.names.proofs.skip.Goals as goal

pub loop-p-init : goal.loop-p-init
loop-p-init c = (omega arith, omega arith, refl)

pub loop-p-preserved-then-b-eq35 : goal.loop-p-preserved-then-b-eq35
loop-p-preserved-then-b-eq35 c =
    let l = c.loop-p in
    let e = c.line_end-p.ensures in
    (omega arith, omega arith, l.invariant.2 ∙ hash-on _ l.p (omega arith) c.if-b-eq35.true ∙ e.same)

pub returns-then-not-is_blank : goal.returns-then-not-is_blank
returns-then-not-is_blank c =
    let l = c.loop-p in
    record { same = l.invariant.2; on = omega arith; inside = omega arith; no_blank = λ h. sym c.is_blank.ensures ∙ c.if-not-is_blank.true; no_hash = λ h. ne_eqb _ _ c.if-b-eq35.false }

pub loop-p-preserved : goal.loop-p-preserved
loop-p-preserved c =
    let l = c.loop-p in
    (omega arith, omega arith, l.invariant.2 ∙ blank-on _ l.p (omega arith) (sym c.is_blank.ensures ∙ c.if-not-is_blank.false))

pub returns : goal.returns
returns c =
    let l = c.loop-p in
    record { same = l.invariant.2; on = omega arith; inside = omega arith; no_blank = λ h. absurd (omega arith); no_hash = λ h. absurd (omega arith) }
