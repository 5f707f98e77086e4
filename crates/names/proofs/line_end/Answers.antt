use mathlib.Core.Path.{◌≡◌, refl, ◌∙◌, subst}
use native.Mathlib.Omega.{arith}
use lib.ListN.{length}
use Rattle.names.specs.Scanned.{LineEnded}
use Rattle.names.proofs.ScannerLaws.{comment-on, comment-stops, comment-ends}
use Rattle.names.proofs.line_end.Goals as goal

pub loop-p-init : goal.loop-p-init
loop-p-init c = (omega arith, omega arith, refl)

pub returns-then-text-p-eq10 : goal.returns-then-text-p-eq10
returns-then-text-p-eq10 c =
    let l = c.loop-p in
    record { same = l.invariant.2 ∙ comment-stops _ l.p (omega arith) c.if-text-p-eq10.true; on = omega arith; inside = omega arith }

pub loop-p-preserved : goal.loop-p-preserved
loop-p-preserved c =
    let l = c.loop-p in
    (omega arith, omega arith, l.invariant.2 ∙ comment-on _ l.p (omega arith) c.if-text-p-eq10.false)

pub returns : goal.returns
returns c =
    let l = c.loop-p in
    let e : l.p ≡ length c.args.text.now = omega arith in
    subst (λ p. LineEnded c.args.text.now c.args.at p) e (record { same = l.invariant.2 ∙ comment-ends _ l.p (omega arith); on = omega arith; inside = omega arith })
