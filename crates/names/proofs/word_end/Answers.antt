use mathlib.Core.Path.{◌≡◌, sym, ◌∙◌, subst}
use native.Mathlib.Omega.{arith}
use lib.ListN.{length}
use Rattle.names.specs.Scanned.{WordEnded}
use Rattle.names.proofs.ScannerLaws.{word-starts, word_on, word-ends, word-ends-text}
use Rattle.names.proofs.word_end.Goals as goal

pub loop-p-init : goal.loop-p-init
loop-p-init c = (omega arith, omega arith, word-starts _ _ c.requires.0 c.requires.1)

pub returns-then-not-is_letter : goal.returns-then-not-is_letter
returns-then-not-is_letter c =
    let l = c.loop-p in
    record { same = l.invariant.2 ∙ word-ends _ l.p (omega arith) _ _ (sym c.is_letter.ensures ∙ c.if-not-is_letter.true); forward = omega arith; inside = omega arith }

pub loop-p-preserved : goal.loop-p-preserved
loop-p-preserved c =
    let l = c.loop-p in
    (omega arith, omega arith, l.invariant.2 ∙ word_on _ l.p (omega arith) _ (omega arith) (sym c.is_letter.ensures ∙ c.if-not-is_letter.false))

pub returns : goal.returns
returns c =
    let l = c.loop-p in
    let e : l.p ≡ length c.args.text.now = omega arith in
    subst (λ p. WordEnded c.args.text.now c.args.from p) e (record { same = l.invariant.2 ∙ word-ends-text _ l.p _ _ (omega arith); forward = omega arith; inside = omega arith })
