use Rattle.std.proofs.Common.{◌≡◌, ap, ◌∙◌, sym, subst, ℕ, ◌+◌, ◌*◌, arith, rules}
use lib.Bits.{bit_or}
use Rattle.sheet.specs.Masks.{zeros_at}
use Rattle.plan_store.proofs.ByteLoops.{Zero, zero-none, zero_more, zero_test}
use Rattle.plan_store.proofs.zeros.Goals as goal

pub loop-j-init : goal.loop-j-init
loop-j-init c = zero-none _ _

pub loop-j-preserved : goal.loop-j-preserved
loop-j-preserved c =
    let s = c.args in
    let l = c.loop-j in
    subst (λ (w : ℕ). Zero s.s.now s.at (l.j + 1) (bit_or l.all w)) (sym c.load-all.ensures)
    (zero_more s.s.now s.at (λ p. search rules) l.j l.all (omega (arith, c.loop-j-test.true, c.requires)) l.invariant)

pub returns : goal.returns
returns c =
    let s = c.args in
    let l = c.loop-j in
    let e : l.j ≡ s.count = omega arith in
    zero_test _ _ l.j l.all l.invariant ∙ ap (λ (j : ℕ). zeros_at s.s.now s.at (8 * j)) e
