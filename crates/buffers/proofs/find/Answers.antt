use mathlib.Core.Path.{refl, sym, ◌∙◌, ap}
use native.Mathlib.Numerals.{add-one}
use Rattle.names.specs.Token.{same, first_below}
use Rattle.names.proofs.TokenLaws.{bytes-same}
use Rattle.names.proofs.FirstLaws.{first-here, first_on}
use Rattle.buffers.specs.Slots.{found_option}
use Rattle.buffers.proofs.find.Goals as goal

pub loop-x-init : goal.loop-x-init
unfolding first_below
loop-x-init c = refl

pub returns-then-eq : goal.returns-then-eq
returns-then-eq c =
    let l = c.loop-x in
    sym (ap found_option (first-here _ _ l.x c.loop-x-test.true l.invariant (ap (same _) (sym c.slot.ensures) ∙ sym (bytes-same _ _) ∙ sym c.eq.ensures ∙ c.if-eq.true)))

pub loop-x-preserved : goal.loop-x-preserved
loop-x-preserved c =
    let l = c.loop-x in
    rw (add-one l.x) (first_on _ l.x l.invariant (ap (same _) (sym c.slot.ensures) ∙ sym (bytes-same _ _) ∙ sym c.eq.ensures ∙ c.if-eq.false))
