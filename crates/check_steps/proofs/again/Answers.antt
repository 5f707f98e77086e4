use native.Mathlib.Omega.{arith}
use mathlib.Core.Path.{◌≡◌, ap, ◌∙◌}
use mathlib.Core.Bool.{not}
use mathlib.Core.List.{List}
use Prim.Native.Nat.{ℕ, ◌+◌, ◌-◌, ◌≤◌}
use lib.ListN.{length}
use Rattle.text.specs.Reading.{longest_carried}
use Rattle.check_steps.specs.Raised.{behind_at}
use Rattle.check_steps.proofs.Places.{place-none, place-some}
use Rattle.check_steps.proofs.Spans.{behind-in, again-short, again-differs, again-found, alike-slices}
use Rattle.check_steps.proofs.again.Goals as goal

-- The place after the expression, and the room behind it.
room : (text : List ℕ) (at gap end : ℕ) → (at + 1 ≤ length text) × (length text ≤ longest_carried) × (gap ≤ 1) → end ≡ behind_at text (at + 1)
    → (at + 1 ≤ end) × (end ≤ length text) × (length text ≤ longest_carried) × (gap ≤ 1)
room text at gap end r e = let h = behind-in text (at + 1) r.0 in (omega (arith, e), omega (arith, e), r.1, r.2)

pub overflow_add-second : goal.overflow_add-second
overflow_add-second c = omega (arith, room _ _ _ _ c.requires c.behind-end.ensures)

pub overflow_add-second-2 : goal.overflow_add-second-2
overflow_add-second-2 c = omega (arith, room _ _ _ _ c.requires c.behind-end.ensures)

pub returns-then-second-n : goal.returns-then-second-n
returns-then-second-n c = place-none (again-short _ _ _ _ c.behind-end.ensures c.if-second-n.true)

pub returns-then-ne : goal.returns-then-ne
returns-then-ne c =
    let r = room _ _ _ _ c.requires c.behind-end.ensures in
    place-none (again-differs _ _ _ _ c.behind-end.ensures c.if-second-n.false
    (alike-slices c.args.text.now (c.args.at + 1) (c.behind-end.result + c.args.gap) (c.behind-end.result - (c.args.at + 1)) (omega (arith, r)) (omega (arith, c.if-second-n.false)) c.ne.ensures ∙ ap not c.if-ne.true))

pub returns : goal.returns
returns c =
    let r = room _ _ _ _ c.requires c.behind-end.ensures in
    place-some (λ z. omega (arith, r)) (again-found _ _ _ _ c.behind-end.ensures c.if-second-n.false (c.behind-end.result - (c.args.at + 1)) (omega arith) (omega arith)
    (alike-slices c.args.text.now (c.args.at + 1) (c.behind-end.result + c.args.gap) (c.behind-end.result - (c.args.at + 1)) (omega (arith, r)) (omega (arith, c.if-second-n.false)) c.ne.ensures ∙ ap not c.if-ne.false))
