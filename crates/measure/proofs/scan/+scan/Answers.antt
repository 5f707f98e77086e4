use Rattle.std.proofs.Common.{◌<◌, refl, arith, rules}
use Rattle.ends.proofs.TreePlaces.{inside, as-name, as-leaf}
use Rattle.ends.proofs.Pending.{code_at}
use Rattle.measure.proofs.Scans.{Scanning, scanning-first, scanning-end, first-operand, turn_one, turn_two, place-lt, name-scanned, leaf-scanned}
use Rattle.measure.proofs.scan.+scan.Goals as goal
use Rattle.measure.proofs.scan.+scan.Goals.{then-s-ge8, else-s-ge8}

pub bounds-text-p : goal.bounds-text-p
bounds-text-p t c = let s = c.requires.0 in omega (arith, inside _ _ s.what s.stands)

pub shape-s-requires : goal.shape-s-requires
shape-s-requires t c = let s = c.requires.0 in code_at _ _ s.what s.stands

pub loop-s-init : goal.loop-s-init
loop-s-init t c = (c.shape-s.ensures, scanning-first _ _ _ _ _ c.requires.0 c.requires.1 c.requires.2)

pub overflow_add-p : goal.overflow_add-p
overflow_add-p t c = let f = first-operand _ _ _ _ _ _ _ _ c.loop-s.invariant.1 _ c.loop-s.invariant.0 c.loop-s-test.true in omega (arith, f.room)

pub scan-p-requires : goal.scan-p-requires
scan-p-requires t c = let i = c.loop-s.invariant in let f = first-operand _ _ _ _ _ _ _ _ c.loop-s.invariant.1 _ c.loop-s.invariant.0 c.loop-s-test.true in
    (omega (arith, f.on, f.room, i.1.from), (f.here, omega (arith, c.deeper-level.ensures), i.1.long))

pub bounds-text-p-in-loop-s : goal.bounds-text-p-in-loop-s
bounds-text-p-in-loop-s t c = let turned : (c.loop-s.p < c.if-s-ge8.p) × Scanning c.args.text.now c.args.at c.args.w c.args.v c.args.state.now c.if-s-ge8.p c.deeper-level.result c.if-s-ge8.state =
    let i = c.loop-s.invariant in let m = c.loop-s-test.true in let d = c.deeper-level.ensures in
    elim c.if-s-ge8.branch [
      | then-s-ge8 w ↦ turn_two _ _ _ _ _ _ _ _ i.1 _ i.0 m _ d _ _ w.if-s-ge8.true _ _ w.state-is w.p-is w.scan-p.auto.state w.scan-p.ensures
      | else-s-ge8 w ↦ turn_one _ _ _ _ _ _ _ _ i.1 _ i.0 m _ d _ _ w.if-s-ge8.false w.state-is w.p-is
    ] in
    omega (arith, inside _ _ turned.1.some.what turned.1.some.stands)

pub shape-s-requires-in-loop-s : goal.shape-s-requires-in-loop-s
shape-s-requires-in-loop-s t c = let turned : (c.loop-s.p < c.if-s-ge8.p) × Scanning c.args.text.now c.args.at c.args.w c.args.v c.args.state.now c.if-s-ge8.p c.deeper-level.result c.if-s-ge8.state =
    let i = c.loop-s.invariant in let m = c.loop-s-test.true in let d = c.deeper-level.ensures in
    elim c.if-s-ge8.branch [
      | then-s-ge8 w ↦ turn_two _ _ _ _ _ _ _ _ i.1 _ i.0 m _ d _ _ w.if-s-ge8.true _ _ w.state-is w.p-is w.scan-p.auto.state w.scan-p.ensures
      | else-s-ge8 w ↦ turn_one _ _ _ _ _ _ _ _ i.1 _ i.0 m _ d _ _ w.if-s-ge8.false w.state-is w.p-is
    ] in
    code_at _ _ turned.1.some.what turned.1.some.stands

pub loop-s-smaller : goal.loop-s-smaller
loop-s-smaller t c = let turned : (c.loop-s.p < c.if-s-ge8.p) × Scanning c.args.text.now c.args.at c.args.w c.args.v c.args.state.now c.if-s-ge8.p c.deeper-level.result c.if-s-ge8.state =
    let i = c.loop-s.invariant in let m = c.loop-s-test.true in let d = c.deeper-level.ensures in
    elim c.if-s-ge8.branch [
      | then-s-ge8 w ↦ turn_two _ _ _ _ _ _ _ _ i.1 _ i.0 m _ d _ _ w.if-s-ge8.true _ _ w.state-is w.p-is w.scan-p.auto.state w.scan-p.ensures
      | else-s-ge8 w ↦ turn_one _ _ _ _ _ _ _ _ i.1 _ i.0 m _ d _ _ w.if-s-ge8.false w.state-is w.p-is
    ] in
    omega (arith, turned.0, inside _ _ turned.1.some.what turned.1.some.stands)

pub loop-s-preserved : goal.loop-s-preserved
loop-s-preserved t c = let turned : (c.loop-s.p < c.if-s-ge8.p) × Scanning c.args.text.now c.args.at c.args.w c.args.v c.args.state.now c.if-s-ge8.p c.deeper-level.result c.if-s-ge8.state =
    let i = c.loop-s.invariant in let m = c.loop-s-test.true in let d = c.deeper-level.ensures in
    elim c.if-s-ge8.branch [
      | then-s-ge8 w ↦ turn_two _ _ _ _ _ _ _ _ i.1 _ i.0 m _ d _ _ w.if-s-ge8.true _ _ w.state-is w.p-is w.scan-p.auto.state w.scan-p.ensures
      | else-s-ge8 w ↦ turn_one _ _ _ _ _ _ _ _ i.1 _ i.0 m _ d _ _ w.if-s-ge8.false w.state-is w.p-is
    ] in
    (c.shape-s-in-loop-s.ensures, turned.1)

pub bounds-text-p-then-s-ge16 : goal.bounds-text-p-then-s-ge16
bounds-text-p-then-s-ge16 t c = omega (arith, inside _ _ c.loop-s.invariant.1.some.what c.loop-s.invariant.1.some.stands)

pub overflow_add-p-then-s-ge16 : goal.overflow_add-p-then-s-ge16
overflow_add-p-then-s-ge16 t c = omega (arith, (as-name _ _ c.loop-s.invariant.1.some.what c.loop-s.invariant.1.some.stands (omega (arith, c.loop-s.invariant.0, c.if-s-ge16.true))).room)

pub bounds-text-p-then-s-ge16-2 : goal.bounds-text-p-then-s-ge16-2
bounds-text-p-then-s-ge16-2 t c = omega (arith, (as-name _ _ c.loop-s.invariant.1.some.what c.loop-s.invariant.1.some.stands (omega (arith, c.loop-s.invariant.0, c.if-s-ge16.true))).room)

pub touch-requires : goal.touch-requires
touch-requires t c = (search rules, place-lt _ _ 0 0 _ (as-name _ _ c.loop-s.invariant.1.some.what c.loop-s.invariant.1.some.stands (omega (arith, c.loop-s.invariant.0, c.if-s-ge16.true))) _ c.cell_of.ensures)

pub overflow_add-result : goal.overflow_add-result
overflow_add-result t c = omega (arith, (as-name _ _ c.loop-s.invariant.1.some.what c.loop-s.invariant.1.some.stands (omega (arith, c.loop-s.invariant.0, c.if-s-ge16.true))).room)

pub returns-then-s-ge16 : goal.returns-then-s-ge16
returns-then-s-ge16 t c = let i = c.loop-s.invariant in
    scanning-end _ _ _ _ _ i.1 (λ u h. name-scanned _ _ _ _ _ _ i.1.long i.1.low c.rise.ensures u (as-name _ _ u h (omega (arith, i.0, c.if-s-ge16.true))) _ c.cell_of.ensures _ c.touch.ensures)

pub overflow_add-result-2 : goal.overflow_add-result-2
overflow_add-result-2 t c = omega (arith, inside _ _ c.loop-s.invariant.1.some.what c.loop-s.invariant.1.some.stands)

pub returns : goal.returns
returns t c = let i = c.loop-s.invariant in
    scanning-end _ _ _ _ _ i.1 (λ u h. leaf-scanned _ _ _ _ _ _ i.1.long i.1.low c.rise.ensures u (as-leaf _ _ u h (omega (arith, i.0, c.loop-s-test.false, c.if-s-ge16.false))) _ _ i.0 refl)
