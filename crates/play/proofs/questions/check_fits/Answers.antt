use mathlib.Core.Path.{◌≡◌}
use mathlib.Core.List.{List}
use Prim.Native.Nat.{ℕ, ◌+◌, ◌<◌}
use native.Mathlib.Omega.{arith}
use lib.ListN.{length, get_or}
use Rattle.logic.specs.Syntax.{Expr, rule, Edit, finish}
use Rattle.logic.specs.Limits.{Ranges}
use Rattle.text.specs.Code.{edit_code}
use Rattle.ends.specs.Edits.{EditAt}
use Rattle.ends.specs.Books.{BookIs}
use Rattle.play.specs.Standing.{EditsAt}
use Rattle.play.proofs.GameEdits.{FromHere, next_at, part_in, part_at, part-short, others-stand, fits-first, fits-stop, fits-pass, fits-end}
use Rattle.play.proofs.questions.check_fits.Goals as goal

-- the next edit stands there, is a part of the text, and ends where the next begins
record Next (r : Ranges) (edits : List ℕ) (count : ℕ) (Zs : List Edit) (i at end : ℕ) : Type 0 where
  from : FromHere r edits Zs i at
  below : i < length Zs
  ends : end ≡ at + length (edit_code (get_or Zs i finish))

next : {edits : List ℕ} {count i at end : ℕ} → ((Zs : List Edit) (e : EditsAt edits count Zs) → FromHere e.limits edits Zs i at) → i < count → ((Z : Edit) → EditAt edits at Z → end ≡ at + length (edit_code Z))
    → (Zs : List Edit) (e : EditsAt edits count Zs) → Next e.limits edits count Zs i at end
next s l f Zs e = let b : _ = omega (arith, l, e.enough) in record { from = s Zs e; below = b; ends = f _ (next_at (s Zs e) b) }

pub loop-i-init : goal.loop-i-init
loop-i-init c = ((λ Zs e. record { stand = e.stand }), λ rules Zs h e. fits-first rules Zs c.args.count)

pub end_of-end-requires : goal.end_of-end-requires
end_of-end-requires c =
    let q = c.requires.1 in
    record { what = _; stands = next_at (c.loop-i.invariant.0 q.what q.are) (omega (arith, c.loop-i-test.true, q.are.enough)) }

pub slice_bounds-fits-count : goal.slice_bounds-fits-count
slice_bounds-fits-count c =
    let q = c.requires.1 in
    let n = next c.loop-i.invariant.0 c.loop-i-test.true c.end_of-end.ensures q.what q.are in
    omega (arith, (part_in n.from n.below n.ends).0)

pub slice_bounds-fits-start : goal.slice_bounds-fits-start
slice_bounds-fits-start c =
    let q = c.requires.1 in
    let n = next c.loop-i.invariant.0 c.loop-i-test.true c.end_of-end.ensures q.what q.are in
    omega (arith, (part_in n.from n.below n.ends).0)

pub slice_bounds-fits-end : goal.slice_bounds-fits-end
slice_bounds-fits-end c =
    let q = c.requires.1 in
    let n = next c.loop-i.invariant.0 c.loop-i-test.true c.end_of-end.ensures q.what q.are in
    omega (arith, (part_in n.from n.below n.ends).1)

pub fits-requires : goal.fits-requires
fits-requires c =
    let q = c.requires.1 in
    let n = next c.loop-i.invariant.0 c.loop-i-test.true c.end_of-end.ensures q.what q.are in
    (c.requires.0, record { what = _; stands = part_at n.from n.below n.ends }, part-short n.from n.below n.ends)

-- the book carried back through it was measured
pub returns-in-Err : goal.returns-in-Err
returns-in-Err c =
    let n = next c.loop-i.invariant.0 c.loop-i-test.true c.end_of-end.ensures in
    let fit = λ (rules : List (Expr rule)) (Zs : List Edit) (h : BookIs c.args.book.now rules) (e : EditsAt c.args.edits.now c.args.count Zs).
    fits-stop rules Zs _ e.enough (c.loop-i.invariant.1 rules Zs h e) c.loop-i-test.true _ _ (c.in-Err.ensures rules _ h (part_at (n Zs e).from (n Zs e).below (n Zs e).ends)) in
    record { value = λ rules Zs h e. (fit rules Zs h e).0; edit_value = λ rules Zs h e. (fit rules Zs h e).1 }

pub loop-i-preserved : goal.loop-i-preserved
loop-i-preserved c =
    let n = next c.loop-i.invariant.0 c.loop-i-test.true c.end_of-end.ensures in (
      (λ Zs e. others-stand (n Zs e).from (n Zs e).below (n Zs e).ends),
      λ rules Zs h e.
          fits-pass rules Zs _ e.enough (c.loop-i.invariant.1 rules Zs h e) c.loop-i-test.true (c.in_default.ensures rules _ h (part_at (n Zs e).from (n Zs e).below (n Zs e).ends)),
    )

pub returns : goal.returns
returns c = record { value = λ rules Zs h e. fits-end rules Zs _ e.enough (c.loop-i.invariant.1 rules Zs h e) c.loop-i-test.false; edit_value = λ rules Zs h e. tt }
