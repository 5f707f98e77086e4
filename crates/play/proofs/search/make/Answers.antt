use mathlib.Core.Path.{sym, subst}
use mathlib.Core.List.{List}
use Prim.Native.Nat.{ℕ}
use native.Mathlib.Omega.{arith}
use Rattle.logic.specs.Limits.{ranges}
use Rattle.sheet.specs.Sheet.{graph_of}
use Rattle.sheet.specs.Questions.{Sound}
use Rattle.text.specs.Stands.{EditStands, SomeEditStands}
use Rattle.apply.specs.Made.{Made}
use Rattle.play.proofs.Moves.{sheet-length, on-copy}
use Rattle.play.proofs.search.make.Goals as goal

pub copy_from_slice-requires : goal.copy_from_slice-requires
copy_from_slice-requires c = let l = sheet-length _ (λ p. omega (arith, c.type_inv.sheet p)) c.requires.0 in omega (arith, l, c.requires.2)

pub run_edit-requires : goal.run_edit-requires
run_edit-requires c = subst (λ (t : List ℕ). Sound t × SomeEditStands (ranges (graph_of t).n) c.args.edits.now c.args.at) (sym c.copy_from_slice.ensures.after) (c.requires.0, c.requires.1)

pub returns : goal.returns
returns c =
    let s = c in
    let e = c.copy_from_slice.ensures.after in
    let r = c.run_edit in (
      r.ensures.0,
      λ Z h.
          on-copy _ (λ p. omega (arith, c.type_inv.sheet p)) s.requires.0 _ _ Z _ _ h
          (subst (λ (t : List ℕ). Made s.args.at Z r.result t r.new.sheet) e (r.ensures.1 Z (subst (λ (t : List ℕ). EditStands (ranges (graph_of t).n) s.args.edits.now s.args.at Z) (sym e) h))),
    )
