use mathlib.Core.Path.{ap, ◌∙◌}
use mathlib.Core.List.{List}
use Prim.Native.Nat.{ℕ}
use lib.ListN.{length, get_or}
use Rattle.std.proofs.lemmas.List.{get_or_append_left, get_or-take, length-take-le}
use native.Mathlib.Omega.{arith}
use borrow.Author.Rules.{rules}
use Rattle.rows.proofs.OperationLaws.{rows-reversed}
use Rattle.rows.proofs.ColumnLaws.{rows-columns}
use Rattle.rows.proofs.relations.reverse_rows.Goals as goal

pub returns-then-n-le3 : goal.returns-then-n-le3
returns-then-n-le3 c = (
  λ v p. rows-reversed 3 _ _ c.if-n-le3.true (omega arith) p
      (λ i l. c.reverse_three.ensures.0.row i (omega (arith, c.if-n-le3.true, l)))
      c.lowest.ensures c.mask_rows.ensures.0,
  c.mask_rows.ensures.1,
)

pub returns-then-few_columns : goal.returns-then-few_columns
returns-then-few_columns c =
    let x = c.few_columns.new.out in
    let y = c.copy_from_slice.new.self in
    let s = c.copy_from_slice.ensures.after in
    let e = length-take-le c.args.n x (omega (arith, c.requires.0, c.few_columns.ensures.1)) in (
      λ v p. rows-columns _ (omega arith) (omega arith) (omega (arith, c.requires.0)) p (c.few_columns.ensures.0 c.if-few_columns.true)
          (λ i l. get_or_append_left y _ 0 i (omega (arith, ap length s, e)) ∙ ap (λ (z : List ℕ). get_or z i 0) s ∙ get_or-take c.args.n x i 0 l),
      search rules,
    )

pub returns : goal.returns
returns c = (
  λ v p. rows-reversed 64 _ _ (omega (arith, c.requires.0)) (omega arith) p
      (λ i l. c.transpose.ensures.0.rows i (omega (arith, c.requires.0, l)))
      c.lowest-2.ensures c.mask_rows-2.ensures.0,
  c.mask_rows-2.ensures.1,
)
