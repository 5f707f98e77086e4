use mathlib.Core.Path.{refl, sym, ap, ◌∙◌, subst}
use Prim.Native.Nat.{◌+◌}
use lib.ListN.{length}
use Rattle.sheet.specs.Sheet.{Rows}
use Rattle.rows.proofs.ColumnLaws.{Cols, cols-none, cols-more, cols-same}
use Rattle.rows.proofs.relations.few_columns.Goals as goal
use Rattle.rows.proofs.relations.few_columns.Goals.{then-row-ne0+else-left-pairs, else-row-ne0}

pub loop-i-init : goal.loop-i-init
loop-i-init c = let s = c in (ap length s.requires.2, subst (Rows 64 (Cols s.args.rows.now 0)) (sym s.requires.2) (cols-none s.args.rows.now))

pub loop-i-preserved : goal.loop-i-preserved
loop-i-preserved c =
    let r = c.args.rows.now in let l = c.loop-i in
    elim c.if-row-ne0.branch [
      | then-row-ne0+else-left-pairs w ↦ (ap length w.out-is ∙ w.put_column.ensures.1, subst (Rows 64 (Cols r (l.i + 1))) (sym w.out-is) (cols-more r _ _ refl (w.put_column.ensures.0 _ l.invariant.1)))
      | else-row-ne0 w ↦ (ap length w.out-is ∙ l.invariant.0, subst (Rows 64 (Cols r (l.i + 1))) (sym w.out-is) (cols-same r _ w.if-row-ne0.false l.invariant.1))
    ]
