use mathlib.Core.Bool.{true, false, not, not-not}
use Rattle.std.proofs.Common.{◌≡◌, sym, ap, ◌∙◌, arith}
use Rattle.sheet.specs.Sheet.{present, graph_of}
use Rattle.sheet.proofs.SoundWords.{sound-n}
use Rattle.close_node.proofs.NodeTaken.{kept_label, kept-arrow, kept-only}
use Rattle.close_node.proofs.can_close.Goals as goal
use Rattle.close_node.proofs.can_close.Goals.{then-not-has_label, else-not-has_label}

pub with_use-requires : goal.with_use-requires
with_use-requires c = omega (arith, c.requires.1, (sound-n present c.args.sheet.now (λ p. omega (arith, c.type_inv.sheet p)) c.requires.0).1)

pub returns-then-not-has_arrow : goal.returns-then-not-has_arrow
returns-then-not-has_arrow c =
    let few = (sound-n present c.args.sheet.now (λ p. omega (arith, c.type_inv.sheet p)) c.requires.0).1 in
    elim c.if-not-has_label.branch [
      | then-not-has_label w ↦
          kept-only _ _ (sym c.has_label.ensures ∙ w.if-not-has_label.true)
          (sym w.has_arrow.ensures ∙ sym (not-not _) ∙ ap not (sym w.value-is ∙ c.if-not-has_arrow.true)) _
          (c.with_use.ensures (graph_of c.args.sheet.now) (omega (arith, few)) c.requires.1 c.all_nodes.ensures)
      | else-not-has_label w ↦ let no : false ≡ true = sym (ap not w.if-not-has_label.false) ∙ sym w.value-is ∙ c.if-not-has_arrow.true in cc
    ]

pub returns-else-not-has_arrow : goal.returns-else-not-has_arrow
returns-else-not-has_arrow c =
    c.if-not-has_arrow.false
    ∙ elim c.if-not-has_label.branch [
      | then-not-has_label w ↦
          kept-arrow _ _ (sym c.has_label.ensures ∙ w.if-not-has_label.true) (sym w.has_arrow.ensures ∙ sym (not-not _) ∙ ap not (sym w.value-is ∙ c.if-not-has_arrow.false))
      | else-not-has_label w ↦ kept_label _ _ (sym c.has_label.ensures ∙ w.if-not-has_label.false)
    ]
