use mathlib.Core.Path.{sym, ◌∙◌}
use Rattle.names.specs.Token.{ascii}
use Rattle.lay_words.proofs.LayingLaws.{mark-opening, mark-comma, mark-else}
use Rattle.lay_words.proofs.is_mark.Goals.{then-same, else-same}
use Rattle.lay_words.proofs.is_mark.Goals as goal

pub returns-then-same-2 : goal.returns-then-same-2
unfolding ascii
returns-then-same-2 c =
    c.if-same-2.true ∙ elim c.if-same.branch [
      | then-same w ↦ mark-opening _ (sym w.if-same.ensures)
      | else-same w ↦ mark-comma _ (sym w.if-same.ensures) (sym w.same-else-same.ensures ∙ sym w.value-is ∙ c.if-same-2.true)
    ]

pub returns-else-same-2 : goal.returns-else-same-2
unfolding ascii
returns-else-same-2 c =
    elim c.if-same.branch [
      | then-same w ↦ (let t = w.value-is ∙ w.if-same.true in let f = c.if-same-2.false in absurd cc)
      | else-same w ↦ mark-else _ (sym w.if-same.ensures) (sym w.same-else-same.ensures ∙ sym w.value-is ∙ c.if-same-2.false) c.same-else-same-2.ensures
    ]
