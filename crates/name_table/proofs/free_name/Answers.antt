use mathlib.Core.Path.{◌≡◌, sym, ◌∙◌, ap}
use native.Mathlib.Omega.{arith}
use borrow.Author.Rules.{rules}
use borrow.Author.Tests.{not-true, not-false}
use Rattle.std.specs.Prelude.{is_none}
use Rattle.logic.proofs.Bools.{true-false}
use Rattle.buffers.proofs.SlotLaws.{fewer-slots}
use Rattle.name_table.proofs.PartlyLaws.{taken_is, free-unspelled, free-keyword, free-plain, free-else, spelled-some}
use Rattle.name_table.proofs.free_name.Goals.{then-is_spelled, else-is_spelled, then-not-is_keyword, else-not-is_keyword}
use Rattle.name_table.proofs.free_name.Goals as goal

pub find-requires : goal.find-requires
find-requires c = fewer-slots c.requires (omega arith)

pub returns-then-not-begins_plain : goal.returns-then-not-begins_plain
returns-then-not-begins_plain c = λ es p.
    elim c.if-not-is_keyword.branch [
      | then-not-is_keyword w ↦ elim c.if-is_spelled.branch [
        | then-is_spelled v ↦
            let s = sym v.if-is_spelled.ensures in
            let k = sym v.is_keyword.ensures ∙ not-true _ (sym v.value-is ∙ w.if-not-is_keyword.true) in
            let b = sym w.begins_plain.ensures ∙ not-true _ (sym w.value-is ∙ c.if-not-begins_plain.true) in
            let n : c.is_none.result ≡ is_none c.find.result = search rules in
            n ∙ ap is_none c.find.ensures ∙ taken_is p _ (spelled-some _ s) ∙ free-else es _ s k b
        | else-is_spelled v ↦ true-false w.if-not-is_keyword.true (v.value-is ∙ v.if-is_spelled.false)
      ]
      | else-not-is_keyword w ↦ true-false c.if-not-begins_plain.true (w.value-is ∙ w.if-not-is_keyword.false)
    ]

pub returns-else-not-begins_plain : goal.returns-else-not-begins_plain
returns-else-not-begins_plain c = λ es p.
    c.if-not-begins_plain.false ∙ elim c.if-is_spelled.branch [
      | then-is_spelled v ↦
          let s = sym v.if-is_spelled.ensures in
          elim c.if-not-is_keyword.branch [
            | then-not-is_keyword w ↦
                free-plain es _ s (sym v.is_keyword.ensures ∙ not-true _ (sym v.value-is ∙ w.if-not-is_keyword.true)) (sym w.begins_plain.ensures ∙ not-false _ (sym w.value-is ∙ c.if-not-begins_plain.false))
            | else-not-is_keyword w ↦ free-keyword es _ s (sym v.is_keyword.ensures ∙ not-false _ (sym v.value-is ∙ w.if-not-is_keyword.false))
          ]
      | else-is_spelled v ↦ free-unspelled es _ (sym v.if-is_spelled.ensures)
    ]
