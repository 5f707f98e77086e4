use Rattle.std.proofs.Common.{sym, ap, ◌∙◌, rules, tests, not, eqb}
use mathlib.Core.Logic.{inl, inr}
use borrow.Author.Tests.{lt-leb}
use Rattle.std.proofs.lemmas.Iterator.{YieldsList-from_slice}
use Rattle.std.proofs.lemmas.Iterator.Search.{all_from_yields_List}
use Rattle.name_table.specs.Entries.{name_byte}
use Rattle.name_table.proofs.SpellingLaws.{all-spelled, well-none, well-long, well-by}
use Rattle.name_table.proofs.is_spelled.Goals.{then-word-ne0, else-word-ne0}
use Rattle.name_table.proofs.is_spelled.Goals as goal

pub returns-then-word-le64 : goal.returns-then-word-le64
returns-then-word-le64 c =
    let t = c.args.word.now in
    let p = c.if-word-le64.true in
    all_from_yields_List name_byte _ _ c.all.result c.all.ensures.ran (YieldsList-from_slice t cc) (λ x b q f. search (rules, tests)) ∙ all-spelled t ∙ sym (well-by t p.0 p.1)

pub returns-else-word-le64 : goal.returns-else-word-le64
returns-else-word-le64 c =
    elim c.if-word-ne0.branch [
      | then-word-ne0 w ↦ elim c.if-word-le64.either [ inl p ↦ w.t-3-is ∙ lt-leb _ _ p.1 ∙ sym (well-long _ p.1) | inr z ↦ absurd (w.if-word-ne0.true z) ]
      | else-word-ne0 w ↦ w.t-3-is ∙ ap (λ n. not (eqb n 0)) w.if-word-ne0.false ∙ sym (well-none _ w.if-word-ne0.false)
    ]
