use Rattle.std.proofs.Common.{rules, refl, sym, ◌∙◌, ◌≤◌}
use Rattle.answer.specs.Asked.{is}
use Rattle.answer.proofs.AnswerLaws.{learned}
use Rattle.count_small.proofs.CountStages.{out_of_range, book-stops, edit-stops, names-asked}
use Rattle.count_small.proofs.ask.Goals as goal
use Rattle.count_small.proofs.ask.Goals.{else-only_first-via-then-only_first+else-only_first-2, else-only_first-via-else-only_first}

pub returns-then-not-contains : goal.returns-then-not-contains
returns-then-not-contains c = out_of_range _ _ _ (search rules)

pub returns-in_err-passed : goal.returns-in_err-passed
returns-in_err-passed c =
    let range : (1 ≤ c.args.n) × (c.args.n ≤ 3) = search rules in
    let stops = book-stops _ c.args.book.now c.args.edit.now range.0 range.1 _ _ (c.in_err-passed.ensures ∙ c.check_book.ensures) in
    search rules

pub returns-in_err-passed-2 : goal.returns-in_err-passed-2
returns-in_err-passed-2 c =
    let range : (1 ≤ c.args.n) × (c.args.n ≤ 3) = search rules in
    let stops = edit-stops _ c.args.book.now c.args.edit.now range.0 range.1 (learned _ (c.in_ok-passed.ensures ∙ c.check_book.ensures)) _ _ (c.in_err-passed-2.ensures ∙ c.check_edit.ensures) in
    search rules

pub returns-then-only_first-2 : goal.returns-then-only_first-2
unfolding is
returns-then-only_first-2 c =
    let range : (1 ≤ c.args.n) × (c.args.n ≤ 3) = search rules in
    let asks = names-asked _ c.args.book.now c.args.edit.now range.0 range.1 (learned _ (c.in_ok-passed.ensures ∙ c.check_book.ensures)) (learned _ (c.in_ok-passed-2.ensures ∙ c.check_edit.ensures)) in
    asks _ _ (sym c.only_first.ensures ∙ c.if-only_first.true) (sym c.only_first-then-only_first.ensures ∙ c.if-only_first-2.true)

pub returns : goal.returns
unfolding is
returns c =
    let range : (1 ≤ c.args.n) × (c.args.n ≤ 3) = search rules in
    let asks = names-asked _ c.args.book.now c.args.edit.now range.0 range.1 (learned _ (c.in_ok-passed.ensures ∙ c.check_book.ensures)) (learned _ (c.in_ok-passed-2.ensures ∙ c.check_edit.ensures)) in
    elim c.else-only_first.branch [
      | else-only_first-via-then-only_first+else-only_first-2 w ↦ asks _ _ (sym c.only_first.ensures ∙ w.if-only_first.true) (sym w.only_first-then-only_first.ensures ∙ w.if-only_first-2.false)
      | else-only_first-via-else-only_first w ↦ asks _ _ (sym c.only_first.ensures ∙ w.if-only_first.false) refl
    ]
