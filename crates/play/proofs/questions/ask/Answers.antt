use Rattle.std.proofs.Common.{◌≡◌, sym, ap, ◌∙◌, true, ℕ, List}
use Rattle.std.proofs.lemmas.Result.{err_from_is_err_and, MatchResult-weaker}
use Rattle.answer.specs.Asked.{outcome}
use Rattle.answer.proofs.AnswerLaws.{Learned, learned}
use Rattle.sheet.specs.Sheet.{graph_of}
use Rattle.text.specs.Reading.{text_limits}
use Rattle.text.specs.Questions.{ask_edit}
use Rattle.ends.proofs.RulePlaces.{book-passed}
use Rattle.play.specs.Questions.{lists_right_def, ask_aims, cut, ask_edits, first_refused_def}
use Rattle.play.proofs.PlayStages.{filled, aims-read, lists-stop, aims-stop, edits-stop, fits_last, fits-faulty, none-faulty, edits-at, both_read}
use Rattle.play.proofs.questions.ask.Goals as goal

-- 62 and what stands for the sheet's n
reads : {n m : ℕ} → n ≡ m → (texts : List (List ℕ)) → outcome (ask_edits (text_limits n) texts) ≡ outcome (ask_edits (text_limits m) texts)
reads e texts = ap (λ k. outcome (ask_edits (text_limits k) texts)) e

pub returns-then-not-lists_right : goal.returns-then-not-lists_right
returns-then-not-lists_right c =
    let s = lists-stop _ _ _ _ _ _ _ (sym c.lists_right.ensures ∙ c.if-not-lists_right.true) in
    record { value = rw c.from.ensures s.0; edit_value = rw c.from.ensures s.1; none_value = tt }

-- 62 has passed
pub returns-in_err-check_aims : goal.returns-in_err-check_aims
returns-in_err-check_aims c =
    let p = err_from_is_err_and c.from_residual.result c.from_residual.ensures.1 in
    let s = aims-stop _ _ _ _ _ _ _ (sym c.lists_right.ensures ∙ c.if-not-lists_right.false) _ _ c.in_err-check_aims.ensures in
    record { value = rw (p.1, p.2) s.0; edit_value = rw (p.1, p.2) s.1; none_value = rw p.1 tt }

-- so have sheet, book and goal
pub node_count-requires : goal.node_count-requires
node_count-requires c = let aims = learned _ c.in_ok-check_aims.ensures in (aims-read _ _ _ aims.what aims.is).sound

pub check_edits-requires : goal.check_edits-requires
check_edits-requires c = filled _ _ _ _ (sym c.lists_right.ensures ∙ c.if-not-lists_right.false)

-- the edits are checked
pub returns-in_err-check_edits : goal.returns-in_err-check_edits
returns-in_err-check_edits c =
    let a = c.args in
    let texts = cut a.edits.now a.lengths.now in
    let p = err_from_is_err_and c.from_residual-in_err-check_edits.result c.from_residual-in_err-check_edits.ensures.1 in
    let n = c.node_count.ensures.0 in
    let e = c.in_err-check_edits.ensures in
    let s = edits-stop _ _ _ _ _ _ _ (sym c.lists_right.ensures ∙ c.if-not-lists_right.false) (learned _ c.in_ok-check_aims.ensures) _ _ (e.value ∙ reads n texts) _
    (e.edit_value ∙ ap (λ (k : ℕ). first_refused_def (ask_edit (text_limits k)) texts) n) in
    record { value = rw (p.1, p.2) s.0; edit_value = rw (p.1, p.2) s.1; none_value = rw p.1 tt }

-- and have passed
pub check_fits-requires : goal.check_fits-requires
check_fits-requires c =
    let a = c.args in
    let aims = learned _ c.in_ok-check_aims.ensures in
    let edits = learned _ (c.in_ok-check_edits.ensures.value ∙ reads c.node_count.ensures.0 (cut a.edits.now a.lengths.now)) in
    both_read _ _ a.goal.now _ _ _ _ (sym c.lists_right.ensures ∙ c.if-not-lists_right.false) edits _ (aims-read _ _ _ aims.what aims.is).book-is

pub returns : goal.returns
returns c =
    let a = c.args in
    let ok : lists_right_def a.edits.now a.lengths.now a.dispatchers a.moves ≡ true = sym c.lists_right.ensures ∙ c.if-not-lists_right.false in
    let aims : Learned (ask_aims a.sheet.now a.book.now a.goal.now) = learned _ c.in_ok-check_aims.ensures in
    let edits : Learned (ask_edits (text_limits (graph_of a.sheet.now).n) (cut a.edits.now a.lengths.now)) = learned _ (c.in_ok-check_edits.ensures.value ∙ reads c.node_count.ensures.0 (cut a.edits.now a.lengths.now)) in
    let book = book-passed _ (aims-read _ _ _ aims.what aims.is).book-is in
    let stand = edits-at _ a.book.now a.goal.now _ _ _ _ ok edits in
    let q = c.check_fits.ensures in
    record {
      value = fits_last _ _ _ _ _ _ _ ok aims edits (q.value _ _ book stand);
      edit_value = MatchResult-weaker c.check_fits.result (q.edit_value _ _ book stand) (λ x y. y) (λ e f. fits-faulty _ _ _ _ _ _ _ ok aims edits _ f);
      none_value = none-faulty _ _ _ _ _ _ _ ok aims edits _ (q.value _ _ book stand);
    }
