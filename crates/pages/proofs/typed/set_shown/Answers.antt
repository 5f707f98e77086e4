use Rattle.std.proofs.Common.{sym, ◌∙◌}
use Rattle.pages.proofs.TypeLaws.{closed-row, used-row, label_set, used-set}
use Rattle.pages.proofs.typed.set_shown.Goals as goal

pub returns-then-member : goal.returns-then-member
returns-then-member c =
    let s = c.args in
    λ g v few u m. rw c.in-Arrows.is (c.both-kept.ensures ∙ used-row g s.x v few s.used s.marked u m (sym c.member.ensures ∙ c.if-member.true))

pub returns-else-member : goal.returns-else-member
returns-else-member c =
    let s = c.args in
    λ g v few u m. rw c.in-Arrows.is (closed-row g s.x v few s.used s.marked u m (sym c.member.ensures ∙ c.if-member.false))

pub returns-then-x-lt-LABELS : goal.returns-then-x-lt-LABELS
returns-then-x-lt-LABELS c =
    let s = c.args in
    λ g v few u m. rw c.in-Labels.is (c.both-kept.ensures ∙ label_set g s.x v few s.used s.marked u m c.if-x-lt-LABELS.true)

pub returns-else-x-lt-LABELS : goal.returns-else-x-lt-LABELS
returns-else-x-lt-LABELS c =
    let s = c.args in
    λ g v few u m. rw c.in-Labels.is (used-set g s.x v few s.used s.marked u m c.if-x-lt-LABELS.false)
