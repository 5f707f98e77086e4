use mathlib.Core.Path.{sym, ◌∙◌, ap}
use mathlib.Core.List.{[], ◌∷◌}
use Prim.Native.Nat.{◌*◌}
use lib.ListN.{replicate}
use Rattle.lay_words.proofs.LayingLaws.{lead-start, lead-mark, lead-line, lead-opened, lead-blank, put-none, put-these, put_both, put-run}
use Rattle.lay_words.proofs.put_lead.Goals as goal

pub returns-in-Start : goal.returns-in-Start
returns-in-Start c =
    let a = c.args in
    let q = put-none _ _ _ (lead-start a.state a.token.now c.in-Start.is) in
    record { value = q.0; output_after = q.1 }

pub returns-then-is_mark : goal.returns-then-is_mark
returns-then-is_mark c =
    let a = c.args in
    let q = put-none _ _ _ (lead-mark a.state a.token.now (sym c.is_mark.ensures ∙ c.if-is_mark.true)) in
    record { value = q.0; output_after = q.1 }

-- a line feed and the margin
pub returns-then-state-eq0 : goal.returns-then-state-eq0
returns-then-state-eq0 c =
    let a = c.args in
    let n = put_both _ (0x0A ∷ []) _ _ _ _ (c.put-at.ensures.value, c.put-at.ensures.output_after) (put-run _ _ _ (c.put_blanks.ensures.value, c.put_blanks.ensures.output_after)) in
    let q = put-these _ _ _ _ (lead-line a.state a.token.now (sym c.is_mark.ensures ∙ c.if-is_mark.false) c.in_default.not-Start c.if-state-eq0.true
    ∙ ap (λ n. 0x0A ∷ replicate (2 * n) 0x20) (sym c.ifs_around.ensures)) n in
    record { value = q.0; output_after = q.1 }

pub returns-in-Opened : goal.returns-in-Opened
returns-in-Opened c =
    let a = c.args in
    let q = put-none _ _ _ (lead-opened a.state a.token.now (sym c.is_mark.ensures ∙ c.if-is_mark.false) c.if-state-eq0.false c.in-Opened.is) in
    record { value = q.0; output_after = q.1 }

-- a blank
pub returns : goal.returns
returns c =
    let a = c.args in
    let q = put-these _ _ _ _ (lead-blank a.state a.token.now (sym c.is_mark.ensures ∙ c.if-is_mark.false) c.in_default.not-Start c.if-state-eq0.false c.in_default-before.not-Opened) (c.put.ensures.value, c.put.ensures.output_after) in
    record { value = q.0; output_after = q.1 }
