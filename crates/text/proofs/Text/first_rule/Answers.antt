use borrow.Author.Rules.{rules}
use mathlib.Core.Path.{sym, ap, ◌∙◌}
use mathlib.Core.List.{List}
use Prim.Native.Nat.{ℕ}
use lib.ListN.{length, take}
use Rattle.text.specs.Questions.{first_part}
use Rattle.text.proofs.TextStages.{no-rule-long, no-rule, the-rule, rule-inside}
use Rattle.text.proofs.Text.first_rule.Goals as goal

pub returns-then-text-limits : goal.returns-then-text-limits
unfolding first_part
returns-then-text-limits c =
    let text = c.args.text.now in
    let size = no-rule-long text _ c.limits_for-limits.ensures c.if-text-limits.true in
    record { memory = search rules; starts = search rules; contents = ap (λ (l : List ℕ). take (length l) text) size }

pub returns-in_default : goal.returns-in_default
unfolding first_part
returns-in_default c =
    let text = c.args.text.now in
    let size = no-rule text _ c.limits_for-limits.ensures c.if-text-limits.false (sym c.read.ensures ∙ c.in_default.is) in
    record { memory = search rules; starts = search rules; contents = ap (λ (l : List ℕ). take (length l) text) size }

pub slice_bounds-result-end-2 : goal.slice_bounds-result-end-2
slice_bounds-result-end-2 c = rule-inside _ _ c.limits_for-limits.ensures c.if-text-limits.false (sym c.read.ensures ∙ c.in-Ok.is)

pub returns : goal.returns
unfolding first_part
returns c =
    let text = c.args.text.now in
    let size = the-rule text _ c.limits_for-limits.ensures c.if-text-limits.false (sym c.read.ensures ∙ c.in-Ok.is) in
    record { memory = search rules; starts = search rules; contents = ap (λ (k : ℕ). take k text) size }
