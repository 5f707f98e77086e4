use native.Mathlib.Omega.{arith}
use mathlib.Core.Path.{sym, ◌∙◌, subst}
use Prim.Native.Nat.{◌<◌}
use Rattle.text.proofs.Entries.{pattern-small}
use Rattle.text.proofs.Remaining.{no-patterns, patterns-set, to-begin, ended, pattern-above, missing, number-bad, number-good, code-wrong, code-on, code-deep, code-down}
use Rattle.text.proofs.read.Goals as goal

pub loop-limits-init : goal.loop-limits-init
loop-limits-init c = (to-begin _ _ _ _ _ (omega arith) (omega arith), omega arith, omega arith, omega arith, no-patterns)

pub returns-then-level-eq0 : goal.returns-then-level-eq0
returns-then-level-eq0 c = ended _ _ _ _ _ _ c.if-item-lt3.true c.if-level-eq0.true ∙ c.loop-limits.invariant.0

pub loop-limits-preserved-then-item-lt3 : goal.loop-limits-preserved-then-item-lt3
loop-limits-preserved-then-item-lt3 c =
    let l = c.loop-limits in
    (pattern-above _ _ _ _ _ _ c.if-item-lt3.true c.if-level-eq0.false ∙ l.invariant.0, l.invariant.4.small _, omega (arith, l.invariant.2), l.invariant.3, l.invariant.4)

pub returns-then-text-p : goal.returns-then-text-p
returns-then-text-p c =
    let l = c.loop-limits in
    missing _ _ _ _ _ _ l.invariant.1 c.if-item-lt3.false (omega (arith, l.invariant.2, l.invariant.3, l.invariant.4.all)) c.if-text-p.true ∙ l.invariant.0

pub loop-limits-preserved-then-in_range : goal.loop-limits-preserved-then-in_range
loop-limits-preserved-then-in_range c =
    let l = c.loop-limits in (
      number-good _ _ _ _ _ _ l.invariant.1 c.if-item-lt3.false c.if-item-lt8.true
          c.if-text-p.false (sym c.in_range.ensures ∙ c.if-in_range.true) ∙ l.invariant.0,
      omega (arith, l.invariant.1),
      l.invariant.2,
      l.invariant.3,
      l.invariant.4,
    )

pub returns-else-in_range : goal.returns-else-in_range
returns-else-in_range c =
    let l = c.loop-limits in
    number-bad _ _ _ _ _ _ l.invariant.1 c.if-item-lt3.false c.if-item-lt8.true
    c.if-text-p.false (sym c.in_range.ensures ∙ c.if-in_range.false) ∙ l.invariant.0

pub returns-then-sort_of-item : goal.returns-then-sort_of-item
returns-then-sort_of-item c =
    let l = c.loop-limits in
    code-wrong _ _ _ _ _ _ l.invariant.1 c.if-item-lt3.false c.if-item-lt8.false
    c.if-text-p.false (omega (arith, l.invariant.2, l.invariant.3, l.invariant.4.all)) (λ e. c.if-sort_of-item.true (c.sort_of.ensures ∙ e)) ∙ l.invariant.0

pub loop-limits-preserved-then-item-ge12 : goal.loop-limits-preserved-then-item-ge12
loop-limits-preserved-then-item-ge12 c =
    let l = c.loop-limits in (
      code-on _ _ _ _ _ _ l.invariant.1 c.if-item-lt3.false c.if-item-lt8.false
          c.if-text-p.false (sym c.sort_of.ensures ∙ c.if-sort_of-item.false) _
          c.pattern_of-next.ensures c.if-item-ge12.true l.invariant.2 ∙ l.invariant.0,
      subst (λ r. r < 65536) (sym c.pattern_of-next.ensures) (pattern-small _),
      l.invariant.2,
      l.invariant.3,
      l.invariant.4,
    )

pub returns-then-level-limits : goal.returns-then-level-limits
returns-then-level-limits c =
    let l = c.loop-limits in
    code-deep _ _ _ _ _ _ l.invariant.1 c.if-item-lt3.false
    c.if-item-lt8.false c.if-text-p.false
    (sym c.sort_of.ensures ∙ c.if-sort_of-item.false) c.if-item-ge12.false
    (omega (arith, l.invariant.2, l.invariant.3, l.invariant.4.all)) c.if-level-limits.true ∙ l.invariant.0

pub loop-limits-preserved : goal.loop-limits-preserved
loop-limits-preserved c =
    let l = c.loop-limits in (
      code-down _ _ _ _ _ _ l.invariant.1 c.if-item-lt3.false
          c.if-item-lt8.false c.if-text-p.false
          (sym c.sort_of.ensures ∙ c.if-sort_of-item.false) _ c.pattern_of-next.ensures
          c.if-item-ge12.false (omega (arith, l.invariant.2, l.invariant.3, l.invariant.4.all)) c.if-level-limits.false ∙ l.invariant.0,
      subst (λ r. r < 65536) (sym c.pattern_of-next.ensures) (pattern-small _),
      omega (arith, c.if-level-limits.false),
      l.invariant.3,
      patterns-set _ _ _ l.invariant.4 (omega (arith, l.invariant.1)),
    )
