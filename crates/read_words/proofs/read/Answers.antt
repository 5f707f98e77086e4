use mathlib.Core.Path.{sym, ◌∙◌, ap₂, subst}
use mathlib.Core.List.{[]}
use mathlib.Core.Logic.{⊎_elim}
use native.Mathlib.Omega.{arith}
use Rattle.answer.specs.Asked.{refused}
use Rattle.answer.specs.declared.Refusal.TheVariants.{WordsRules, WordsLevel}
use Rattle.buffers.proofs.FilledLaws.{filled_none}
use Rattle.keywords.specs.Rows.{Row}
use Rattle.keywords.proofs.RowItems.{first-item}
use Rattle.read_words.proofs.ReadTurns.{begin-book, begin-edit, to-begin, popped-row, all_read, rule-too-many, rule-begun}
use Rattle.read_words.proofs.ReadTurns.{token-wrong, small-taken, too-deep, deeper, on-level, refuses, passes, ends-text}
use Rattle.read_words.proofs.read.Goals as goal

pub loop-row-init : goal.loop-row-init
loop-row-init c = to-begin _ _ _ _ _ (⊎_elim (λ e. subst (Row 1) (sym e) begin-book) (λ e. subst (Row 1) (sym e) begin-edit) c.requires.1)

pub offset_bounds-rows-level : goal.offset_bounds-rows-level
offset_bounds-rows-level c = omega (arith, c.loop-row.invariant.deep)

pub bounds-rows-level : goal.bounds-rows-level
bounds-rows-level c = omega (arith, c.loop-row.invariant.deep)

pub loop-row-smaller-then-level-gt1 : goal.loop-row-smaller-then-level-gt1
loop-row-smaller-then-level-gt1 c = omega (arith, c.if-level-gt1.true)

pub loop-row-preserved-then-level-gt1 : goal.loop-row-preserved-then-level-gt1
loop-row-preserved-then-level-gt1 c = popped-row _ _ _ _ _ c.loop-row.invariant c.if-row-eq0.true c.if-level-gt1.true

pub next-token-requires : goal.next-token-requires
next-token-requires c = c.loop-row.invariant.inside

-- the row of level 1 has ended
pub returns-then-token-words : goal.returns-then-token-words
returns-then-token-words c =
    let s = c.loop-row.invariant in
    let a = passes _ _ _ _ _ s [] (λ name h. all_read _ _ _ _ _ s c.next-token.ensures c.if-row-eq0.true c.if-level-gt1.false c.if-token-words.true name) (omega arith) (sym (filled_none _ _)) in
    record { result_value = a.0; codes_after = a.1 }

pub returns-then-left-eq0 : goal.returns-then-left-eq0
returns-then-left-eq0 c =
    let s = c.loop-row.invariant in
    let a = refuses _ _ _ _ _ s (WordsRules c.next-token.result.from)
    (λ name h. rule-too-many _ _ _ _ _ s c.next-token.ensures c.if-row-eq0.true c.if-level-gt1.false c.if-token-words.false c.if-left-eq0.true name) in
    record { result_value = a.0; codes_after = a.1 }

pub overflow_sub-left : goal.overflow_sub-left
overflow_sub-left c = omega (arith, c.if-left-eq0.false)

pub loop-row-smaller-then-row-eq0 : goal.loop-row-smaller-then-row-eq0
loop-row-smaller-then-row-eq0 c = omega (arith, c.if-left-eq0.false)

pub loop-row-preserved-then-row-eq0 : goal.loop-row-preserved-then-row-eq0
loop-row-preserved-then-row-eq0 c =
    rule-begun _ _ _ _ _ c.loop-row.invariant c.next-token.ensures c.if-row-eq0.true c.if-level-gt1.false c.if-token-words.false c.if-left-eq0.false

pub next-token-requires-in-loop-row : goal.next-token-requires-in-loop-row
next-token-requires-in-loop-row c = c.loop-row.invariant.inside

pub end_of_text-requires : goal.end_of_text-requires
end_of_text-requires c = omega (arith, c.loop-row.invariant.short, c.loop-row.invariant.inside, c.well_formed)

-- the text has ended
pub returns-then-from-words : goal.returns-then-from-words
returns-then-from-words c =
    let e = c.end_of_text.ensures in
    let a = ends-text _ _ _ _ _ c.loop-row.invariant c.next-token-in-loop-row.ensures c.if-row-eq0.false c.if-from-words.true e.value e.codes_after in
    record { result_value = a.0; codes_after = a.1 }

pub slice_bounds-meet-count : goal.slice_bounds-meet-count
slice_bounds-meet-count c = omega (arith, c.next-token-in-loop-row.ensures.in_order)

pub slice_bounds-meet-start : goal.slice_bounds-meet-start
slice_bounds-meet-start c = omega (arith, c.next-token-in-loop-row.ensures.in_order)

pub slice_bounds-meet-end : goal.slice_bounds-meet-end
slice_bounds-meet-end c = omega (arith, c.next-token-in-loop-row.ensures.inside)

-- what the calls require
pub meet-requires : goal.meet-requires
meet-requires c =
    let f = first-item _ _ c.loop-row.invariant.here.items c.if-row-eq0.false in
    (c.requires.0, f.from, f.known)

-- a token: it begins nothing; it is a mark, a name or a count; it begins a thing one level deeper, or at the level of the row
pub returns-in_default : goal.returns-in_default
returns-in_default c =
    let s = c.loop-row.invariant in
    let w = c.wrong.ensures in
    let a = refuses _ _ _ _ _ s c.wrong.result
    (λ name h. token-wrong _ _ _ _ _ s c.next-token-in-loop-row.ensures c.if-row-eq0.false c.if-from-words.false c.in_default.ensures name h ∙ sym (ap₂ refused w.0 w.1)) in
    record { result_value = a.0; codes_after = a.1 }

pub put_codes-size-requires : goal.put_codes-size-requires
put_codes-size-requires c =
    let n = c.next-token-in-loop-row.ensures in
    let s = c.in-Some.ensures.fits.short in
    (s, omega (arith, s, n.forward c.if-from-words.false, n.on, n.inside, c.loop-row.invariant.short, c.well_formed))

-- a token is not empty
pub loop-row-smaller-then-item-lt9 : goal.loop-row-smaller-then-item-lt9
loop-row-smaller-then-item-lt9 c =
    let n = c.next-token-in-loop-row.ensures in omega (arith, n.forward c.if-from-words.false, n.on, n.inside)

pub loop-row-preserved-then-item-lt9 : goal.loop-row-preserved-then-item-lt9
loop-row-preserved-then-item-lt9 c =
    small-taken _ _ _ _ _ c.loop-row.invariant c.next-token-in-loop-row.ensures c.if-row-eq0.false c.if-from-words.false c.in-Some.ensures
    c.if-item-lt9.true c.put_codes-size.ensures.value c.put_codes-size.ensures.codes_after

pub returns-then-level-ge-DEEPEST : goal.returns-then-level-ge-DEEPEST
returns-then-level-ge-DEEPEST c =
    let s = c.loop-row.invariant in
    let a = refuses _ _ _ _ _ s (WordsLevel c.next-token-in-loop-row.result.from)
    (λ name h. too-deep _ _ _ _ _ s c.next-token-in-loop-row.ensures c.if-row-eq0.false c.if-from-words.false c.in-Some.ensures
    c.if-item-lt9.false c.if-item-lt14.true c.if-level-ge-DEEPEST.true name h) in
    record { result_value = a.0; codes_after = a.1 }

pub offset_bounds-rows-level-then-item-lt14 : goal.offset_bounds-rows-level-then-item-lt14
offset_bounds-rows-level-then-item-lt14 c = omega (arith, c.if-level-ge-DEEPEST.false)

pub bounds-rows-level-then-item-lt14 : goal.bounds-rows-level-then-item-lt14
bounds-rows-level-then-item-lt14 c = omega (arith, c.if-level-ge-DEEPEST.false)

pub overflow_add-level : goal.overflow_add-level
overflow_add-level c = omega (arith, c.if-level-ge-DEEPEST.false)

pub loop-row-smaller-else-level-ge-DEEPEST : goal.loop-row-smaller-else-level-ge-DEEPEST
loop-row-smaller-else-level-ge-DEEPEST c =
    let n = c.next-token-in-loop-row.ensures in omega (arith, n.forward c.if-from-words.false, n.on, n.inside)

pub loop-row-preserved-else-level-ge-DEEPEST : goal.loop-row-preserved-else-level-ge-DEEPEST
loop-row-preserved-else-level-ge-DEEPEST c =
    deeper _ _ _ _ _ c.loop-row.invariant c.next-token-in-loop-row.ensures c.if-row-eq0.false c.if-from-words.false c.in-Some.ensures
    c.if-item-lt9.false c.if-item-lt14.true c.if-level-ge-DEEPEST.false (omega (arith, c.meet.type_inv)) c.put_codes-size.ensures.value c.put_codes-size.ensures.codes_after

pub loop-row-smaller : goal.loop-row-smaller
loop-row-smaller c =
    let n = c.next-token-in-loop-row.ensures in omega (arith, n.forward c.if-from-words.false, n.on, n.inside)

pub loop-row-preserved : goal.loop-row-preserved
loop-row-preserved c =
    on-level _ _ _ _ _ c.loop-row.invariant c.next-token-in-loop-row.ensures c.if-row-eq0.false c.if-from-words.false c.in-Some.ensures
    c.if-item-lt14.false (omega (arith, c.meet.type_inv)) c.put_codes-size.ensures.value c.put_codes-size.ensures.codes_after
