use native.Mathlib.Omega.{arith}
use mathlib.Core.Path.{◌≡◌}
use mathlib.Core.List.{[]}
use mathlib.Core.Logic.{⊎_elim}
use lib.ListN.{drop}
use Rattle.names.specs.Names.{Naming}
use Rattle.notation.specs.Spell.{spell}
use Rattle.notation.specs.Words.{rule_limits}
use Rattle.print_words.proofs.CodesAhead.{end-spells, none-spells}
use Rattle.keywords.proofs.RowItems.{first-item}
use Rattle.print_words.proofs.Printing.{short-room}
use Rattle.print_words.proofs.Turns.{first-turn, up, another, marked, a-number, numbered, thing-inside, deeper, here, next-as, end-size, end-written}
use Rattle.print_words.proofs.print.print.Goals as goal
use Rattle.print_words.proofs.print.print.Goals.{then-item-lt14, else-item-lt14}

pub loop-row-init : goal.loop-row-init
loop-row-init c = let p = c.requires in first-turn _ _ _ _ _ p.1 p.2 p.3 p.4

-- A row above goes on.
pub overflow_sub-level : goal.overflow_sub-level
overflow_sub-level c = omega (arith, c.if-level-gt1.true)

pub offset_bounds-rows-level : goal.offset_bounds-rows-level
offset_bounds-rows-level c = record { fits = omega (arith, c.loop-row.invariant.most) }

pub bounds-rows-level : goal.bounds-rows-level
bounds-rows-level c = omega (arith, c.loop-row.invariant.most)

pub loop-row-smaller-then-level-gt1 : goal.loop-row-smaller-then-level-gt1
loop-row-smaller-then-level-gt1 c = (up _ _ _ _ _ c.loop-row.invariant c.if-row-eq0.true c.if-level-gt1.true).less

pub loop-row-preserved-then-level-gt1 : goal.loop-row-preserved-then-level-gt1
loop-row-preserved-then-level-gt1 c = (up _ _ _ _ _ c.loop-row.invariant c.if-row-eq0.true c.if-level-gt1.true).turn

-- No row is left above the first level; and no rule follows, or one more does.
pub put_end-requires : goal.put_end-requires
put_end-requires c = omega (arith, c.loop-row.invariant.printing.short.size)

pub returns-then-at-codes : goal.returns-then-at-codes
returns-then-at-codes c =
    let e = c.if-row-eq0.true in
    let f : c.loop-row.level ≡ 1 = omega (arith, c.loop-row.invariant.least, c.if-level-gt1.false) in
    let no-rule : (name : Naming) → spell name (drop c.loop-row.at c.args.codes.now) [] c.loop-row.left ≡ [] = λ name.
    ⊎_elim
    (λ w. none-spells rule_limits c.args.codes.now c.loop-row.at name c.loop-row.left w)
    (λ w. end-spells rule_limits c.args.codes.now c.loop-row.at name c.loop-row.left w.1)
    c.if-at-codes.either in
    record {
      value = λ name held. end-size _ _ _ _ _ c.loop-row.invariant e f no-rule name held _ c.put_end.ensures.value;
      output_after = λ name held. end-written _ _ _ _ _ c.loop-row.invariant e f no-rule name held _ c.put_end.ensures.output_after;
    }

pub overflow_sub-left : goal.overflow_sub-left
overflow_sub-left c = omega (arith, c.if-at-codes.false)

pub loop-row-smaller-else-at-codes : goal.loop-row-smaller-else-at-codes
loop-row-smaller-else-at-codes c =
    (another _ _ _ _ _ c.loop-row.invariant c.if-row-eq0.true (omega (arith, c.loop-row.invariant.least, c.if-level-gt1.false)) c.if-at-codes.false.1 (omega (arith, c.if-at-codes.false))).less

pub loop-row-preserved-else-at-codes : goal.loop-row-preserved-else-at-codes
loop-row-preserved-else-at-codes c =
    (another _ _ _ _ _ c.loop-row.invariant c.if-row-eq0.true (omega (arith, c.loop-row.invariant.least, c.if-level-gt1.false)) c.if-at-codes.false.1 (omega (arith, c.if-at-codes.false))).turn

-- A mark.
pub put_mark-state-requires : goal.put_mark-state-requires
put_mark-state-requires c =
    let t = c.loop-row.invariant in
    (short-room _ _ t.printing.short, (first-item 1 _ t.known.items c.if-row-eq0.false).from, c.if-item-lt4.true)

pub loop-row-smaller-then-item-lt4 : goal.loop-row-smaller-then-item-lt4
loop-row-smaller-then-item-lt4 c =
    let p = c.put_mark-state in
    (marked _ _ _ _ _ c.loop-row.invariant c.requires.0 c.if-row-eq0.false c.if-item-lt4.true p.ensures p.auto.output).less

pub loop-row-preserved-then-item-lt4 : goal.loop-row-preserved-then-item-lt4
loop-row-preserved-then-item-lt4 c =
    let p = c.put_mark-state in
    (marked _ _ _ _ _ c.loop-row.invariant c.requires.0 c.if-row-eq0.false c.if-item-lt4.true p.ensures p.auto.output).turn

-- A number.
pub bounds-codes-at : goal.bounds-codes-at
bounds-codes-at c = (a-number _ _ _ _ _ c.loop-row.invariant c.requires.0 c.if-row-eq0.false c.if-item-lt4.false c.if-item-lt9.true).inside

pub put_number-state-requires : goal.put_number-state-requires
put_number-state-requires c =
    let n = a-number _ _ _ _ _ c.loop-row.invariant c.requires.0 c.if-row-eq0.false c.if-item-lt4.false c.if-item-lt9.true in
    (c.requires.0, c.if-item-lt4.false, c.if-item-lt9.true, n.in-range, short-room _ _ c.loop-row.invariant.printing.short)

pub overflow_add-at : goal.overflow_add-at
overflow_add-at c =
    let n = a-number _ _ _ _ _ c.loop-row.invariant c.requires.0 c.if-row-eq0.false c.if-item-lt4.false c.if-item-lt9.true in
    record { fits = omega (arith, n.inside, c.requires.2) }

pub loop-row-smaller-then-item-lt9 : goal.loop-row-smaller-then-item-lt9
loop-row-smaller-then-item-lt9 c =
    let p = c.put_number-state in
    (numbered _ _ _ _ _ c.loop-row.invariant c.requires.0 c.if-row-eq0.false c.if-item-lt4.false c.if-item-lt9.true p.ensures p.auto.output).less

pub loop-row-preserved-then-item-lt9 : goal.loop-row-preserved-then-item-lt9
loop-row-preserved-then-item-lt9 c =
    let p = c.put_number-state in
    (numbered _ _ _ _ _ c.loop-row.invariant c.requires.0 c.if-row-eq0.false c.if-item-lt4.false c.if-item-lt9.true p.ensures p.auto.output).turn

-- A thing.
pub bounds-codes-at-else-item-lt9 : goal.bounds-codes-at-else-item-lt9
bounds-codes-at-else-item-lt9 c = thing-inside _ _ _ _ _ c.loop-row.invariant c.requires.0 c.if-row-eq0.false c.if-item-lt9.false

pub opens-opened-requires : goal.opens-opened-requires
opens-opened-requires c = (c.if-item-lt9.false, (first-item 1 _ c.loop-row.invariant.known.items c.if-row-eq0.false).known)

pub put_word-state-requires : goal.put_word-state-requires
put_word-state-requires c = (short-room _ _ c.loop-row.invariant.printing.short, c.opens-opened.ensures.is_word)

pub offset_bounds-rows-level-then-item-lt14 : goal.offset_bounds-rows-level-then-item-lt14
offset_bounds-rows-level-then-item-lt14 c = record { fits = omega (arith, c.loop-row.invariant.most) }

pub bounds-rows-level-then-item-lt14 : goal.bounds-rows-level-then-item-lt14
bounds-rows-level-then-item-lt14 c = omega (arith, c.loop-row.invariant.most)

pub overflow_add-level : goal.overflow_add-level
overflow_add-level c = record { fits = omega (arith, c.loop-row.invariant.most) }

pub overflow_add-at-else-item-lt9 : goal.overflow_add-at-else-item-lt9
overflow_add-at-else-item-lt9 c = record { fits = omega (arith, thing-inside _ _ _ _ _ c.loop-row.invariant c.requires.0 c.if-row-eq0.false c.if-item-lt9.false, c.requires.2) }

pub loop-row-smaller : goal.loop-row-smaller
loop-row-smaller c =
    let p = c.put_word-state in
    let o = c.opens-opened.ensures in
    let some = c.if-row-eq0.false in
    elim c.if-item-lt14.branch [
      | then-item-lt14 w ↦ (next-as _ _ _ _ _ c.loop-row.invariant _ _ w.rows-is w.level-is
          (deeper _ _ _ _ _ c.loop-row.invariant c.requires.0 some c.if-item-lt9.false w.if-item-lt14.true o p.ensures p.auto.output)).less
      | else-item-lt14 w ↦ (next-as _ _ _ _ _ c.loop-row.invariant _ _ w.rows-is w.level-is
          (here _ _ _ _ _ c.loop-row.invariant c.requires.0 some w.if-item-lt14.false o p.ensures p.auto.output)).less
    ]

pub loop-row-preserved : goal.loop-row-preserved
loop-row-preserved c =
    let p = c.put_word-state in
    let o = c.opens-opened.ensures in
    let some = c.if-row-eq0.false in
    elim c.if-item-lt14.branch [
      | then-item-lt14 w ↦ (next-as _ _ _ _ _ c.loop-row.invariant _ _ w.rows-is w.level-is
          (deeper _ _ _ _ _ c.loop-row.invariant c.requires.0 some c.if-item-lt9.false w.if-item-lt14.true o p.ensures p.auto.output)).turn
      | else-item-lt14 w ↦ (next-as _ _ _ _ _ c.loop-row.invariant _ _ w.rows-is w.level-is
          (here _ _ _ _ _ c.loop-row.invariant c.requires.0 some w.if-item-lt14.false o p.ensures p.auto.output)).turn
    ]
