use mathlib.Core.Path.{sym}
use native.Mathlib.Omega.{arith}
use Rattle.name_table.proofs.EntryLaws.{item-word}
use Rattle.name_table.proofs.TurnLaws.{turn_end, turn-kind, turn-number, turn-name}
use Rattle.name_table.proofs.read_entry.Goals as goal

pub returns-then-sort-text : goal.returns-then-sort-text
returns-then-sort-text c = λ es p. (turn_end c.next-sort.ensures es c.if-sort-text.true, p)

pub returns-in_default : goal.returns-in_default
returns-in_default c = λ es p. turn-kind c.next-sort.ensures es c.if-sort-text.false c.in_default.ensures

pub free_slot-requires : goal.free_slot-requires
free_slot-requires c = let w = item-word _ c.in-Some.ensures in (c.requires.1.partly.holds.slots, w.low, w.high)

pub returns-in_default-free_slot : goal.returns-in_default-free_slot
returns-in_default-free_slot c = λ es p. turn-number c.next-sort.ensures es c.if-sort-text.false c.in-Some.ensures c.next-number.ensures (c.in_default-free_slot.ensures es p)

pub returns-then-not-free_name : goal.returns-then-not-free_name
returns-then-not-free_name c = λ es p.
    (turn-name c.next-sort.ensures es c.if-sort-text.false c.in-Some.ensures c.next-number.ensures (c.in-Some-free_slot.ensures es p) c.next-name.ensures).wrong
    (sym (c.if-not-free_name.ensures es p))

pub put_slot-requires : goal.put_slot-requires
put_slot-requires c =
    let b = c.requires.1 in
    let t = turn-name c.next-sort.ensures b.entries c.if-sort-text.false c.in-Some.ensures c.next-number.ensures (c.in-Some-free_slot.ensures b.entries b.partly) c.next-name.ensures in
    let short = t.short (sym (c.if-not-free_name.ensures b.entries b.partly)) in
    (omega (arith, t.inside, b.partly.size), short, omega (arith, short))

pub returns : goal.returns
returns c = λ es p.
    (turn-name c.next-sort.ensures es c.if-sort-text.false c.in-Some.ensures c.next-number.ensures (c.in-Some-free_slot.ensures es p) c.next-name.ensures).next
    (sym (c.if-not-free_name.ensures es p)) _ _ p c.put_slot.ensures
