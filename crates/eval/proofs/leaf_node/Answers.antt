use mathlib.Core.Path.{refl, sym}
use native.Mathlib.Omega.{arith}
use Rattle.bitset.proofs.SetLaws.{set_of-member-lt}
use Rattle.eval.proofs.CodePlaces.{some-inside}
use Rattle.eval.proofs.NodeCases.{as-all, as_none, as-label, as-nominal, all_set, none-set, label_set, nominal-set}
use Rattle.eval.proofs.leaf_node.Goals as goal

pub bounds-text-at : goal.bounds-text-at
bounds-text-at c = omega (arith, some-inside c.requires.4)

pub overflow_add-result : goal.overflow_add-result
overflow_add-result c = omega (arith, some-inside c.requires.4)

pub bounds-text-at-then-c-le3 : goal.bounds-text-at-then-c-le3
bounds-text-at-then-c-le3 c = let s = c in omega (arith, (as-label _ _ _ _ s.requires.4.stands c.if-c-le2.false c.if-c-le3.true).inside)

pub label_word-requires : goal.label_word-requires
label_word-requires c = let s = c in (s.requires.0, (as-label _ _ _ _ s.requires.4.stands c.if-c-le2.false c.if-c-le3.true).range)

pub bounds-text-at-else-c-le3 : goal.bounds-text-at-else-c-le3
bounds-text-at-else-c-le3 c = let s = c in omega (arith, (as-nominal _ _ _ _ s.requires.4.stands c.if-c-le3.false s.requires.5).inside)

pub nominal-requires : goal.nominal-requires
nominal-requires c = let s = c in omega (arith, s.requires.2, (as-nominal _ _ _ _ s.requires.4.stands c.if-c-le3.false s.requires.5).range)

pub returns-then-c-le1 : goal.returns-then-c-le1
returns-then-c-le1 c e h = all_set _ _ _ _ _ _ c.requires.3 (as-all _ _ _ e h c.if-c-le1.true) refl

pub returns-then-c-le2 : goal.returns-then-c-le2
returns-then-c-le2 c e h = none-set _ _ _ _ _ _ c.requires.3 (as_none _ _ _ e h c.if-c-le1.false c.if-c-le2.true) refl

pub returns-then-c-le3 : goal.returns-then-c-le3
returns-then-c-le3 c e h = let s = c in let f = c in
    label_set _ _ _ _ _ _ s.requires.3 (as-label _ _ _ e h f.if-c-le2.false f.if-c-le3.true) s.requires.1 (omega (arith, s.requires.2)) _ c.label_word.ensures c.both.ensures

pub returns-else-c-le3 : goal.returns-else-c-le3
returns-else-c-le3 c e h = let s = c in
    nominal-set _ _ _ _ _ _ s.requires.3 (as-nominal _ _ _ e h c.if-c-le3.false s.requires.5)
    (c.nominal.ensures _ _ (omega (arith, s.requires.2)) (sym (set_of-member-lt _ _ s.requires.3.small)))
