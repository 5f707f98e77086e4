use native.Mathlib.Omega.{arith}
use Prim.Native.Nat.{ℕ, ◌+◌, ◌/◌, ◌%◌, ◌<◌, ◌≤◌}
use mathlib.Core.Path.{◌≡◌, refl, sym, subst}
use mathlib.Core.List.{List}
use lib.ListN.{length}
use Rattle.text.specs.Code.{edit_code}
use Rattle.ends.specs.Edits.{EditAt}
use Rattle.write.specs.Ways.{SomeTwo, Ends}
use Rattle.write.specs.Links.{Fitting}
use Rattle.logic.specs.Syntax.{Edit}
use Rattle.ends.proofs.FirstSteps.{edit-inside, edit-long}
use Rattle.write.proofs.Notes.{note-there, note-put}
use Rattle.write.proofs.ways.ways_at.Goals as goal

second_at : {edit : List ℕ} {first second : ℕ} (w : SomeTwo edit first) → ((P : Edit) → EditAt edit first P → second ≡ first + length (edit_code P)) → EditAt edit second w.Q
second_at {edit} w e = subst (λ (x : ℕ). EditAt edit x w.Q) (sym (e w.P w.P-at)) w.Q-at

low : {edit work : List ℕ} {first second next : ℕ} → SomeTwo edit first → Fitting edit work → Ends edit first second next → (first < 4096) × (second < 4096) × (next ≤ 4096)
low w f e =
    let q = second_at w e.0 in
    (omega (arith, edit-inside _ _ w.P w.P-at, f.short), omega (arith, edit-inside _ _ w.Q q, f.short), omega (arith, e.1 w.Q q, edit-long _ _ w.Q q, edit-inside _ _ w.Q q, f.short))

pub returns-then-work-i : goal.returns-then-work-i
returns-then-work-i c =
    (note-there (c.args.first / 4 % 64) (omega arith) refl c.requires.3 c.if-work-i.true c.requires.1, record { noted = c.requires.3; last_same = refl; stack_same = refl; links_same = refl; behind_same = refl })

pub end_of-next-requires : goal.end_of-next-requires
end_of-next-requires c = record { what = _; stands = second_at c.requires.0 c.end_of-second.ensures }

pub overflow_cast-work-2 : goal.overflow_cast-work-2
overflow_cast-work-2 c = omega (arith, (low c.requires.0 c.requires.2 (c.end_of-second.ensures, c.end_of-next.ensures)).0)

pub overflow_cast-work-3 : goal.overflow_cast-work-3
overflow_cast-work-3 c = omega (arith, (low c.requires.0 c.requires.2 (c.end_of-second.ensures, c.end_of-next.ensures)).1)

pub overflow_cast-work-4 : goal.overflow_cast-work-4
overflow_cast-work-4 c = omega (arith, (low c.requires.0 c.requires.2 (c.end_of-second.ensures, c.end_of-next.ensures)).2)

pub returns : goal.returns
returns c =
    let a = c.args in
    let e : Ends a.edit.now a.first c.end_of-second.result c.end_of-next.result = (c.end_of-second.ensures, c.end_of-next.ensures) in
    (e, note-put _ a.work.now (a.first / 4 % 64) a.first c.end_of-second.result c.end_of-next.result (omega arith) c.requires.2.long e c.requires.3)
