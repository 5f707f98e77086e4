use mathlib.Core.Path.{◌≡◌, refl, sym, ◌∙◌, ap, subst}
use mathlib.Core.List.{List, [], ◌∷◌}
use Prim.Native.Nat.{ℕ}
use native.Mathlib.Omega.{arith}
use borrow.Author.Rules.{rules}
use Rattle.std.specs.Prelude.{Some, None, Ok, Err}
use Rattle.answer.specs.declared.Refusal.{Refusal}
use Rattle.answer.specs.Asked.{Asked, outcome, passed}
use Rattle.answer.specs.Answers.{result_asked}
use Rattle.names.specs.Names.{Entry, ask_names}
use Rattle.name_table.specs.Entries.{Turned, Read}
use Rattle.name_table.proofs.read_entries.Invariants.{Sofar}
use Rattle.name_table.proofs.read_entries.Goals as goal

module _ {text table : List ℕ} {at : ℕ} (i : Sofar text table at) where
  abbrev entries : List Entry
  entries = i.begun.entries

  all_read : (after : List ℕ) → Turned text at entries after (Ok None) → (◌≡◌ {A = Asked (Unit {0})} (passed tt) (outcome (ask_names text))) × Read (ask_names text) after
  unfolding outcome
  all_read after t = let e = i.rest ∙ t.0 in (sym (ap outcome e), subst (λ a. Read a after) (sym e) t.1)

  refused-at : (after : List ℕ) (r : Refusal) → Turned text at entries after (Err r) → result_asked {A = Unit {0}} (Err r) ≡ outcome (ask_names text)
  unfolding outcome
  refused-at after r t = sym (ap outcome (i.rest ∙ t))

  next-read : {to : ℕ} (after : List ℕ) → Turned text at entries after (Ok (Some to)) → Sofar text after to
  next-read after t = record { begun = record { entries = t.entry ∷ entries; partly = t.partly }; rest = i.rest ∙ t.reads; inside = t.inside }

pub loop-to-init : goal.loop-to-init
unfolding ask_names
loop-to-init c = record { begun = record { entries = []; partly = c.requires }; rest = refl; inside = omega arith }

pub read_entry-requires : goal.read_entry-requires
read_entry-requires c = let i = c.loop-to.invariant in (i.inside, i.begun)

pub returns-in_err-to-clause-result_value : goal.returns-in_err-to-clause-result_value
returns-in_err-to-clause-result_value c =
    let i = c.loop-to.invariant in
    let e = refused-at i c.read_entry.new.table _ (c.in_err-to.ensures (entries i) i.begun.partly) in
    search rules

pub loop-to-smaller : goal.loop-to-smaller
loop-to-smaller c =
    let i = c.loop-to.invariant in
    let t : Turned c.args.text.now c.loop-to.at (entries i) c.read_entry.new.table (Ok (Some c.in-Some.to)) = subst (λ o. Turned c.args.text.now c.loop-to.at (entries i) c.read_entry.new.table (Ok o)) c.in-Some.is (c.in_ok-to.ensures (entries i) i.begun.partly) in
    omega (arith, t.on, t.inside)

pub loop-to-preserved : goal.loop-to-preserved
loop-to-preserved c =
    let i = c.loop-to.invariant in
    next-read i _ (subst (λ o. Turned c.args.text.now c.loop-to.at (entries i) c.read_entry.new.table (Ok o)) c.in-Some.is (c.in_ok-to.ensures (entries i) i.begun.partly))

pub returns-clause-result_value : goal.returns-clause-result_value
returns-clause-result_value c =
    let i = c.loop-to.invariant in
    (all_read i _ (subst (λ o. Turned c.args.text.now c.loop-to.at (entries i) c.read_entry.new.table (Ok o)) c.in_default.is (c.in_ok-to.ensures (entries i) i.begun.partly))).0

pub returns-clause-read : goal.returns-clause-read
returns-clause-read c =
    let i = c.loop-to.invariant in
    (all_read i _ (subst (λ o. Turned c.args.text.now c.loop-to.at (entries i) c.read_entry.new.table (Ok o)) c.in_default.is (c.in_ok-to.ensures (entries i) i.begun.partly))).1
