-- The joined edit carried out, and P and then Q.
use mathlib.Core.Path.{◌≡◌, sym, ◌∙◌, ap, subst}
use mathlib.Core.Logic.{◌↔◌}
use mathlib.Core.List.{List}
use Prim.Native.Nat.{ℕ, ◌≤◌}
use Rattle.answer.specs.Asked.{passed, outcome}
use Rattle.logic.specs.Syntax.{Edit}
use Rattle.logic.specs.Steps.{run}
use Rattle.logic.specs.Carry.{followed_by}
use Rattle.logic.specs.Limits.{max_nodes}
use Rattle.logic.proofs.Theorem.{run-followed_by}
use Rattle.sheet.specs.Sheet.{present, store, graph_of}
use Rattle.sheet.specs.Questions.{Sound}
use Rattle.sheet.proofs.SoundSheets.{sound-is-stored}
use Rattle.text.specs.Reading.{text_limits}
use Rattle.text.specs.Questions.{ask_edit}
use Rattle.apply.specs.Apply.{after_steps, ask_apply, applied_sheet}
use Rattle.bitset.specs.Words.{Bytes}
use Rattle.answer.proofs.AskedLaws.{outcome-passed}
use Rattle.runs.proofs.After.{applied-is, applies, applied-read, after-sound, after-graph, after-n}
use Rattle.join_edits.proofs.JoinedPasses.{Joins}
use Rattle.promises.specs.Chained.{Applies}
use Rattle.promises.proofs.JoinedReading.{ReadFor, from-both, from-joined}

module _ {p q joined : List ℕ} (j : Joins p q joined) (sheet : List ℕ) (bytes : Bytes sheet) where
  few : Sound sheet → (graph_of sheet).n ≤ max_nodes
  few s = (sound-is-stored present sheet bytes s).within.few_nodes

  -- Both edits read for the sheet's n: each is carried out, and the two leave what the joined steps leave.
  module _ (s : Sound sheet) (r : ReadFor j (graph_of sheet).n) where
    first-applies : ask_apply sheet p ≡ passed j.P
    first-applies = applies sheet p j.P s r.p-read

    first-leaves : applied_sheet sheet p ≡ after_steps j.P sheet
    first-leaves = applied-is sheet p j.P first-applies

    second-applies : ask_apply (applied_sheet sheet p) q ≡ passed j.Q
    second-applies =
        ap (λ t. ask_apply t q) first-leaves
        ∙ applies (after_steps j.P sheet) q j.Q (after-sound sheet bytes s p j.P r.p-read) (subst (λ n. ask_edit (text_limits n) q ≡ passed j.Q) (sym (after-n sheet bytes s p j.P r.p-read)) r.q_read)

    two-leave : applied_sheet (applied_sheet sheet p) q ≡ after_steps (followed_by j.P j.Q) sheet
    two-leave =
        applied-is (applied_sheet sheet p) q j.Q second-applies ∙ ap (after_steps j.Q) first-leaves
        ∙ ap (λ g. store (run j.Q g)) (after-graph sheet bytes s p j.P r.p-read) ∙ ap store (sym (run-followed_by j.P j.Q (graph_of sheet)))

  -- Where the joined edit is carried out, both are, and it leaves the same sheet;
  joined-read : (Z : Edit) → ask_apply sheet joined ≡ passed Z → Sound sheet × ReadFor j (graph_of sheet).n
  joined-read Z e = let (s, f) = applied-read sheet joined Z e in (s, from-joined j (graph_of sheet).n (few s) Z f)

  both-apply : Applies sheet joined → Applies sheet p × Applies (applied_sheet sheet p) q
  unfolding outcome
  both-apply h =
      let (Z, e) = outcome-passed (ask_apply sheet joined) h in
      let (s, r) = joined-read Z e in
      (ap outcome (first-applies s r), ap outcome (second-applies s r))

  pub same-sheet : Applies sheet joined → applied_sheet sheet joined ≡ applied_sheet (applied_sheet sheet p) q
  same-sheet h =
      let (Z, e) = outcome-passed (ask_apply sheet joined) h in
      let (s, r) = joined-read Z e in
      applied-is sheet joined _ (applies sheet joined _ s r.joined-read) ∙ sym (two-leave s r)

  -- and where both are, it is.
  joined-applies : Applies sheet p × Applies (applied_sheet sheet p) q → Applies sheet joined
  unfolding outcome
  joined-applies h =
      let (P, e) = outcome-passed (ask_apply sheet p) h.0 in
      let (Q, f) = outcome-passed (ask_apply (applied_sheet sheet p) q) h.1 in
      let (s, p-read) = applied-read sheet p P e in
      let g : ask_apply (after_steps P sheet) q ≡ passed Q = ap (λ t. ask_apply t q) (sym (applied-is sheet p P e)) ∙ f in
      let q_read : ask_edit (text_limits (graph_of sheet).n) q ≡ passed Q = subst (λ n. ask_edit (text_limits n) q ≡ passed Q) (after-n sheet bytes s p P p-read) (applied-read (after_steps P sheet) q Q g).1 in
      let r = from-both j (graph_of sheet).n (few s) P Q p-read q_read in
      ap outcome (applies sheet joined _ s r.joined-read)

  pub applies_when : Applies sheet joined ↔ (Applies sheet p × Applies (applied_sheet sheet p) q)
  applies_when = (both-apply, joined-applies)
