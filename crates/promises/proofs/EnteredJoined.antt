-- Entering the joined edit.
use mathlib.Core.Path.{◌≡◌, sym, ◌∙◌, ap, subst}
use mathlib.Core.Logic.{◌↔◌}
use mathlib.Core.List.{List}
use Prim.Native.Nat.{ℕ}
use Rattle.answer.specs.Asked.{passed, outcome}
use Rattle.apply.specs.Apply.{after_steps, applied_sheet}
use Rattle.runs.specs.Enter.{ask_before41, enter_answer, enter_sheet}
use Rattle.bitset.specs.Words.{Bytes}
use Rattle.runs.specs.Run.{Keeps, Given}
use Rattle.runs.proofs.After.{applied-is, applies}
use Rattle.runs.proofs.Demand3.{demand_3, entered-keeps, given-room, entered-given, entered-applied, entered-kept}
use Rattle.join_edits.proofs.JoinedPasses.{Joins}
use Rattle.promises.proofs.EventBytes.{enter-bytes}
use Rattle.promises.proofs.JoinedCarriedOut.{same-sheet}

module _ {p q joined : List ℕ} (j : Joins p q joined) (sheet book : List ℕ) (room : ℕ) (bytes : Bytes sheet) where
  -- Its steps leave what the two, carried out one after the other, leave.
  steps-leave : (i : Given book joined sheet) → after_steps i.steps sheet ≡ applied_sheet (applied_sheet sheet p) q
  unfolding outcome
  steps-leave i = let a = applies sheet joined i.steps i.sound i.edit_read in sym (applied-is sheet joined i.steps a) ∙ same-sheet j sheet bytes (ap outcome a)

  pub joined-leaves : enter_answer sheet book joined room ≡ passed tt → enter_sheet sheet book joined room ≡ applied_sheet (applied_sheet sheet p) q
  joined-leaves e = let i = (entered-given sheet book joined room bytes e).given in demand_3.entered_leaves i room e ∙ steps-leave i

  module _ (asked : outcome (ask_before41 sheet book joined room) ≡ passed tt) where
    pub joined-when : (enter_answer sheet book joined room ≡ passed tt) ↔ Keeps book (applied_sheet (applied_sheet sheet p) q)
    joined-when =
        let g = given-room sheet book joined room bytes asked in
        subst (λ t. (enter_answer sheet book joined room ≡ passed tt) ↔ Keeps book t) (steps-leave g.given) (entered-keeps g.given room g.fits)

    -- P and Q entered one after the other
    pub one_by_one : (room₁ room₂ : ℕ) → enter_answer sheet book p room₁ ≡ passed tt → enter_answer (enter_sheet sheet book p room₁) book q room₂ ≡ passed tt
        → (enter_answer sheet book joined room ≡ passed tt) × (enter_sheet sheet book joined room ≡ enter_sheet (enter_sheet sheet book p room₁) book q room₂)
    one_by_one room₁ room₂ e f =
        let between = enter_sheet sheet book p room₁ in
        let b : Bytes between = enter-bytes sheet book p room₁ bytes in
        let same : enter_sheet between book q room₂ ≡ applied_sheet (applied_sheet sheet p) q = entered-applied between book q room₂ b f ∙ ap (λ t. applied_sheet t q) (entered-applied sheet book p room₁ bytes e) in
        let done = joined-when.1 (subst (Keeps book) same (entered-kept between book q room₂ b f)) in
        (done, joined-leaves done ∙ sym same)
