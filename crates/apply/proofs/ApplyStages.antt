-- Apply's answer and sheet, from the answers about sheet and edit.
use mathlib.Core.Path.{◌≡◌, sym, ap, ◌∙◌, subst}
use mathlib.Core.List.{List}
use Prim.Native.Nat.{ℕ}
use Rattle.answer.specs.declared.Refusal.{Refusal}
use Rattle.answer.specs.declared.Answer.{Answer}
use Rattle.answer.specs.declared.Answer.TheVariants.{Done, Refused}
use Rattle.answer.specs.Asked.{Asked, passed, refused, ◌>>◌, after, outcome}
use Rattle.answer.specs.Answers.{asked, refusal_number_def, refusal_place_def}
use Rattle.answer.proofs.AnswerLaws.{Learned, learned, not-learned}
use Rattle.logic.specs.Syntax.{Edit}
use Rattle.logic.specs.Limits.{ranges}
use Rattle.sheet.specs.Sheet.{graph_of}
use Rattle.sheet.specs.Questions.{ask_sheet, Sound}
use Rattle.text.specs.Reading.{text_limits}
use Rattle.text.specs.Questions.{ask_edit}
use Rattle.text.specs.Stands.{EditStands, SomeEditStands}
use Rattle.text.proofs.TextSpelling.{read-edit-stands}
use Rattle.apply.specs.Apply.{after_steps, ask_apply, applied_sheet}
use Rattle.apply.specs.Made.{Made}

-- Answer and sheet are as the contract says.
pub record Applied (sheet edit : List ℕ) (a : Answer) (now : List ℕ) : Type 0 where
  pub answer : asked a ≡ outcome (ask_apply sheet edit)
  pub sheet_is : now ≡ applied_sheet sheet edit

pub sheet-sound : (sheet : List ℕ) (a : Answer) → asked a ≡ ask_sheet sheet → a ≡ Done → Sound sheet
sheet-sound sheet a s e = sym s ∙ ap asked e

module _ (sheet edit : List ℕ) where
  -- a refusal leaves the sheet
  stays : (a : Answer) (r : Refusal) → a ≡ Refused r → ask_apply sheet edit ≡ refused (refusal_number_def r) (refusal_place_def r) → Applied sheet edit a sheet
  unfolding outcome applied_sheet after
  stays a r e q = record { answer = ap asked e ∙ ap outcome (sym q); sheet_is = ap (λ (x : Asked Edit). after x (λ Z. after_steps Z sheet) sheet) (sym q) }

  pub sheet-refused : (a : Answer) (r : Refusal) → asked a ≡ ask_sheet sheet → a ≡ Refused r → Applied sheet edit a sheet
  sheet-refused a r s e = unfold ask_apply ◌>>◌ in stays a r e (ap (◌>> ask_edit (text_limits (graph_of sheet).n) edit) (sym s ∙ ap asked e))

  module _ (sound : Sound sheet) (n : ℕ) (count : n ≡ (graph_of sheet).n) where
    asks-edit : ask_apply sheet edit ≡ ask_edit (text_limits n) edit
    asks-edit = unfold ask_apply ◌>>◌ in ap (◌>> ask_edit (text_limits (graph_of sheet).n) edit) sound ∙ ap (λ (m : ℕ). ask_edit (text_limits m) edit) (sym count)

    pub edit-refused : (b : Answer) (r : Refusal) → asked b ≡ outcome (ask_edit (text_limits n) edit) → b ≡ Refused r → Applied sheet edit b sheet
    edit-refused b r s e = stays b r e (asks-edit ∙ not-learned (ask_edit (text_limits n) edit) (refusal_number_def r) (refusal_place_def r) (sym (ap asked e) ∙ s))

    -- The edit that was read.
    reads : (b : Answer) → asked b ≡ outcome (ask_edit (text_limits n) edit) → b ≡ Done → Learned (ask_edit (text_limits n) edit)
    reads b s e = learned (ask_edit (text_limits n) edit) (sym (ap asked e) ∙ s)

    abbrev Stands : Edit → Type 0
    Stands Z = EditStands (ranges (graph_of sheet).n) edit 0 Z

    stands : (q : Learned (ask_edit (text_limits n) edit)) → Stands q.what
    stands q = subst (λ (m : ℕ). EditStands (ranges m) edit 0 q.what) count (read-edit-stands (text_limits n) q.is)

    module _ (b : Answer) (s : asked b ≡ outcome (ask_edit (text_limits n) edit)) (e : b ≡ Done) where
      pub edit_stands : SomeEditStands (ranges (graph_of sheet).n) edit 0
      edit_stands = record { what = (reads b s e).what; stands = stands (reads b s e) }

      pub edit-made : (next : ℕ) (now : List ℕ) → ((Z : Edit) → Stands Z → Made 0 Z next sheet now) → Applied sheet edit Done now
      unfolding outcome applied_sheet after
      edit-made next now f =
          let q = reads b s e in let a : ask_apply sheet edit ≡ passed q.what = asks-edit ∙ q.is in
          record { answer = ap outcome (sym a); sheet_is = (f q.what (stands q)).sheet_is ∙ ap (λ (x : Asked Edit). after x (λ Z. after_steps Z sheet) sheet) (sym a) }
