-- 31 to 33 by the measured sizes, and then the rules one by one, with the edit without its idle steps.
use mathlib.Core.Path.{◌≡◌, refl, sym, ap, ◌∙◌}
use mathlib.Core.List.{List, [], append-nil}
use Prim.Native.Nat.{ℕ, ◌≤◌, ◌<◌}
use native.Mathlib.Omega.{arith}
use lib.ListN.{length}
use Rattle.answer.specs.Asked.{passed, refused, ◌>>◌, after}
use Rattle.answer.specs.Answers.{refusal_number_def, refusal_place_def}
use Rattle.answer.specs.declared.Refusal.{Refusal}
use Rattle.answer.specs.declared.Refusal.TheVariants.{CarriedLength, CarriedLevels, OutputLength}
use Rattle.answer.specs.declared.Answer.{Answer}
use Rattle.answer.specs.declared.Answer.TheVariants.{Done, Refused}
use Rattle.logic.specs.Syntax.{rule, Expr, Edit}
use Rattle.logic.specs.Graph.{Graph}
use Rattle.logic.specs.Carry.{carried_book}
use Rattle.logic.specs.Limits.{ranges}
use Rattle.text.specs.Code.{book_code, book_levels}
use Rattle.text.specs.Reading.{longest_carried, deepest_carried}
use Rattle.tree.specs.Sizes.{measures}
use Rattle.ends.specs.Edits.{EditAt}
use Rattle.ends.specs.Books.{BookIs}
use Rattle.measure.specs.Pruned.{pruned}
use Rattle.measure.specs.Book.{BookSized, BookKept}
use Rattle.measure.proofs.Idle.{pruned-codes}
use Rattle.write.specs.Rules.{SomeBookFits}
use Rattle.carry.proofs.CarriedSizes.{no-31, no-32, no-33, all_so, book-fits}
use Rattle.carry.proofs.CarriedSizes as carry
use Rattle.judge.specs.Questions.{ask_rules}
use Rattle.judge.specs.Judging.{RulesStand}
use Rattle.judge.proofs.RulesJudged.{none_left}
use Rattle.runs.specs.Scratch.{longest, longest_rule_def, ask_scratch, up_to_broken, overwritten}
use Rattle.runs.proofs.ScratchLaws.{longest-short, split, scratch_is}
use Rattle.enter_edit.specs.Singly.{BothRead, Singly, EachFits, EachJudged}

module _ (g : Graph) (carried : List (Expr rule)) (scratch : List ℕ) where
  stops : {r : Refusal} → ask_scratch carried (length scratch) ≡ refused (refusal_number_def r) (refusal_place_def r) → Singly g carried (Refused r) scratch scratch
  stops e = unfold ◌>>◌ after in record { answer_is = rw e; scratch_is = rw e }

  goes_on : ask_scratch carried (length scratch) ≡ passed tt → {a : Answer} {scratch' : List ℕ} → EachJudged g carried a scratch scratch' → Singly g carried a scratch scratch'
  goes_on e j = unfold ◌>>◌ after in record { answer_is = rw e j.answer_is; scratch_is = rw e j.scratch_is }

-- What was read.
module _ {n : ℕ} {book edit : List ℕ} {rules : List (Expr rule)} {Z : Edit} (b : BothRead (ranges n) book edit rules Z) where
  abbrev carried : List (Expr rule)
  carried = carried_book Z rules

  pub book-is : BookIs book rules
  book-is = record { limits = ranges n; is = b.is; range = b.range; few = b.few }

  pub edit-at : EditAt edit 0 Z
  edit-at = record { limits = ranges n; place = b.stands }

  pub rules_stand : RulesStand (ranges n) book 0 (length book) rules
  rules_stand = record { rest = []; here = b.is ∙ sym (append-nil (book_code rules)); ends = omega (arith, ap length b.is); range = b.range }

  -- the empty book
  pub nothing-judged : length book ≡ 0 → (g : Graph) (scratch : List ℕ) → Singly g carried Done scratch scratch
  unfolding ask_rules longest up_to_broken overwritten book_code book_levels
  nothing-judged e g scratch =
      rw (none_left n book 0 (length book) rules rules_stand (omega (arith, e)))
      (goes_on g [] scratch (scratch_is [] (length scratch) ∙ all_so _ _ _ _ (omega arith) (omega arith) (omega arith)) (record { answer_is = refl; scratch_is = refl }))

  -- The sizes of the carried book, measured, and the edit without its idle steps, kept.
  module _ {len tall start : ℕ} {kept : List ℕ}
      (m : (rules : List (Expr rule)) (Z : Edit) → BookIs book rules → EditAt edit 0 Z → BookSized Z rules len tall × BookKept Z rules start kept) where
    abbrev sizes : BookSized Z rules len tall
    sizes = (m rules Z book-is edit-at).0

    pub too_long : longest_carried < len → (g : Graph) (scratch : List ℕ) → Singly g carried (Refused (CarriedLength 0)) scratch scratch
    too_long h g scratch = stops g carried scratch (scratch_is carried (length scratch) ∙ no-31 _ _ _ _ (omega (arith, sizes.len_is)))

    module _ (l : len ≤ longest_carried) where
      len-exact : len ≡ length (book_code carried)
      len-exact = omega (arith, sizes.len_is)

      short : length (book_code carried) ≤ longest_carried
      short = omega (arith, sizes.len_is)

      pub too-deep : deepest_carried < tall → (g : Graph) (scratch : List ℕ) → Singly g carried (Refused (CarriedLevels 0)) scratch scratch
      too-deep h g scratch = stops g carried scratch (scratch_is carried (length scratch) ∙ no-32 _ _ _ _ short (omega (arith, sizes.tall_is)))

      module _ (ne : length book ≡ 0 → ⊥) where
        abbrev busy : Edit
        busy = pruned (length rules) Z (measures rules)

        busy-at : EditAt kept start busy
        busy-at = carry.busy-at ne book-is edit-at (m rules Z book-is edit-at).1

        pub busy-fits : SomeBookFits book kept start longest_carried
        busy-fits = book-fits ne book-is edit-at (m rules Z book-is edit-at).1 short

        -- and the room that is needed
        module _ (t : tall ≤ deepest_carried) {needed room : ℕ}
            (r : (len ≤ room → needed ≡ len)
            × (room < len → (rules : List (Expr rule)) (Z : Edit) → BookIs book rules → EditAt kept start Z → needed ≡ longest_rule_def (carried_book Z rules))) where
          shallow : book_levels carried ≤ deepest_carried
          shallow = omega (arith, sizes.tall_is)

          longest-needed : room < len → needed ≡ longest_rule_def carried
          longest-needed h = r.1 h rules busy book-is busy-at ∙ ap longest (pruned-codes Z rules)

          fits : needed ≤ room → longest_rule_def carried ≤ room
          fits i = split len room (λ h. omega (arith, longest-short carried, len-exact, h)) (λ h. omega (arith, longest-needed h, i))

          pub no_room : (g : Graph) (scratch : List ℕ) → room ≡ length scratch → room < needed → Singly g carried (Refused (OutputLength needed)) scratch scratch
          no_room g scratch e i =
              split len room (λ h. absurd (omega (arith, r.0 h, h, i)))
              (λ h. stops g carried scratch
              (scratch_is carried (length scratch) ∙ no-33 _ _ _ _ short shallow (omega (arith, longest-needed h, i, e)) ∙ ap (refused 33) (sym (longest-needed h))))

          pub each_fits : needed ≤ room → EachFits (ranges n) book kept start room rules Z
          each_fits i = record { stand = rules_stand; what = busy; what_at = busy-at; same = pruned-codes Z rules; range = b.stands.range; fits = fits i }

          pub judged : {g : Graph} {scratch : List ℕ} → room ≡ length scratch → needed ≤ room → {a : Answer} {scratch' : List ℕ} → EachJudged g carried a scratch scratch' → Singly g carried a scratch scratch'
          judged {g} {scratch} e i j = goes_on g carried scratch (scratch_is carried (length scratch) ∙ all_so _ _ _ _ short shallow (omega (arith, fits i, e))) j
