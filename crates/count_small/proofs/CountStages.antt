-- The questions of counting, in order, by the answers about book and edit and the names in the texts.
use mathlib.Core.Path.{◌≡◌, refl, sym, ◌∙◌}
use mathlib.Core.Bool.{Bool, true, false, ◌&&◌, and-false, and-eq-true_iff}
use mathlib.Core.List.{List}
use Prim.Native.Nat.{ℕ, ◌≤◌, ◌<◌}
use lib.Dec.{leb}
use borrow.Author.Tests.{le-leb, lt-leb, leb-true}
use mathlib.Core.Logic.{◌⊎◌, ⊎_elim}
use Rattle.answer.specs.Asked.{Asked, passed, refused, ◌>>=◌, ◌>>◌, is, outcome, after, asked_number, asked_place}
use Rattle.answer.proofs.AnswerLaws.{Learned, learned, not-learned}
use Rattle.answer.proofs.AskedLaws.{is-then, bind-passed}
use Rattle.text.specs.Reading.{text_limits}
use Rattle.text.specs.Questions.{ask_book, ask_edit}
use Rattle.text.proofs.TextSpelling.{rules-in-range, book-is-spelled, edit-is-spelled, read-edit-stands}
use Rattle.judge.proofs.RulesJudged.{read-book-stands}
use Rattle.count_small.specs.declared.Four.{Four}
use Rattle.count_small.specs.Small.{four_counts}
use Rattle.count_small.specs.Names.{rules_only_first, edit_only_first}
use Rattle.count_small.specs.Questions.{most_small, Texts, ask_count, no_counts, counts_of, ask_four}
use Rattle.count_small.specs.Walk.{walk}
use Rattle.count_small.specs.Counting.{TextsStand}
use Rattle.count_small.proofs.NameWalks.{walk-rules, walk-whole-edit}

module _ (n : ℕ) (book edit : List ℕ) where
  -- 61 for n
  too_few : n < 1 → refused 61 0 ≡ outcome (ask_count n book edit)
  too_few l = unfold ask_count is ◌>>◌ outcome in rw (lt-leb 1 n l)

  too_many : most_small < n → refused 61 0 ≡ outcome (ask_count n book edit)
  too_many l = unfold ask_count is ◌>>◌ outcome in rw (lt-leb n most_small l, and-false (leb 1 n))

  pub out_of_range : (n < 1) ⊎ (most_small < n) → refused 61 0 ≡ outcome (ask_count n book edit)
  out_of_range = ⊎_elim too_few too_many

  module _ (some : 1 ≤ n) (few : n ≤ most_small) where
    pub book-stops : (q p : ℕ) → refused q p ≡ outcome (ask_book (text_limits n) book) → refused q p ≡ outcome (ask_count n book edit)
    book-stops q p e = unfold ask_count is ◌>>◌ ◌>>=◌ outcome in rw (le-leb 1 n some, le-leb n most_small few, not-learned (ask_book (text_limits n) book) q p e)

    module _ (B : Learned (ask_book (text_limits n) book)) where
      pub edit-stops : (q p : ℕ) → refused q p ≡ outcome (ask_edit (text_limits n) edit) → refused q p ≡ outcome (ask_count n book edit)
      edit-stops q p e = unfold ask_count is ◌>>◌ ◌>>=◌ outcome in rw (le-leb 1 n some, le-leb n most_small few, B.is, not-learned (ask_edit (text_limits n) edit) q p e)

      module _ (E : Learned (ask_edit (text_limits n) edit)) where
        book-names : rules_only_first B.what ≡ walk 0 book
        book-names =
            let s = (book-is-spelled (text_limits n) book B.what B.is).spells in
            rw s.text-is (sym (walk-rules (text_limits n).numbers B.what (rules-in-range (text_limits n) B.what s.rules)))

        edit-names : edit_only_first E.what ≡ walk 0 edit
        edit-names =
            let s = edit-is-spelled (text_limits n) edit E.what E.is in
            rw s.text-is (sym (walk-whole-edit (text_limits n).numbers E.what s.within.numbers_fit))

        -- 61 for the names
        pub names-asked : (x y : Bool) → walk 0 book ≡ x → walk 0 edit ≡ y → is (x && y) 61 0 ≡ outcome (ask_count n book edit)
        unfolding ask_count ◌>>=◌ is ◌>>◌ outcome
        names-asked x y p q = rw (le-leb 1 n some, le-leb n most_small few, B.is, E.is, book-names, edit-names, p, q) (last (x && y) _) where
          last : (b : Bool) (t : Texts) → is b 61 0 ≡ outcome (is b 61 0 >> passed t)
          last true t = refl
          last false t = refl

  -- What is known once they have passed.
  pub record Ready : Type 0 where
    pub texts : Texts
    pub is_read : ask_count n book edit ≡ passed texts
    pub some : 1 ≤ n
    pub few : n ≤ most_small
    pub stand : TextsStand n book edit texts.rules texts.edit

  pub found : passed tt ≡ outcome (ask_count n book edit) → Ready
  unfolding ask_count
  found e =
      let q = learned (ask_count n book edit) e in
      let (range, from-book) = is-then (leb 1 n && leb n most_small) 61 0 _ q.is in
      let (rules, book_read, from-edit) = bind-passed (ask_book (text_limits n) book) _ q.what from-book in
      let (Z, edit_read, from-names) = bind-passed (ask_edit (text_limits n) edit) _ q.what from-edit in
      let (names, same) = is-then (rules_only_first rules && edit_only_first Z) 61 0 _ from-names in
      let counts = (and-eq-true_iff (leb 1 n) (leb n most_small)).0 range in
      record {
        texts = record { rules = rules; edit = Z };
        is_read = q.is ∙ sym same;
        some = leb-true 1 n counts.0;
        few = leb-true n most_small counts.1;
        stand = record { rules_stand = read-book-stands (text_limits n) book_read; edit_stands = read-edit-stands (text_limits n) edit_read; first = ((and-eq-true_iff (rules_only_first rules) (edit_only_first Z)).0 names).1 };
      }

  -- The answer's number and place, and the counts, 0 after a refusal.
  of_passed : (a : Asked Texts) (f : Four) → passed f ≡ (a >>= λ t. passed (four_counts n t.rules t.edit)) → (asked_number a ≡ 0) × (asked_place a ≡ 0) × (after a (λ t. four_counts n t.rules t.edit) no_counts ≡ f)
  unfolding ◌>>=◌ asked_number asked_place after
  of_passed (passed t) f e = (refl, refl, cc)
  of_passed (refused q p) f e = ((cc), (cc), (cc))

  of_refused : (a : Asked Texts) (q p : ℕ) → refused q p ≡ (a >>= λ t. passed (four_counts n t.rules t.edit)) → (asked_number a ≡ q) × (asked_place a ≡ p) × (after a (λ t. four_counts n t.rules t.edit) no_counts ≡ no_counts)
  unfolding ◌>>=◌ asked_number asked_place after
  of_refused (passed t) q p e = ((cc), (cc), (cc))
  of_refused (refused r s) q p e = ((cc), (cc), refl)

  pub counts-are : (f : Four) → passed f ≡ ask_four n book edit → (asked_number (ask_count n book edit) ≡ 0) × (asked_place (ask_count n book edit) ≡ 0) × (counts_of n book edit ≡ f)
  counts-are f e = unfold ask_four counts_of in of_passed (ask_count n book edit) f e

  pub refused_none : (q p : ℕ) → refused q p ≡ ask_four n book edit → (asked_number (ask_count n book edit) ≡ q) × (asked_place (ask_count n book edit) ≡ p) × (counts_of n book edit ≡ no_counts)
  refused_none q p e = unfold ask_four counts_of in of_refused (ask_count n book edit) q p e
