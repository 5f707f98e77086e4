-- 31 to 33 by the measured size, and writing with the edit without its idle steps.
use mathlib.Core.Path.{◌≡◌, refl, sym, ap, ◌∙◌}
use mathlib.Core.List.{List, [], ◌∷◌}
use Rattle.std.specs.Prelude.{Ok, Err}
use Prim.Native.Nat.{ℕ, ◌≤◌, ◌<◌}
use native.Mathlib.Omega.{arith}
use lib.Dec.{leb}
use lib.ListN.{length}
use borrow.Author.Tests.{le-leb, lt-leb}
use Rattle.answer.specs.Asked.{Asked, passed, refused, ◌>>◌, is}
use Rattle.answer.specs.Answers.{refusal_number_def, refusal_place_def}
use Rattle.answer.specs.declared.Refusal.{Refusal}
use Rattle.answer.specs.declared.Refusal.TheVariants.{CarriedLength, CarriedLevels, OutputLength}
use Rattle.answer.specs.Outputs.{written_at_start}
use Rattle.answer.proofs.AskedLaws.{then-on, then-ends, after_on, after-ends}
use Rattle.logic.specs.Syntax.{rule, Expr, Edit}
use Rattle.logic.specs.Carry.{carried_book}
use Rattle.text.specs.Code.{book_code, book_levels}
use Rattle.text.specs.Reading.{longest_carried, deepest_carried}
use Rattle.tree.specs.Sizes.{measures}
use Rattle.measure.specs.Pruned.{pruned}
use Rattle.ends.specs.Edits.{EditAt}
use Rattle.ends.specs.Books.{BookIs}
use Rattle.measure.specs.Book.{BookSized, BookKept}
use Rattle.measure.proofs.Idle.{pruned-book, kept-stands}
use Rattle.measure.proofs.RuleMeasures.{no-book}
use Rattle.write.specs.Laid.{Wrote}
use Rattle.write.specs.Rules.{SomeBookFits}
use Rattle.write.proofs.Laying.{wrote_as}
use Rattle.write.proofs.Rules.{at_start}
use Rattle.carry.specs.Carrying.{ask_carried, ask_size}
use Rattle.carry.specs.Into.{Into}

module _ (carried : List (Expr rule)) (out : List ℕ) where
  into-refused : (r : Refusal) → ask_size carried (length out) ≡ refused (refusal_number_def r) (refusal_place_def r) → Into carried (Err r) out out
  into-refused r e = record { answer_is = sym (then-ends e _); output_is = sym (after-ends e _ out) }

-- the questions about a length, a number of levels, the length needed and a room
unfoldable pub sized : (len levels needed room : ℕ) → Asked (Unit {0})
sized len levels needed room = (is (leb len longest_carried) 31 0 >> is (leb levels deepest_carried) 32 0) >> is (leb needed room) 33 needed

module _ (len levels needed room : ℕ) where
  pub no-31 : longest_carried < len → sized len levels needed room ≡ refused 31 0
  no-31 h = unfold sized is ◌>>◌ in rw (lt-leb len longest_carried h)

  module _ (h : len ≤ longest_carried) where
    pub no-32 : deepest_carried < levels → sized len levels needed room ≡ refused 32 0
    no-32 k = unfold sized is ◌>>◌ in rw (le-leb len longest_carried h, lt-leb levels deepest_carried k)

    module _ (k : levels ≤ deepest_carried) where
      pub no-33 : room < needed → sized len levels needed room ≡ refused 33 needed
      no-33 i = unfold sized is ◌>>◌ in rw (le-leb len longest_carried h, le-leb levels deepest_carried k, lt-leb needed room i)

      pub all_so : needed ≤ room → sized len levels needed room ≡ passed tt
      all_so i = unfold sized is ◌>>◌ in rw (le-leb len longest_carried h, le-leb levels deepest_carried k, le-leb needed room i)

module _ {Z : Edit} {rules : List (Expr rule)} {len tall : ℕ} (s : BookSized Z rules len tall) (out : List ℕ) where
  abbrev len_of : ℕ
  len_of = length (book_code (carried_book Z rules))

  abbrev levels-of : ℕ
  levels-of = book_levels (carried_book Z rules)

  asks : ask_size (carried_book Z rules) (length out) ≡ sized len_of levels-of len_of (length out)
  asks = unfold ask_carried ask_size sized ◌>>◌ in refl

  -- 31
  pub too_long : longest_carried < len → Into (carried_book Z rules) (Err (CarriedLength 0)) out out
  too_long h = into-refused (carried_book Z rules) out (CarriedLength 0) (asks ∙ no-31 len_of levels-of len_of (length out) (omega (arith, s.len_is)))

  module _ (h : len ≤ longest_carried) where
    len-exact : len ≡ len_of
    len-exact = omega (arith, s.len_is)

    -- 32
    pub too-deep : deepest_carried < tall → Into (carried_book Z rules) (Err (CarriedLevels 0)) out out
    too-deep k = into-refused (carried_book Z rules) out (CarriedLevels 0) (asks ∙ no-32 len_of levels-of len_of (length out) (omega (arith, s.len_is)) (omega (arith, s.tall_is)))

    module _ (k : tall ≤ deepest_carried) where
      -- 33, with the length needed
      pub no_room : length out < len → Into (carried_book Z rules) (Err (OutputLength len)) out out
      no_room i = into-refused (carried_book Z rules) out (OutputLength len) (asks ∙ no-33 len_of levels-of len_of (length out) (omega (arith, s.len_is)) (omega (arith, s.tall_is)) (omega (arith, len-exact)) ∙ ap (refused 33) (sym len-exact))

      module _ (i : len ≤ length out) where
        pub fits_out : len_of ≤ length out
        fits_out = omega (arith, len-exact)

        pub into-written : (n : ℕ) (out' : List ℕ) → n ≡ len_of → out' ≡ written_at_start (book_code (carried_book Z rules)) out → Into (carried_book Z rules) (Ok n) out out'
        into-written n out' l w =
            let e = asks ∙ all_so len_of levels-of len_of (length out) (omega (arith, s.len_is)) (omega (arith, s.tall_is)) fits_out in
            record { answer_is = ap passed l ∙ sym (then-on e _); output_is = w ∙ sym (after_on e _ out) }

-- the empty book
pub empty-into : (book : List ℕ) → length book ≡ 0 → (rules : List (Expr rule)) (Z : Edit) → BookIs book rules → (out : List ℕ) → Into (carried_book Z rules) (Ok 0) out out
empty-into book e rules Z h out =
    let s = (no-book book e rules Z h 0 []).0 in
    let l = len-exact s out (omega arith) in
    into-written s out (omega arith) (omega arith) (omega arith) 0 out l (nothing_written (book_code (carried_book Z rules)) l) where
      nothing_written : (bytes : List ℕ) → 0 ≡ length bytes → out ≡ written_at_start bytes out
      nothing_written [] n = refl
      nothing_written (b ∷ bs) n = absurd (omega (arith, n))

-- any other
module _ {book : List ℕ} (ne : length book ≡ 0 → ⊥) {rules : List (Expr rule)} (h : BookIs book rules) where
  some-rule : length rules ≡ 0 → ⊥
  unfolding book_code
  some-rule = go rules h.is where
    go : (Ks : List (Expr rule)) → book ≡ book_code Ks → length Ks ≡ 0 → ⊥
    go [] e n = ne (ap length e)
    go (K ∷ Ks) e n = omega (arith, n)

  module _ {edit : List ℕ} {Z : Edit} (g : EditAt edit 0 Z) {start : ℕ} {kept : List ℕ} (b : BookKept Z rules start kept) where
    abbrev busy : Edit
    busy = pruned (length rules) Z (measures rules)

    pub busy-at : EditAt kept start busy
    busy-at = record { limits = g.limits; place = kept-stands g.limits Z rules _ _ g.place.range some-rule b }

    pub book-fits : {room : ℕ} → length (book_code (carried_book Z rules)) ≤ room → SomeBookFits book kept start room
    book-fits {room} f = record { rules = rules; is = h; Z = busy; Z-at = busy-at; fits = omega (arith, f, ap (λ (l : List (Expr rule)). length (book_code l)) (pruned-book Z rules)) }

    module _ {out out' : List ℕ} {n : ℕ} (f : (rules : List (Expr rule)) (Z : Edit) → BookIs book rules → EditAt kept start Z → Wrote out 0 (book_code (carried_book Z rules)) n out') where
      pub written-long : n ≡ length (book_code (carried_book Z rules))
      written-long = omega (arith, (f rules busy h busy-at).counted, ap (λ (l : List (Expr rule)). length (book_code l)) (pruned-book Z rules))

      pub written-so : length (book_code (carried_book Z rules)) ≤ length out → out' ≡ written_at_start (book_code (carried_book Z rules)) out
      written-so l = at_start (wrote_as (ap book_code (pruned-book Z rules)) (f rules busy h busy-at)) l
