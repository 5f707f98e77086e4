-- A book carried back through the joined edit, and through Q and then P.
use mathlib.Core.Path.{◌≡◌, refl, sym, ◌∙◌, ap, ap₂}
use mathlib.Core.List.{List, [], ◌∷◌}
use Prim.Native.Nat.{ℕ, ◌≤◌}
use native.Mathlib.Omega.{arith}
use lib.ListN.{length, length-map}
use borrow.Author.Tests.{le-leb}
use Rattle.answer.specs.Asked.{passed, ◌>>=◌, ◌>>◌, is}
use Rattle.answer.specs.Outputs.{written_length, written_output}
use Rattle.answer.proofs.OutputLaws.{is-written}
use Rattle.logic.specs.Syntax.{Expr, rule, Edit}
use Rattle.logic.specs.Carry.{carry, carried_book, followed_by}
use Rattle.logic.specs.Limits.{max_nodes, EditInRange}
use Rattle.logic.proofs.Theorem.{carry-followed_by}
use Rattle.text.specs.Code.{book_code, book_levels}
use Rattle.text.specs.Reading.{Limits, text_limits}
use Rattle.text.specs.Questions.{ask_book, ask_edit}
use Rattle.text.proofs.TextSpelling.{EachAllowed, SpellsBook, book-is-spelled, spelled-book-passes, edit-is-spelled}
use Rattle.text.proofs.CarriedRanges.{carry-in}
use Rattle.carry.specs.Carrying.{ask_carried, ask_size, ask_carry, carry_answer, carry_output}
use Rattle.join_edits.proofs.JoinedPasses.{Joins}
use Rattle.promises.specs.Chained.{CarriedThrough, IsCarried}
use Rattle.promises.proofs.JoinedReading.{read-for-60}

-- The law of joined edits, along a book.
book-followed_by : (P Q : Edit) (rules : List (Expr rule)) → carried_book (followed_by P Q) rules ≡ carried_book P (carried_book Q rules)
book-followed_by P Q [] = refl
book-followed_by P Q (K ∷ Ks) = ap₂ ◌∷◌ (carry-followed_by P Q K) (book-followed_by P Q Ks)

-- the questions of carry back once book and edit are read
asked-so : (book edit : List ℕ) (room : ℕ) (rules : List (Expr rule)) (Z : Edit) → ask_book (text_limits max_nodes) book ≡ passed rules → ask_edit (text_limits max_nodes) edit ≡ passed Z
    → ask_carry book edit room ≡ (ask_size (carried_book Z rules) room >> passed (book_code (carried_book Z rules)))
asked-so book edit room rules Z e f = unfold ask_carry ◌>>=◌ in rw (e, f)

-- Carried rules no deeper than the limit are within the limits.
each-carried : (l : Limits) (Q : Edit) → EditInRange l.numbers Q → (rules : List (Expr rule)) → EachAllowed l rules → book_levels (carried_book Q rules) ≤ l.deepest → EachAllowed l (carried_book Q rules)
unfolding book_levels
each-carried l Q z [] h d = tt
each-carried l Q z (K ∷ Ks) h d =
    (record { numbers_fit = carry-in l.numbers Q K z h.0.numbers_fit; levels-fit = omega (arith, d) }, each-carried l Q z Ks h.1 (omega (arith, d)))

module _ {book q text : List ℕ} (c : CarriedThrough book q text) where
  abbrev pub carried_rules : List (Expr rule)
  carried_rules = carried_book c.Q c.rules

  -- The text keeps a book's own limits: 32 rules and the ranges follow.
  pub text-passes : ask_book (text_limits max_nodes) text ≡ passed carried_rules
  text-passes =
      let s : SpellsBook (text_limits max_nodes) book c.rules = book-is-spelled (text_limits max_nodes) book c.rules c.book_read in
      let z = edit-is-spelled (text_limits max_nodes) q c.Q c.q_read in
      spelled-book-passes (text_limits max_nodes) text carried_rules
      (record {
        short = c.short;
        spells = record {
          text-is = c.is;
          few = omega (arith, s.spells.few, length-map c.rules (carry c.Q));
          rules = each-carried (text_limits max_nodes) c.Q z.within.numbers_fit c.rules s.spells.rules c.shallow;
        };
      })

  asks : (room : ℕ) → length text ≤ room → ask_carry book q room ≡ passed text
  unfolding ask_carry ask_carried ask_size ◌>>=◌ ◌>>◌ is
  asks room h =
      let l : length (book_code carried_rules) ≡ length text = sym (ap length c.is) in
      rw (c.book_read, c.q_read, le-leb (length (book_code carried_rules)) 16384 (omega (arith, l, c.short)), le-leb (book_levels carried_rules) 255 (omega (arith, c.shallow)), le-leb (length (book_code carried_rules)) room (omega (arith, l, h)))
      (ap passed (sym c.is))

  pub is_carried : IsCarried book q text
  unfolding carry_answer carry_output
  is_carried = record {
    answer = λ room h. sym (is-written (ask_carry book q room) [] text _ (asks room h) refl).0;
    output = λ output h. sym (is-written (ask_carry book q (length output)) output text _ (asks (length output) h) refl).1;
  }

  module _ {p joined : List ℕ} (j : Joins p q joined) (room : ℕ) where
    -- THE SAME QUESTIONS: carry back of the book through the joined edit, and of the text through P.
    same_asked : ask_carry book joined room ≡ ask_carry text p room
    same_asked = through-joined ∙ ap (λ rules. ask_size rules room >> passed (book_code rules)) same ∙ sym through-p where
      same : carried_book (followed_by j.P j.Q) c.rules ≡ carried_book j.P carried_rules
      same = let e : j.Q ≡ c.Q = cc in book-followed_by j.P j.Q c.rules ∙ ap (λ Q. carried_book j.P (carried_book Q c.rules)) e

      through-joined : ask_carry book joined room ≡ (ask_size (carried_book (followed_by j.P j.Q) c.rules) room >> passed (book_code (carried_book (followed_by j.P j.Q) c.rules)))
      through-joined = asked-so book joined room c.rules _ c.book_read (read-for-60 j).joined-read

      through-p : ask_carry text p room ≡ (ask_size (carried_book j.P carried_rules) room >> passed (book_code (carried_book j.P carried_rules)))
      through-p = asked-so text p room carried_rules _ text-passes j.p-read

    pub same_answer : carry_answer book joined room ≡ carry_answer text p room
    same_answer = unfold carry_answer in ap written_length same_asked

  pub same_output : {p joined : List ℕ} → Joins p q joined → (output : List ℕ) → carry_output book joined output ≡ carry_output text p output
  same_output j output = unfold carry_output in ap (λ x. written_output x output) (same_asked j (length output))
