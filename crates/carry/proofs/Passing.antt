-- What the questions of a book and an edit mean for their texts, and carry back by its questions.
use mathlib.Core.Path.{◌≡◌, refl, sym, ap, ◌∙◌}
use mathlib.Core.List.{List}
use Rattle.std.specs.Prelude.{Result, Err}
use Prim.Native.Nat.{ℕ, ◌≤◌}
use lib.ListN.{length}
use Rattle.answer.specs.Asked.{Asked, passed, refused, ◌>>=◌, ◌>>◌, after, outcome}
use Rattle.answer.specs.Answers.{refusal_number_def, refusal_place_def, result_asked}
use Rattle.answer.specs.declared.Refusal.{Refusal}
use Rattle.answer.specs.Outputs.{written_at_start, written_length, written_output}
use Rattle.answer.proofs.AnswerLaws.{Learned, learned, not-learned}
use Rattle.answer.proofs.OutputLaws.{not_written}
use Rattle.logic.specs.Syntax.{rule, Expr, Edit}
use Rattle.logic.specs.Carry.{carried_book}
use Rattle.logic.specs.Limits.{max_nodes}
use Rattle.text.specs.Code.{book_code}
use Rattle.text.specs.Reading.{longest_text, text_limits}
use Rattle.text.specs.Questions.{ask_book, ask_edit}
use Rattle.text.proofs.TextSpelling.{edit-is-spelled, read-edit-stands}
use Rattle.ends.specs.Edits.{EditAt, SomeEdit}
use Rattle.ends.specs.Books.{BookIs, SomeBook}
use Rattle.ends.proofs.RulePlaces.{book-passed}
use Rattle.carry.specs.Carrying.{ask_size, ask_carry, carry_answer, carry_output}
use Rattle.carry.specs.Into.{Into}

-- an edit that has passed, whatever n
module _ (n : ℕ) {t : List ℕ} where
  pub edit-passed : {Z : Edit} → ask_edit (text_limits n) t ≡ passed Z → EditAt t 0 Z × (length t ≤ longest_text)
  edit-passed {Z} h = let s = edit-is-spelled (text_limits n) t Z h in (record { limits = (text_limits n).numbers; place = read-edit-stands (text_limits n) h }, s.short)

-- the resulting bytes once the size has passed
length-of : (q : Asked (Unit {0})) (bytes : List ℕ) → (q >> passed (length bytes)) ≡ ((q >> passed bytes) >>= (λ b. passed (length b)))
unfolding ◌>>◌ ◌>>=◌
length-of (passed u) bytes = refl
length-of (refused n p) bytes = refl

output-of : (q : Asked (Unit {0})) (bytes out : List ℕ) → after q (λ u. written_at_start bytes out) out ≡ after (q >> passed bytes) (λ b. written_at_start b out) out
unfolding ◌>>◌ after
output-of (passed u) bytes out = refl
output-of (refused n p) bytes out = refl

-- Carry back, by its answer.
module _ (book edit out : List ℕ) where
  abbrev Back : Result ℕ Refusal → List ℕ → Type 0
  Back r out' = (result_asked r ≡ carry_answer book edit (length out)) × (out' ≡ carry_output book edit out)

  refused-back : (r : Refusal) → ask_carry book edit (length out) ≡ refused (refusal_number_def r) (refusal_place_def r) → Back (Err r) out
  refused-back r e = unfold carry_answer carry_output in not_written (ask_carry book edit (length out)) out (refusal_number_def r) (refusal_place_def r) e

  pub book-refused : (r : Refusal) → refused (refusal_number_def r) (refusal_place_def r) ≡ outcome (ask_book (text_limits max_nodes) book) → Back (Err r) out
  book-refused r e = unfold ask_carry ◌>>=◌ in refused-back r (rw (not-learned _ _ _ e))

  module _ (b : passed tt ≡ outcome (ask_book (text_limits max_nodes) book)) where
    rules : Learned (ask_book (text_limits max_nodes) book)
    rules = learned (ask_book (text_limits max_nodes) book) b

    pub edit-refused : (r : Refusal) → refused (refusal_number_def r) (refusal_place_def r) ≡ outcome (ask_edit (text_limits max_nodes) edit) → Back (Err r) out
    edit-refused r e = unfold ask_carry ◌>>=◌ in refused-back r (rw (rules.is, not-learned _ _ _ e))

    module _ (e : passed tt ≡ outcome (ask_edit (text_limits max_nodes) edit)) where
      Z : Learned (ask_edit (text_limits max_nodes) edit)
      Z = learned (ask_edit (text_limits max_nodes) edit) e

      pub both_read : SomeBook book × SomeEdit edit 0 × (length edit ≤ longest_text)
      both_read = let s = edit-passed max_nodes Z.is in (record { what = rules.what; is = book-passed (text_limits max_nodes) rules.is }, record { what = Z.what; stands = s.0 }, s.1)

      asks : ask_carry book edit (length out) ≡ (ask_size (carried_book Z.what rules.what) (length out) >> passed (book_code (carried_book Z.what rules.what)))
      asks = unfold ask_carry ◌>>=◌ in rw (rules.is, Z.is)

      pub into_back : {r : Result ℕ Refusal} {out' : List ℕ} → ((rules : List (Expr rule)) (Z : Edit) → BookIs book rules → EditAt edit 0 Z → Into (carried_book Z rules) r out out') → Back r out'
      unfolding carry_answer carry_output written_length written_output
      into_back f =
          let i = f rules.what Z.what (book-passed (text_limits max_nodes) rules.is) (edit-passed max_nodes Z.is).0 in
          let q = ask_size (carried_book Z.what rules.what) (length out) in
          let bytes = book_code (carried_book Z.what rules.what) in
          (i.answer_is ∙ length-of q bytes ∙ sym (ap (λ (x : Asked (List ℕ)). x >>= (λ b. passed (length b))) asks), i.output_is ∙ output-of q bytes out ∙ sym (ap (λ (x : Asked (List ℕ)). after x (λ b. written_at_start b out) out) asks))
