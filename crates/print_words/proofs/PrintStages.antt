-- The calls that print words, by the question at which they stop.
use mathlib.Core.Path.{◌≡◌, refl, sym, ◌∙◌, ap, subst}
use mathlib.Core.List.{List}
use Prim.Native.Nat.{ℕ, ◌≤◌}
use native.Mathlib.Omega.{arith}
use lib.ListN.{length, take}
use Rattle.answer.specs.Asked.{Asked, passed, refused, ◌>>=◌, ◌>>◌, outcome}
use Rattle.answer.specs.Outputs.{ask_room, written_length, written_output}
use Rattle.answer.proofs.AnswerLaws.{learned}
use Rattle.answer.proofs.AskedLaws.{bind-on, bind-ends, then-on, then-ends}
use Rattle.text.specs.Reading.{most_rules, longest_carried}
use Rattle.text.specs.Questions.{ask_book, ask_first, ask_edit}
use Rattle.text.proofs.TextSpelling.{book-is-spelled, edit-is-spelled, first-is-spelled}
use Rattle.names.specs.Names.{Entry, name_in, ask_names}
use Rattle.notation.specs.Layout.{laid}
use Rattle.notation.specs.Words.{word_limits, rule_limits, book_goals, edit_goals, rule_goals, ask_book_to_words, ask_edit_to_words, ask_rule_to_words}
use Rattle.name_table.specs.NameSlots.{Holds, Held}
use Rattle.keywords.specs.Rows.{slot_of, level_of, goal_of, goals_of, row_goals}
use Rattle.print_words.specs.Printable.{Printable}
use Rattle.print_words.specs.Printed.{printed, ask_to_words}
use Rattle.print_words.proofs.TextsPrintable.{book-printable, edit-printable, rule-printable, rule-spelled}

-- The rows with which printing starts: nothing before the rules of a book, steps up to the text's end, a rule.
pub book-row : row_goals 0 1 ≡ book_goals
book-row = unfold goals_of in refl

pub edit-row : row_goals 16 1 ≡ edit_goals
edit-row = unfold goals_of goal_of slot_of level_of in refl

pub rule-row : row_goals 17 1 ≡ rule_goals
rule-row = unfold goals_of goal_of slot_of level_of in refl

-- What a call answers and writes, with the same questions in another form.
pub answered-as : {q q' : Asked (List ℕ)} → q ≡ q' → (output : List ℕ) {r : Asked ℕ} {last : List ℕ}
    → (r ≡ written_length q) × (last ≡ written_output q output) → (r ≡ written_length q') × (last ≡ written_output q' output)
answered-as e output a = (a.0 ∙ ap written_length e, a.1 ∙ ap (λ q. written_output q output) e)

pub holds-names : (names : List ℕ) {es : List Entry} → ask_names names ≡ passed es → {table : List ℕ} → Held (ask_names names) table → Holds table (name_in es)
holds-names names e {table} h = unfold Held in subst (λ q. Held q table) e h

module _ (names : List ℕ) (text : Asked (Unit {0})) (codes : List ℕ) (start rules room : ℕ) where
  -- 63
  pub names-refused : {q p : ℕ} → ask_names names ≡ refused q p → ask_to_words names text codes start rules room ≡ refused q p
  names-refused e = unfold ask_to_words in bind-ends e _

  module _ {es : List Entry} (e : ask_names names ≡ passed es) where
    -- the text's own questions
    pub text-refused : {q p : ℕ} → text ≡ refused q p → ask_to_words names text codes start rules room ≡ refused q p
    text-refused f = unfold ask_to_words in bind-on e _ ∙ then-ends f _

    pub to_room : text ≡ passed tt → ask_room (printed (name_in es) codes start rules) room ≡ ask_to_words names text codes start rules room
    to_room f = unfold ask_to_words in sym (bind-on e _ ∙ then-on f _)

-- Questions of which only the outcome matters.
bind-same : {A B : Type 0} (x : Asked A) (f g : A → Asked B) → ((a : A) → f a ≡ g a) → (x >>= f) ≡ (x >>= g)
unfolding ◌>>=◌
bind-same (passed a) f g e = e a
bind-same (refused q p) f g e = refl

outcome-then : {A B : Type 0} (x : Asked A) (y : Asked B) → (outcome x >> y) ≡ (x >> y)
unfolding outcome ◌>>◌
outcome-then (passed a) y = refl
outcome-then (refused q p) y = refl

outcome-on : {A B : Type 0} (x : Asked A) (y : Asked B) (f : A → Asked B) → ((a : A) → x ≡ passed a → y ≡ f a) → (outcome x >> y) ≡ (x >>= f)
unfolding outcome ◌>>◌ ◌>>=◌
outcome-on (passed a) y f e = e a refl
outcome-on (refused q p) y f e = refl

-- The text's own questions are those about a book, an edit or a first rule: what passes them can be printed.
abbrev Prints : (text : Asked (Unit {0})) (codes : List ℕ) (start rules : ℕ) → Type 0
Prints text codes start rules = text ≡ passed tt → Printable rule_limits codes (row_goals start 1) rules × (length codes ≤ longest_carried)

module _ {text : Asked (Unit {0})} (book : List ℕ) (e : text ≡ outcome (ask_book word_limits book)) where
  pub book-prints : Prints text book 0 most_rules
  book-prints h = let b = learned _ (sym h ∙ e) in (rw book-row (book-printable book b.is), omega (arith, (book-is-spelled word_limits book _ b.is).short))

  pub book-asked : (names : List ℕ) (room : ℕ) → ask_to_words names text book 0 most_rules room ≡ ask_book_to_words names book room
  unfolding ask_to_words ask_book_to_words
  book-asked names room = rw (e, book-row) (bind-same (ask_names names) _ _ (λ es. outcome-then (ask_book word_limits book) _))

module _ {text : Asked (Unit {0})} (edit : List ℕ) (e : text ≡ outcome (ask_edit word_limits edit)) where
  pub edit-prints : Prints text edit 16 0
  edit-prints h = let b = learned _ (sym h ∙ e) in (rw edit-row (edit-printable edit b.is), omega (arith, (edit-is-spelled word_limits edit _ b.is).short))

  pub edit-asked : (names : List ℕ) (room : ℕ) → ask_to_words names text edit 16 0 room ≡ ask_edit_to_words names edit room
  unfolding ask_to_words ask_edit_to_words
  edit-asked names room = rw (e, edit-row) (bind-same (ask_names names) _ _ (λ es. outcome-then (ask_edit word_limits edit) _))

module _ {text : Asked (Unit {0})} (seen : List ℕ) (e : text ≡ outcome (ask_first rule_limits seen)) where
  pub rule-prints : Prints text seen 17 0
  rule-prints h = let b = learned _ (sym h ∙ e) in (rw rule-row (rule-printable seen b.is), (first-is-spelled rule_limits seen _ b.is).short)

  pub rule-asked : (names whole : List ℕ) (room : ℕ) → seen ≡ take longest_carried whole → ask_to_words names text seen 17 0 room ≡ ask_rule_to_words names whole room
  unfolding ask_to_words ask_rule_to_words
  rule-asked names whole room s =
      rw (sym s, e, rule-row) (bind-same (ask_names names) _ _ (λ es. outcome-on (ask_first rule_limits seen) _ _ (λ K f. ap (λ ts. ask_room (laid ts) room) (rule-spelled seen f (name_in es)))))
