-- Numbers of an answer from those of the questions that it answers.
use mathlib.Core.Path.{◌≡◌, refl, sym}
use mathlib.Core.List.{List, []}
use Prim.Native.Nat.{ℕ}
use lib.ListN.{length}
use Rattle.std.specs.Prelude.{Result, Ok, Err, IfErr}
use Rattle.answer.specs.Asked.{Asked, passed, refused, asked_number, asked_place, outcome, after, ◌>>=◌}
use Rattle.logic.specs.Syntax.{Expr, rule}
use Rattle.text.specs.Code.{code}
use Rattle.text.specs.Questions.{ask_rule_end, first_rule}
use Rattle.count_small.specs.Small.{four_counts}
use Rattle.count_small.specs.Questions.{Texts, ask_count, ask_four, no_counts, counts_of}
use Rattle.game.specs.Game.{Outcome}
use Rattle.play.specs.declared.questions.AtEdit.{AtEdit}
use Rattle.play.specs.declared.search.Found.{Found}
use Rattle.play.specs.Standing.{found_asked}
use Rattle.suite.specs.Numbers.{numbers, length_numbers, rule_end}
use Rattle.suite.specs.CountNumbers.{count_numbers, four_numbers}
use Rattle.suite.specs.Games.{play_numbers, found_numbers}
use Rattle.suite.specs.declared.LengthNumbers.{LengthNumbers}

-- the result does not show in number and place
pub outcome-numbers : {A : Type 0} (q : Asked A) → numbers (outcome q) ≡ numbers q
unfolding outcome asked_number asked_place
outcome-numbers (passed a) = refl
outcome-numbers (refused n p) = refl

-- the numbers of rule end, from those of its answer and the length of the part that is cut out
pub rule-end-numbers : (t : List ℕ) {n p l : ℕ} → n ≡ asked_number (ask_rule_end t) → p ≡ asked_place (ask_rule_end t) → l ≡ length (first_rule t)
    → ◌≡◌ {A = LengthNumbers} (record { number = n; place = p; length = l }) (length_numbers (rule_end t))
unfolding asked_number asked_place first_rule rule_end after ◌>>=◌
rule-end-numbers t = of (ask_rule_end t) where
  of : (q : Asked (Expr rule)) {n p l : ℕ} → n ≡ asked_number q → p ≡ asked_place q → l ≡ length (after q code [])
      → ◌≡◌ {A = LengthNumbers} (record { number = n; place = p; length = l }) (length_numbers (q >>= (λ K. passed (length (code K)))))
  of (passed K) en ep el = cc
  of (refused n p) en ep el = cc

-- The numbers of a count, from those of its questions and the counts.
pub counts-numbers : (n : ℕ) (book edit : List ℕ) → four_numbers (ask_four n book edit) ≡ count_numbers (ask_count n book edit) (counts_of n book edit)
unfolding ask_four counts_of after ◌>>=◌ asked_number asked_place
counts-numbers n book edit = of (ask_count n book edit) where
  of : (q : Asked Texts) → four_numbers (q >>= (λ t. passed (four_counts n t.rules t.edit))) ≡ count_numbers q (after q (λ t. four_counts n t.rules t.edit) no_counts)
  of (passed t) = refl
  of (refused m p) = refl

-- The numbers of a game, from its outcome or the edit that a refusal is about.
pub play-numbers : (r : Result Found AtEdit) (q : Asked Outcome) (faulty : ℕ) → found_asked r ≡ q → IfErr r (λ e. e.edit ≡ faulty) → found_numbers r ≡ play_numbers q faulty
unfolding after asked_number asked_place
play-numbers (Ok f) q faulty s h = rw (sym s) refl
play-numbers (Err e) q faulty s h = rw (sym s, sym h) refl
