-- Books, edits and first rules that pass the questions can be printed under the limits of a carried rule.
use mathlib.Core.Path.{◌≡◌, refl, sym, ◌∙◌, ap, subst}
use mathlib.Core.List.{List}
use Prim.Native.Nat.{ℕ}
use native.Mathlib.Omega.{arith}
use Rattle.answer.specs.Asked.{passed}
use Rattle.logic.specs.Syntax.{Expr, rule, Edit}
use Rattle.text.specs.Code.{code}
use Rattle.text.specs.Reading.{most_rules}
use Rattle.text.specs.Questions.{ask_book, ask_first, ask_edit}
use Rattle.text.proofs.TextSpelling.{BeginsWith, first-is-spelled}
use Rattle.names.specs.Names.{Naming, plain}
use Rattle.notation.specs.Spell.{spell}
use Rattle.notation.specs.Words.{word_limits, rule_limits, book_goals, edit_goals, rule_goals}
use Rattle.notation.proofs.CodeSaid.{rule-said}
use Rattle.notation.proofs.RoundTrip.{book-says, edit-says}
use Rattle.print_words.specs.Printable.{Printable}
use Rattle.print_words.proofs.PrintableLaws.{says-printable, printable-more, spell-more}

pub book-printable : (book : List ℕ) {rules : List (Expr rule)} → ask_book word_limits book ≡ passed rules → Printable rule_limits book book_goals most_rules
book-printable book {rules} e = says-printable plain word_limits rule_limits refl (omega arith) (book-says plain (record { rules = rules; passes = e; tokens_are = refl }))

pub edit-printable : (edit : List ℕ) {Z : Edit} → ask_edit word_limits edit ≡ passed Z → Printable rule_limits edit edit_goals 0
edit-printable edit {Z} e = says-printable plain word_limits rule_limits refl (omega arith) (edit-says plain (record { what = Z; passes = e; tokens_are = refl }))

-- A rule is printed where it is, with whatever follows it.
module _ (text : List ℕ) {K : Expr rule} (e : ask_first rule_limits text ≡ passed K) where
  begins : BeginsWith rule_limits text K
  begins = first-is-spelled rule_limits text K e

  code-printable : Printable rule_limits (code K) rule_goals 0
  code-printable = says-printable plain rule_limits rule_limits refl (omega arith) (rule-said plain rule_limits K begins.within).says

  pub rule-printable : Printable rule_limits text rule_goals 0
  rule-printable = subst (λ t. Printable rule_limits t rule_goals 0) (sym begins.text-is) (printable-more rule_limits begins.rest (code K) rule_goals code-printable)

  pub rule-spelled : (name : Naming) → spell name text rule_goals 0 ≡ spell name (code K) rule_goals 0
  rule-spelled name = ap (λ t. spell name t rule_goals 0) begins.text-is ∙ spell-more rule_limits begins.rest name (code K) rule_goals code-printable
