-- A goal that has passed, as a book of one rule.
use mathlib.Core.Path.{◌≡◌, refl, ap, ◌∙◌}
use mathlib.Core.List.{List, [], ◌∷◌}
use Prim.Native.Nat.{ℕ}
use lib.Dec.{leb}
use lib.ListN.{length}
use Rattle.answer.specs.Asked.{passed, ◌>>=◌, ◌>>◌, is}
use Rattle.answer.proofs.AskedLaws.{passed-same, refused-not-passed, is-then}
use Rattle.logic.specs.Syntax.{Expr, rule}
use Rattle.text.specs.Reading.{most_rules, Limits, expr, Read, got, fault, read_as}
use Rattle.text.specs.Questions.{read_rules, ask_book, whole, ask_one, ask_rule}
use Rattle.text.proofs.TextSpelling.{rules-step}
use Rattle.judge.specs.Judging.{RulesStand}
use Rattle.judge.proofs.RulesJudged.{read-book-stands}

module _ (l : Limits) (t : List ℕ) where
  -- A goal that has passed is read as a book of one rule,
  pub goal-read : (K : Expr rule) → ask_rule l t ≡ passed K → ask_book l t ≡ passed (K ∷ [])
  unfolding ask_one ask_book read_rules is whole ◌>>◌ ◌>>=◌
  goal-read K e = let (short, read) = is-then (leb (length t) l.longest) 11 0 _ e in rw short (go (read_as l (expr rule) t 0) refl read) where
    go : (x : Read (Expr rule)) → read_as l (expr rule) t 0 ≡ x → whole 10 x ≡ passed K → read_rules l most_rules t 0 ≡ passed (K ∷ [])
    go (fault why p) q h = refused-not-passed h
    go (got L (x ∷ r) p) q h = refused-not-passed h
    go (got L [] p) q h = rules-step l 31 t 0 L [] p q ∙ ap (λ M. passed (M ∷ [])) (passed-same h)

  -- and stands there as one.
  pub goal-stands : (K : Expr rule) → ask_rule l t ≡ passed K → RulesStand l.numbers t 0 (length t) (K ∷ [])
  goal-stands K e = read-book-stands l (goal-read K e)
