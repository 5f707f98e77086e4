-- 41 and the rules that hold.
use mathlib.Core.Path.{◌≡◌, refl, sym, ap, ap₂, ◌∙◌}
use mathlib.Core.Bool.{true, false}
use mathlib.Core.List.{List, [], ◌∷◌}
use Prim.Native.Nat.{ℕ, suc}
use lib.Dec.{T}
use Rattle.answer.specs.Asked.{passed, refused, ◌>>◌, is}
use Rattle.answer.specs.Answers.{asked}
use Rattle.answer.specs.declared.Refusal.{Refusal}
use Rattle.answer.specs.declared.Answer.{Answer}
use Rattle.answer.specs.declared.Answer.TheVariants.{Done, Refused}
use Rattle.answer.proofs.AskedLaws.{refused-not-passed, so-then, not-then, is-then}
use Rattle.logic.specs.Syntax.{Expr, rule, Edit}
use Rattle.logic.specs.Graph.{Graph}
use Rattle.logic.specs.Meaning.{value, hold_all}
use Rattle.logic.specs.Steps.{run}
use Rattle.logic.specs.Carry.{carried_book}
use Rattle.logic.proofs.Bools.{so, is_true, is_false, both_so, so-both}
use Rattle.logic.proofs.Theorem.{carried}
use Rattle.judge.specs.Questions.{ask_rules}

module _ (g : Graph) where
  -- The first rule holds, or is broken.
  module _ (K : Expr rule) (rules : List (Expr rule)) (i : ℕ) where
    pub rule_holds : value g K ≡ true → ask_rules g (K ∷ rules) i ≡ ask_rules g rules (suc i)
    rule_holds e = unfold ask_rules in so-then 41 i _ e

    pub rule-broken : value g K ≡ false → ask_rules g (K ∷ rules) i ≡ refused 41 i
    rule-broken e = unfold ask_rules in not-then 41 i _ e

  -- The answer is not 41 exactly when each rule holds.
  pub hold-asked : (rules : List (Expr rule)) (i : ℕ) → T (hold_all g rules) → ask_rules g rules i ≡ passed tt
  unfolding ask_rules hold_all
  hold-asked [] i e = refl
  hold-asked (K ∷ rules) i e = let (k, rest) = both_so (value g K) (hold_all g rules) e in so-then 41 i _ (is_true (value g K) k) ∙ hold-asked rules (suc i) rest

  pub asked-hold : (rules : List (Expr rule)) (i : ℕ) → ask_rules g rules i ≡ passed tt → T (hold_all g rules)
  unfolding ask_rules hold_all
  asked-hold [] i e = tt
  asked-hold (K ∷ rules) i e = let (k, rest) = is-then (value g K) 41 i _ e in so-both (value g K) (hold_all g rules) (so k) (asked-hold rules (suc i) rest)

  pub asked-broken : (rules : List (Expr rule)) (i q p : ℕ) → ask_rules g rules i ≡ refused q p → hold_all g rules ≡ false
  asked-broken rules i q p e = is_false (hold_all g rules) (λ h. refused-not-passed (sym e ∙ hold-asked rules i (so h)))

-- Whether each rule holds, from the answer to 41.
module _ (g : Graph) (rules : List (Expr rule)) (a : Answer) (judged : asked a ≡ ask_rules g rules 0) where
  pub judged-kept : a ≡ Done → true ≡ hold_all g rules
  judged-kept e = sym (is_true _ (asked-hold g rules 0 (sym judged ∙ ap asked e)))

  pub judged-broken : (r : Refusal) → a ≡ Refused r → false ≡ hold_all g rules
  judged-broken r e = sym (asked-broken g rules 0 _ _ (sym judged ∙ ap asked e))

-- Theorem 4.2 along a book: the carried rules have the same truth on the graph before as the rules on the graph that the steps leave.
pub ask-carried : (Z : Edit) (rules : List (Expr rule)) (g : Graph) (i : ℕ) → ask_rules g (carried_book Z rules) i ≡ ask_rules (run Z g) rules i
unfolding ask_rules
ask-carried Z [] g i = refl
ask-carried Z (K ∷ rules) g i = ap₂ (λ b y. is b 41 i >> y) (carried Z K g) (ask-carried Z rules g (suc i))
