-- Tokens that are i rules: whatever token follows them, rule i begins there.
use mathlib.Core.Path.{◌≡◌, refl, sym, ◌∙◌, ap, ap₂, subst}
use mathlib.Core.List.{List, [], ◌∷◌, ◌++◌, map, map-append}
use mathlib.Core.Logic.{◌⊎◌, inl, inr}
use Prim.Native.Nat.{ℕ, ◌+◌, ◌-◌, ◌≤◌, ◌<◌}
use native.Mathlib.Omega.{arith}
use lib.ListN.{length, take, length-append, length-map}
use lib.Seq.{take-append_seam}
use Rattle.answer.specs.Asked.{passed}
use Rattle.logic.specs.Arity.{by_arity}
use Rattle.logic.specs.Syntax.{Expr, rule, all, sub_nodes}
use Rattle.logic.specs.Limits.{InRange}
use Rattle.text.specs.Code.{levels, book_code}
use Rattle.text.specs.Reading.{most_rules}
use Rattle.text.proofs.TextSpelling.{EachAllowed}
use Rattle.names.specs.Token.{Token}
use Rattle.names.specs.Scan.{Placed, tokens_of}
use Rattle.names.specs.Names.{Entry, name_in}
use Rattle.names.proofs.NameLaws.{Free}
use Rattle.notation.specs.Spell.{spell}
use Rattle.notation.specs.Parse.{parse}
use Rattle.notation.specs.Words.{word_limits}
use Rattle.notation.proofs.ReadSays.{read-says}
use Rattle.notation.proofs.SaidRead.{says-read}
use Rattle.notation.proofs.SaidSpelled.{says-spelled}
use Rattle.notation.proofs.CodeSaid.{Said, book-said}
use Rattle.notation.proofs.RuleWords.{RuleCut}
use Rattle.notation.proofs.RuleSplits.{law, all_both, CutBefore, cut-or-not}

-- tokens without particular places
abbrev bare : List Token → List Placed
bare ts = map (λ t. record { place = 0; token = t }) ts

bare-tokens : (ts : List Token) → tokens_of (bare ts) ≡ ts
bare-tokens [] = refl
bare-tokens (t ∷ ts) = ap (t ∷◌) (bare-tokens ts)

same-front : (a x b y : List Placed) → length a ≡ length b → a ++ x ≡ b ++ y → a ≡ b
same-front a x b y h e = sym (take-append_seam a x) ∙ ap₂ (λ n z. take n z) h e ∙ take-append_seam b y

-- one more rule
abbrev more : List (Expr rule)
more = sub_nodes all all ∷ []

more-allowed : EachAllowed word_limits more
unfolding levels by_arity InRange
more-allowed = (record { numbers_fit = (tt, tt); levels-fit = omega arith }, tt)

pub record RulesThen (es : List Entry) (before : List Placed) (i : ℕ) : Type 0 where
  pub ts : List Placed
  pub p : ℕ
  pub cut : RuleCut (name_in es) word_limits ts [] i p
  pub before_is : cut.before ≡ before

module _ (es : List Entry) (free : Free es) (end : ℕ) (before : List Placed) (rules : List (Expr rule)) (few : length rules < most_rules) (each : EachAllowed word_limits rules)
    (read : parse (name_in es) word_limits end before [] most_rules ≡ passed (book_code rules)) where
  abbrev i : ℕ
  i = length rules

  abbrev Cut : List Placed → Type 0
  Cut ps = CutBefore es free 0 ps (rules ++ more) i

  said : Said (name_in es) word_limits (book_code (rules ++ more)) [] most_rules
  said = book-said (name_in es) word_limits (rules ++ more) most_rules (omega (arith, length-append rules more)) (all_both _ rules more each more-allowed)

  -- the tokens of those rules and one more are cut before it
  cut_of : (ps : List Placed) → tokens_of ps ≡ said.tokens → Cut ps
  cut_of ps e =
      go (cut-or-not es free 0 ps (rules ++ more) (omega (arith, length-append rules more)) (all_both _ rules more each more-allowed)
      (says-read (name_in es) word_limits (law es free) 0 said.says ps e) i few)
    where
      go : ((length (rules ++ more) ≤ i) × (b : List ℕ) × (parse (name_in es) word_limits 0 ps [] i ≡ passed b)) ⊎ Cut ps → Cut ps
      go (inl (h, b, f)) = absurd (omega (arith, length-append rules more))
      go (inr c) = c

  same-before : {ps : List Placed} (c : Cut ps) → tokens_of c.cut.before ≡ tokens_of before
  same-before c =
      let r = c.cut in
      let n : i + (most_rules - i) ≡ most_rules = omega arith in
      let codes : r.bytes ≡ book_code rules = c.first-is ∙ ap book_code (take-append_seam rules more) in
      let says = read-says (name_in es) word_limits 0 r.before [] most_rules (subst (λ n. parse (name_in es) word_limits 0 r.before [] n ≡ passed r.bytes) n (r.before-read 0 (most_rules - i))) in
      sym (says-spelled (name_in es) word_limits says) ∙ ap (λ z. spell (name_in es) z [] most_rules) codes ∙ says-spelled (name_in es) word_limits (read-says (name_in es) word_limits end before [] most_rules read)

  -- so are these tokens, with others after them
  then-cut : (rest : List Placed) → Cut (before ++ rest) → RulesThen es before i
  then-cut rest c =
      let r = c.cut in
      let size : length r.before ≡ length before = sym (length-map r.before (λ t. t.token)) ∙ ap length (same-before c) ∙ length-map before (λ t. t.token) in
      record { ts = before ++ rest; p = c.p; cut = r; before_is = same-front r.before (r.t ∷ r.rest) before rest size (sym r.is) }

  pub rules-then : RulesThen es before i
  rules-then = go (cut_of (bare said.tokens) (bare-tokens said.tokens))
    where
      go : Cut (bare said.tokens) → RulesThen es before i
      go c =
          let r = c.cut in
          let rest = r.t ∷ r.rest in
          let e : tokens_of (before ++ rest) ≡ said.tokens =
          map-append (λ t. t.token) before rest
          ∙ ap (◌++ tokens_of rest) (sym (same-before c))
          ∙ sym (map-append (λ t. t.token) r.before rest)
          ∙ ap tokens_of (sym r.is)
          ∙ bare-tokens said.tokens in
          then-cut rest (cut_of (before ++ rest) e)
