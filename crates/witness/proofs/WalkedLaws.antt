-- The walk to the part that breaks a rule, by what it found for the rules inside.
use mathlib.Core.Path.{◌≡◌, refl, sym, ap, ◌∙◌, subst}
use mathlib.Core.Bool.{Bool, true, false, ◌&&◌, ◌||◌, cond}
use mathlib.Core.List.{List}
use Prim.Native.Nat.{ℕ, ◌+◌}
use native.Mathlib.Omega.{arith}
use lib.ListN.{length, get_or}
use Rattle.std.specs.Prelude.{Option, Some, None}
use Rattle.logic.specs.Syntax.{rule, Expr, both, either}
use Rattle.logic.specs.Meaning.{value}
use Rattle.logic.specs.Limits.{ranges, InRange}
use Rattle.logic.specs.Witness.{nothing, breaks}
use Rattle.sheet.specs.Sheet.{graph_of}
use Rattle.text.specs.Code.{code}
use Rattle.text.specs.Stands.{Stands}
use Rattle.eval.specs.Evaluated.{IsTruth}
use Rattle.witness.specs.Walked.{NoPair, Breaking, IsWalked}
use Rattle.witness.proofs.RuleShapes.{operands}

-- what was found for the rule e
abbrev pub Finds : List ℕ → ℕ → List ℕ → ℕ → Option ℕ → ℕ → Expr rule → Type 0
Finds sheet n text at b nx e = IsWalked sheet n text at e b nx

module _ (sheet : List ℕ) (n : ℕ) (text : List ℕ) (at : ℕ) where
  -- what was found for the rule at a place
  abbrev pub Walks : ℕ → Option ℕ → ℕ → Type 0
  Walks p b nx = (f : Expr rule) → Stands (ranges n) text p f → IsWalked sheet n text p f b nx

  -- the value of a rule that the evaluator judged, and of one that was skipped
  abbrev pub Judges : ℕ → Bool → ℕ → Type 0
  Judges p x nx = (f : Expr rule) → Stands (ranges n) text p f → IsTruth sheet p f x nx

  abbrev pub Skips : ℕ → ℕ → Type 0
  Skips nx ny = (f : Expr rule) → Stands (ranges n) text nx f → ny ≡ nx + length (code f)

  -- what breaks a rule inside breaks the whole
  inside : {place : ℕ} {K : Expr rule} (e : Expr rule) → value (graph_of sheet) e ≡ false → breaks (graph_of sheet) e ≡ breaks (graph_of sheet) K → Breaking sheet n text place K → Breaking sheet n text place e
  inside e f q b = record { fails = f; part = b.part; stands = b.stands; broken = b.broken; same = q ∙ b.same; single = b.single }

  module _ (K L : Expr rule) where
    -- 25: the first rule is broken, and the second is skipped
    pub both_first : Stands (ranges n) text at (both K L) → (b : Option ℕ) (place nx ny : ℕ) → Walks (at + 1) b nx → b ≡ Some place → Skips nx ny → IsWalked sheet n text at (both K L) (Some place) ny
    unfolding breaks value code InRange
    both_first h b place nx ny p broken q =
        let o = operands 0x25 K L refl h.range.0 h.range.1 h in let s = p K o.first in
        let k : value (graph_of sheet) K ≡ false = (s.breaking place broken).fails in
        record {
          holds = λ e. cc;
          breaking = λ x e. inside (both K L) (ap (◌&& value (graph_of sheet) L) k) (ap (λ c. cond c (breaks (graph_of sheet) L) (breaks (graph_of sheet) K)) k) (s.breaking x (broken ∙ e));
          ends = omega (arith, s.ends, q L (o.second nx s.ends), o.size);
        }

    -- 25: the first rule holds
    pub both-second : Stands (ranges n) text at (both K L) → (b d : Option ℕ) (nx ny : ℕ) → Walks (at + 1) b nx → b ≡ None → Walks nx d ny → IsWalked sheet n text at (both K L) d ny
    unfolding breaks value code InRange
    both-second h b d nx ny p holds q =
        let o = operands 0x25 K L refl h.range.0 h.range.1 h in let s = p K o.first in let t = q L (o.second nx s.ends) in
        let k : (value (graph_of sheet) K && value (graph_of sheet) L) ≡ value (graph_of sheet) L = ap (◌&& value (graph_of sheet) L) (s.holds holds) in
        record {
          holds = λ e. k ∙ t.holds e;
          breaking = λ x e. let f = t.breaking x e in inside (both K L) (k ∙ f.fails) (ap (λ c. cond c (breaks (graph_of sheet) L) (breaks (graph_of sheet) K)) (s.holds holds)) f;
          ends = omega (arith, s.ends, t.ends, o.size);
        }

    -- 26: the first rule holds, and the second is skipped
    pub either_first : Stands (ranges n) text at (either K L) → (x : Bool) (nx ny : ℕ) → Judges (at + 1) x nx → x ≡ true → Skips nx ny → IsWalked sheet n text at (either K L) None ny
    unfolding breaks value code InRange
    either_first h x nx ny p holds q =
        let o = operands 0x26 K L refl h.range.0 h.range.1 h in let s = p K o.first in
        record {
          holds = λ e. ap (◌|| value (graph_of sheet) L) (sym s.truth ∙ holds);
          breaking = λ b e. cc;
          ends = omega (arith, s.ends, q L (o.second nx s.ends), o.size);
        }

    -- 26: the first rule is broken
    pub either_second : Stands (ranges n) text at (either K L) → (x : Bool) (d : Option ℕ) (nx ny : ℕ) → Judges (at + 1) x nx → x ≡ false → Walks nx d ny → IsWalked sheet n text at (either K L) d ny
    unfolding breaks value code InRange
    either_second h x d nx ny p broken q =
        let o = operands 0x26 K L refl h.range.0 h.range.1 h in let s = p K o.first in let t = q L (o.second nx s.ends) in
        let k : (value (graph_of sheet) K || value (graph_of sheet) L) ≡ value (graph_of sheet) L = ap (◌|| value (graph_of sheet) L) (sym s.truth ∙ broken) in
        record {
          holds = λ e. k ∙ t.holds e;
          breaking = λ b e. let f = t.breaking b e in inside (either K L) (k ∙ f.fails) (ap (λ c. cond c nothing (breaks (graph_of sheet) L)) (sym s.truth ∙ broken)) f;
          ends = omega (arith, s.ends, t.ends, o.size);
        }

  -- any other rule
  pub alone : (e : Expr rule) → Stands (ranges n) text at e → NoPair (get_or text at 0) → (x : Bool) (nx : ℕ) → IsTruth sheet at e x nx → (b : Option ℕ) → b ≡ cond x None (Some at) → IsWalked sheet n text at e b nx
  alone e h s x nx t b is = rw is (go x t.truth) where
    go : (x : Bool) → x ≡ value (graph_of sheet) e → IsWalked sheet n text at e (cond x None (Some at)) nx
    go true q = record { holds = λ b. sym q; breaking = λ p b. cc; ends = t.ends }
    go false q = record { holds = λ b. cc; breaking = λ p b. record { fails = sym q; part = e; stands = (let z : at ≡ p = cc in subst (λ (k : ℕ). Stands (ranges n) text k e) z h); broken = sym q; same = refl; single = (let z : at ≡ p = cc in subst (λ (k : ℕ). NoPair (get_or text k 0)) z s) }; ends = t.ends }
