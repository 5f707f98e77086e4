-- The check on the bytes of the call: what is accepted, what accepting means, and that each step leaves one rule within the limits.
use mathlib.Core.Path.{◌≡◌, refl, ◌∙◌, ap, subst}
use mathlib.Core.Logic.{◌↔◌}
use mathlib.Core.List.{List, [], ◌∷◌}
use Prim.Native.Nat.{ℕ}
use native.Mathlib.Omega.{arith}
use Rattle.answer.specs.Asked.{passed, ◌>>=◌}
use Rattle.answer.proofs.AskedLaws.{bind-passed}
use Rattle.logic.specs.Syntax.{Expr, rule}
use Rattle.logic.specs.Graph.{Graph}
use Rattle.logic.specs.Meaning.{value}
use Rattle.logic.specs.Limits.{max_nodes, Within}
use Rattle.text.specs.Code.{code}
use Rattle.text.specs.Reading.{Limits, carried_limits_def}
use Rattle.text.specs.Questions.{ask_rule}
use Rattle.text.proofs.TextSpelling.{rule-is-spelled, spelled-rule-passes}
use Rattle.shortening.specs.Laws.{Step, Fits, Chain}
use Rattle.shortening.specs.Questions.{ask_chain, ask_check, CheckPasses}
use Rattle.shortening.specs.SameTruth.{SameTruth}
use Rattle.shortening.proofs.Sound.{chain-sound}
use Rattle.shortening.proofs.StepLimits.{step-shorter, step-no-deeper, step-in-range}
use Rattle.shortening.proofs.StepsAccepted.{accepted}
use Rattle.shortening.proofs.OneReading.{one-rule}

module _ (l : Limits) where
  -- After each fitting step the text is again one rule within the limits.
  pub step-passes : (x : Step) (K M : Expr rule) → Fits x K M → ask_rule l (code K) ≡ passed K → ask_rule l (code M) ≡ passed M
  step-passes x K M f h =
      let s = rule-is-spelled l (code K) K h in
      spelled-rule-passes l (code M) M (record {
        text-is = refl;
        short = omega (arith, s.short, step-shorter x K M f);
        within = record { numbers_fit = step-in-range l.numbers x K M f s.within.numbers_fit; levels-fit = omega (arith, s.within.levels-fit, step-no-deeper x K M f) };
      })

  pub chain-passes : (xs : List Step) (K L : Expr rule) → Chain xs K L → ask_rule l (code K) ≡ passed K → ask_rule l (code L) ≡ passed L
  unfolding Chain
  chain-passes [] K L c h = subst (λ M. ask_rule l (code M) ≡ passed M) c h
  chain-passes (x ∷ xs) K L (M, f, c) h = chain-passes xs M L c (step-passes x K M f h)

-- Accepted exactly when the carried text is one rule, and the steps are a chain of fitting steps from it to the text sent.
pub check-passes : (carried steps sent : List ℕ) → (ask_check carried steps sent ≡ passed tt) ↔ CheckPasses carried steps sent
unfolding ask_check ◌>>=◌
check-passes carried steps sent = (there, back) where
  there : ask_check carried steps sent ≡ passed tt → CheckPasses carried steps sent
  there h = let (K, read, chained) = bind-passed _ (λ K. ask_chain K steps sent) tt h in record { first = K; read = read; accepted = (accepted K steps sent).0 chained }

  back : CheckPasses carried steps sent → ask_check carried steps sent ≡ passed tt
  back c = ap (◌>>= (λ K. ask_chain K steps sent)) c.read ∙ (accepted c.first steps sent).1 c.accepted

-- "Accepted means that both texts have the same truth on every sheet whose node numbers fit"
module _ (carried steps sent : List ℕ) (c : CheckPasses carried steps sent) (l : Limits) (K : Expr rule) (read : ask_rule l carried ≡ passed K) where
  abbrev last : Expr rule
  last = c.accepted.last

  -- the chain starts from the rule that the carried text is under these limits
  led : Chain c.accepted.chain K last
  led = subst (λ M. Chain c.accepted.chain M last) (one-rule (carried_limits_def max_nodes) l carried c.first K c.read read) c.accepted.leads

  sent-read : ask_rule l sent ≡ passed last
  sent-read =
      let first : ask_rule l (code K) ≡ passed K = subst (λ t. ask_rule l t ≡ passed K) (rule-is-spelled l carried K read).text-is read in
      subst (λ t. ask_rule l t ≡ passed last) c.accepted.same (chain-passes l c.accepted.chain K last led first)

  truth : (L : Expr rule) → ask_rule l sent ≡ passed L → (g : Graph) → Within g → value g K ≡ value g L
  truth L h g w = chain-sound g w c.accepted.chain K last led ∙ ap (λ M. value g M) (one-rule l l sent last L sent-read h)

pub check-means : (carried steps sent : List ℕ) → ask_check carried steps sent ≡ passed tt → SameTruth carried sent
check-means carried steps sent h =
    let c : CheckPasses carried steps sent = (check-passes carried steps sent).0 h in
    record {
      reads_too = λ l K read. (c.accepted.last, sent-read carried steps sent c l K read);
      same_truth = λ l K L read. truth carried steps sent c l K read L;
    }
