-- The call: its questions in each case of the code.
use mathlib.Core.Path.{◌≡◌, sym, ap, ◌∙◌}
use mathlib.Core.List.{List}
use Prim.Native.Nat.{ℕ, ◌-◌, ◌≤◌}
use native.Mathlib.Nat.{sub-zero}
use native.Mathlib.Omega.{arith}
use lib.ListN.{length, take, drop, length-append, length-drop}
use lib.Seq.{take_at}
use Rattle.answer.specs.declared.Answer.{Answer}
use Rattle.answer.specs.declared.Refusal.{Refusal}
use Rattle.answer.specs.declared.Answer.TheVariants.{Refused}
use Rattle.answer.specs.Asked.{Asked, refused, ◌>>=◌, outcome}
use Rattle.answer.specs.Answers.{asked, refusal_number_def, refusal_place_def}
use Rattle.answer.specs.Outputs.{written_at_start}
use Rattle.answer.proofs.AnswerLaws.{Learned, not-learned}
use Rattle.logic.specs.Syntax.{Expr, rule}
use Rattle.logic.specs.Limits.{max_nodes}
use Rattle.text.specs.Code.{code}
use Rattle.text.specs.Reading.{longest_carried, carried_limits_def, expr}
use Rattle.text.specs.Questions.{ask_rule}
use Rattle.text.proofs.TextSpelling.{Spells, rule-is-spelled}
use Rattle.shortening.specs.Questions.{ask_steps, ask_same, ask_chain, ask_check}
use Rattle.check_steps.specs.Raised.{raised, lowered}
use Rattle.check_steps.specs.Steps.{RuleIs, Led}
use Rattle.check_steps.proofs.Spans.{raised-length}
use Rattle.check_steps.proofs.Texts.{lowered-text}

module _ (carried steps sent : List ℕ) where
  abbrev pub Asks : Asked (Expr rule)
  Asks = ask_rule (carried_limits_def max_nodes) carried

  pub rule-refused : (a : Answer) (r : Refusal) → asked a ≡ outcome Asks → a ≡ Refused r → asked a ≡ ask_check carried steps sent
  unfolding ask_check ◌>>=◌
  rule-refused a r s e =
      let n : Asks ≡ refused (refusal_number_def r) (refusal_place_def r) = not-learned Asks (refusal_number_def r) (refusal_place_def r) (sym (ap asked e) ∙ s) in
      ap asked e ∙ sym (ap (◌>>= (λ K. ask_chain K steps sent)) n)

-- The carried rule that was read, and what the work text holds.
module _ (carried : List ℕ) (read : Learned (ask_rule (carried_limits_def max_nodes) carried)) where
  abbrev K : Expr rule
  K = read.what

  spelled : Spells (carried_limits_def max_nodes) (expr rule) carried K
  spelled = rule-is-spelled (carried_limits_def max_nodes) carried K read.is

  pub rule-short : length carried ≤ longest_carried
  rule-short = spelled.short

  pub rule-there : (work₀ : List ℕ) {work : List ℕ} → length work₀ ≡ longest_carried → work ≡ written_at_start (raised 0 carried) work₀ → RuleIs work (length carried) K
  rule-there work₀ {work} h w =
      let t : List ℕ = raised 0 carried in
      let text-long : length t ≡ length carried = raised-length 0 carried in
      let long : length work ≡ length work₀ = ap length w ∙ omega (arith, length-append t (drop (length t) work₀), length-drop (length t) work₀, rule-short) in
      record {
        is = ap (take (length carried)) w ∙ take_at t (drop (length t) work₀) (length carried) text-long ∙ ap (raised 0) spelled.text-is;
        room = omega (arith, rule-short);
        short = omega arith;
        range = spelled.within.numbers_fit;
      }

  -- What the steps gave.
  module _ (steps sent : List ℕ) where
    chained : ask_check carried steps sent ≡ ask_steps steps 0 K >>= (λ L. ask_same (code L) sent 0)
    chained = unfold ask_check ask_chain ◌>>=◌ in ap (◌>>= (λ K. ask_chain K steps sent)) read.is

    pub answer-unfit : {i : ℕ} → ask_steps steps 0 K ≡ refused 59 i → refused 59 i ≡ ask_check carried steps sent
    answer-unfit u = unfold ◌>>=◌ in sym (chained ∙ ap (◌>>= (λ L. ask_same (code L) sent 0)) u)

    pub answer-compared : {work : List ℕ} {len : ℕ} → Led K steps work len → (b : Answer) → asked b ≡ ask_same (lowered (take (len - 0) work)) sent 0 → asked b ≡ ask_check carried steps sent
    unfolding ◌>>=◌
    answer-compared {work} {len} d b q =
        let text : lowered (take (len - 0) work) ≡ code d.last = ap lowered (ap (λ k. take k work) (sub-zero len) ∙ d.stands.is) ∙ lowered-text d.last d.stands.range in
        q ∙ ap (λ t. ask_same t sent 0) text ∙ sym (chained ∙ ap (◌>>= (λ L. ask_same (code L) sent 0)) d.asked)
