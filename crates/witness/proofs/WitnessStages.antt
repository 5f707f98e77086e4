-- The answer of the witness call, by where its questions stop.
use mathlib.Core.Path.{◌≡◌, refl, sym, ap, ◌∙◌, subst}
use mathlib.Core.List.{List}
use Prim.Native.Nat.{ℕ}
use lib.ListN.{take}
use Rattle.std.specs.Prelude.{Option, Some, None}
use Rattle.answer.specs.Asked.{passed, refused, ◌>>=◌, ◌>>◌}
use Rattle.logic.specs.Syntax.{Expr, rule}
use Rattle.logic.specs.Limits.{ranges}
use Rattle.logic.proofs.WitnessLaws.{holds-nothing}
use Rattle.sheet.specs.Sheet.{graph_of}
use Rattle.sheet.specs.Questions.{Sound}
use Rattle.text.specs.Reading.{carried_limits_def, longest_carried}
use Rattle.text.specs.Questions.{ask_first}
use Rattle.text.specs.Stands.{Stands}
use Rattle.text.proofs.TextSpelling.{first-is-spelled}
use Rattle.witness.specs.Witnessed.{witness, WitnessOf, ask_witness}
use Rattle.witness.specs.Walked.{IsWalked}
use Rattle.witness.specs.declared.Witness.{Witness}
use Rattle.witness.specs.declared.Witness.TheVariants.{Nothing}
use Rattle.witness.proofs.NamedParts.{IfBroken}

module _ (sheet text : List ℕ) where
  module _ {n : ℕ} (sound : Sound sheet) (count : n ≡ (graph_of sheet).n) (seen : List ℕ) (same : seen ≡ take longest_carried text) where
    -- the sheet has passed: the rule is refused, or found
    pub rule-refused : {q p : ℕ} → ask_first (carried_limits_def n) seen ≡ refused q p → refused q p ≡ ask_witness sheet text
    rule-refused e = unfold ask_witness ◌>>◌ ◌>>=◌ in rw (sound, ← count, ← same, e) refl

    pub rule_found : {K : Expr rule} {w : Witness} → ask_first (carried_limits_def n) seen ≡ passed K → WitnessOf sheet (graph_of sheet).n w K → passed w ≡ ask_witness sheet text
    unfolding ask_witness ◌>>◌ ◌>>=◌
    rule_found {K} e f =
        let q : ask_first (carried_limits_def (graph_of sheet).n) (take longest_carried text) ≡ passed K = ap (λ m. ask_first (carried_limits_def m) (take longest_carried text)) (sym count) ∙ ap (ask_first (carried_limits_def n)) (sym same) ∙ e in
        rw (sound, q) (ap passed f)

pub rule-stands : {n m : ℕ} (t : List ℕ) {K : Expr rule} → n ≡ m → ask_first (carried_limits_def n) t ≡ passed K → Stands (ranges m) t 0 K
rule-stands {n} t {K} q e =
    let s = first-is-spelled (carried_limits_def n) t K e in
    subst (λ (k : ℕ). Stands (ranges k) t 0 K) q (record { rest = s.rest; here = s.text-is; range = s.within.numbers_fit })

-- The rule at the start, by the count that was read from the sheet: it holds, or the part that was walked to has its witness.
module _ (sheet text : List ℕ) (n : ℕ) (count : n ≡ (graph_of sheet).n) (e : Expr rule) (h : Stands (ranges (graph_of sheet).n) text 0 e) where
  pub for-count : Stands (ranges n) text 0 e
  for-count = subst (λ (k : ℕ). Stands (ranges k) text 0 e) (sym count) h

  module _ {b : Option ℕ} {nx : ℕ} (w : (f : Expr rule) → Stands (ranges n) text 0 f → IsWalked sheet n text 0 f b nx) where
    pub names-none : b ≡ None → WitnessOf sheet (graph_of sheet).n Nothing e
    names-none t = unfold witness in ap (witness (graph_of sheet).n) (sym (holds-nothing (graph_of sheet) e ((w e for-count).holds t)))

    pub names-part : (r : Witness) (part : ℕ) → b ≡ Some part → ((f : Expr rule) → Stands (ranges n) text part f → IfBroken sheet n r f) → WitnessOf sheet (graph_of sheet).n r e
    names-part r part b q =
        let k = (w e for-count).breaking part b in
        subst (λ (m : ℕ). WitnessOf sheet m r e) count (q k.part k.stands k.broken ∙ ap (witness n) (sym k.same))
