-- The steps made so far lead to the rule in the work text.
use mathlib.Core.Path.{◌≡◌, refl, sym, ap, ap₂, ◌∙◌}
use mathlib.Core.List.{List, [], ◌∷◌, ◌++◌}
use Prim.Native.Nat.{ℕ, suc, ◌+◌, ◌*◌, ◌-◌, ◌≤◌, ◌<◌}
use native.Mathlib.Numerals.{add-one}
use native.Mathlib.Omega.{arith}
use lib.ListN.{length, get_or, take, drop, length-append, length-drop, drop_of_length-le}
use lib.Seq.{drop-cons, take-append-le, length-take-le}
use native.Mathlib.Nat.{sub-zero}
use borrow.Rule.Slice.PartMut.{post_of, Post-is}
use Rattle.answer.specs.Asked.{Asked, refused}
use Rattle.logic.specs.Syntax.{Expr, rule}
use Rattle.logic.specs.Limits.{max_nodes, ranges, InRange}
use Rattle.text.specs.Reading.{longest_carried}
use Rattle.shortening.specs.Laws as table
use Rattle.shortening.specs.Checking.{map_made, make_step}
use Rattle.shortening.specs.Questions.{ask_steps}
use Rattle.shortening.proofs.StepLimits.{step-in-range}
use Rattle.shortening.proofs.ExactSteps.{step-exact}
use Rattle.check_steps.specs.Raised.{step_length, step_leaves}
use Rattle.check_steps.specs.Steps.{RuleIs, SomeRuleIs, Led}
use Rattle.check_steps.proofs.Texts.{text_of}
use Rattle.check_steps.proofs.LawFits.{step-text}
use Rattle.check_steps.proofs.Leaving.{OfStep, of-step, leaves-length}

-- One step: 59 if it does not fit; else the rule that is then there.
pub record Turned (K : Expr rule) (at law : ℕ) : Type 0 where
  pub then : Expr rule
  pub made-is : make_step law K at ≡ table.made then
  pub text-is : take (step_length (text_of K) at law) (step_leaves (text_of K) at law) ≡ text_of then
  pub range : InRange (ranges max_nodes) then
  pub shorter : step_length (text_of K) at law ≤ length (text_of K)

module _ (K : Expr rule) (r : InRange (ranges max_nodes) K) (at law : ℕ) where
  abbrev Of : table.Made (Expr rule) → Type 0
  Of m = OfStep (text_of K) at law (map_made text_of m)

  of : Of (make_step law K at)
  of = rw (step-text law K at r) (of-step (text_of K) at law)

  pub turned : (step_length (text_of K) at law ≡ 0 → ⊥) → Turned K at law
  unfolding map_made
  turned some = go (make_step law K at) refl of where
    go : (m : table.Made (Expr rule)) → make_step law K at ≡ m → Of m → Turned K at law
    go (table.made M) e o =
        let x : table.Step = record { offset = at; law = law } in
        let in-range : InRange (ranges max_nodes) M = step-in-range (ranges max_nodes) x K M ((step-exact x K M).0 e) r in
        record { then = M; made-is = e; text-is = o.0; range = in-range; shorter = o.2 }
    go table.unfit e o = absurd (some o)

  pub not-turned : step_length (text_of K) at law ≡ 0 → make_step law K at ≡ table.unfit
  unfolding map_made
  not-turned z = go (make_step law K at) refl of where
    go : (m : table.Made (Expr rule)) → make_step law K at ≡ m → Of m → make_step law K at ≡ table.unfit
    go (table.made M) e o = absurd (omega (arith, o.1))
    go table.unfit e o = e

-- What the loop over the steps keeps, for every rule that may have been in the work text.
pub record Reached (K : Expr rule) (steps work : List ℕ) (len p i : ℕ) : Type 0 where
  pub now-rule : Expr rule
  pub stands : RuleIs work len now-rule
  pub asks : ask_steps (drop p steps) i now-rule ≡ ask_steps steps 0 K

pub record Leading (work₀ : List ℕ) (len₀ : ℕ) (steps work : List ℕ) (len p i : ℕ) : Type 0 where
  pub some : SomeRuleIs work₀ len₀
  pub on : p ≤ length steps
  pub count : i ≤ p
  pub same_length : length work ≡ length work₀
  pub leads : (K : Expr rule) → RuleIs work₀ len₀ K → Reached K steps work len p i

module _ {work₀ : List ℕ} {len₀ : ℕ} {steps work : List ℕ} {len p i : ℕ} (l : Leading work₀ len₀ steps work len p i) where
  pub leading_end : length steps ≤ p → (K : Expr rule) → RuleIs work₀ len₀ K → Led K steps work len
  unfolding ask_steps
  leading_end h K k =
      let r = l.leads K k in
      record { last = r.now-rule; asked = sym r.asks ∙ ap (λ t. ask_steps t i r.now-rule) (drop_of_length-le steps h); stands = r.stands }

  -- a cut step
  pub leading-cut : p < length steps → length steps - p < 3 → (K : Expr rule) → RuleIs work₀ len₀ K → ask_steps steps 0 K ≡ refused 59 i
  unfolding ask_steps
  leading-cut h m K k =
      let r = l.leads K k in
      let long = length-drop p steps in
      sym r.asks ∙ cut r.now-rule (drop p steps) (omega arith) (omega arith) where
        cut : (M : Expr rule) (t : List ℕ) → 1 ≤ length t → length t < 3 → ask_steps t i M ≡ refused 59 i
        cut M [] a b = absurd (omega arith)
        cut M (x ∷ []) a b = refl
        cut M (x ∷ y ∷ []) a b = refl
        cut M (x ∷ y ∷ z ∷ t) a b = absurd (omega arith)

  abbrev text : List ℕ
  text = take (len - 0) work

  text-long : RuleIs work len (l.leads l.some.what l.some.stands).now-rule → length text ≡ len
  text-long r = length-take-le (len - 0) work (omega (arith, r.room)) ∙ sub-zero len

  pub leading-room : (len ≤ length work) × (length text ≤ longest_carried)
  leading-room = let r = (l.leads l.some.what l.some.stands).stands in (r.room, omega (arith, r.room, r.short, text-long r))

  -- What a whole step leaves of the work text: its length is unchanged, and the step fits or not.
  pub record Onward (left : List ℕ) (next : ℕ) : Type 0 where
    pub same_length : length (left ++ post_of 0 (len - 0) work) ≡ length work₀
    pub unfit : next ≡ 0 → (K : Expr rule) → RuleIs work₀ len₀ K → ask_steps steps 0 K ≡ refused 59 i
    pub leading : (next ≡ 0 → ⊥) → Leading work₀ len₀ steps (left ++ post_of 0 (len - 0) work) next (p + 3) (i + 1)

  module _ (three : 3 ≤ length steps - p) {at law : ℕ} (at-is : at ≡ get_or steps p 0 + 256 * get_or steps (p + 1) 0) (law-is : law ≡ get_or steps (p + 2) 0) where
    opened : drop p steps ≡ get_or steps p 0 ∷ get_or steps (p + 1) 0 ∷ get_or steps (p + 2) 0 ∷ drop (p + 3) steps
    opened =
        let two : suc (p + 1) ≡ p + 2 = omega arith in
        let rest : suc (p + 2) ≡ p + 3 = omega arith in
        cc (drop-cons steps p 0 (omega arith), add-one p, drop-cons steps (p + 1) 0 (omega arith), drop-cons steps (p + 2) 0 (omega arith))

    abbrev goes_on : table.Made (Expr rule) → Asked (Expr rule)
    goes_on m = elim m [ table.made L ↦ ask_steps (drop (p + 3) steps) (suc i) L | table.unfit ↦ refused 59 i ]

    asked-one : (M : Expr rule) {m : table.Made (Expr rule)} → make_step law M at ≡ m → ask_steps (drop p steps) i M ≡ goes_on m
    asked-one M e = unfold ask_steps in ap (λ t. ask_steps t i M) opened ∙ ap goes_on (ap₂ (λ n k. make_step n M k) (sym law-is) (sym at-is) ∙ e)

    module _ {next : ℕ} {left : List ℕ} (is : next ≡ step_length text at law) (leaves : left ≡ step_leaves text at law) where
      left-long : length left ≡ length text
      left-long = ap length leaves ∙ leaves-length text at law

      work-long : length (left ++ post_of 0 (len - 0) work) ≡ length work
      work-long =
          let r = leading-room.0 in
          let after : length (post_of 0 (len - 0) work) ≡ length work - len = ap length (Post-is 0 len work (omega arith)) ∙ length-drop len work in
          length-append left (post_of 0 (len - 0) work) ∙ omega (arith, left-long, after, length-take-le (len - 0) work (omega arith))

      on-from : (next ≡ 0 → ⊥) → (K : Expr rule) → Reached K steps work len p i → Reached K steps (left ++ post_of 0 (len - 0) work) next (p + 3) (i + 1)
      on-from fits K r =
          let M = r.now-rule in
          let same : text ≡ text_of M = ap (λ k. take k work) (sub-zero len) ∙ r.stands.is in
          let size : next ≡ step_length (text_of M) at law = is ∙ ap (λ u. step_length u at law) same in
          let t : Turned M at law = turned M r.stands.range at law (λ q. fits (size ∙ q)) in
          let short : next ≤ length left = omega (arith, size, t.shorter, left-long, ap length same) in
          record {
            now-rule = t.then;
            stands = record {
              is = take-append-le next left (post_of 0 (len - 0) work) short ∙ ap₂ take size (leaves ∙ ap (λ u. step_leaves u at law) same) ∙ t.text-is;
              room = omega (arith, short, length-append left (post_of 0 (len - 0) work));
              short = omega (arith, r.stands.short, work-long);
              range = t.range;
            };
            asks = ap (λ j. ask_steps (drop (p + 3) steps) j t.then) (add-one i) ∙ sym (asked-one M t.made-is) ∙ r.asks;
          }

      pub leading_step : Onward left next
      leading_step = record {
        same_length = work-long ∙ l.same_length;
        unfit = λ z K k.
            let r = l.leads K k in
            let same : text ≡ text_of r.now-rule = ap (λ k. take k work) (sub-zero len) ∙ r.stands.is in
            sym r.asks ∙ asked-one r.now-rule (not-turned r.now-rule r.stands.range at law (ap (λ t. step_length t at law) (sym same) ∙ sym is ∙ z));
        leading = λ fits. record {
          some = l.some;
          on = omega arith;
          count = omega (arith, l.count);
          same_length = work-long ∙ l.same_length;
          leads = λ K k. on-from fits K (l.leads K k);
        };
      }
