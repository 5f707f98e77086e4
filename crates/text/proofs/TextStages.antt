-- The answers of the checks of a book, an edit and a first rule in each of their cases; and where a rule starts.
use mathlib.Core.Path.{◌≡◌, refl, sym, ◌∙◌, ap, ap₂}
use mathlib.Core.List.{List, [], ◌∷◌}
use Prim.Native.Nat.{ℕ, zero, suc, ◌-◌, ◌≤◌, ◌<◌, ◌+◌}
use native.Mathlib.Omega.{arith}
use lib.ListN.{length, drop, length-drop, drop_of_length-le}
use lib.Seq.{drop-cons}
use borrow.Author.Tests.{le-leb, lt-leb}
use Rattle.answer.specs.Asked.{passed, refused, ◌>>◌, is, after, outcome}
use Rattle.answer.proofs.AskedLaws.{so-then, not-then, outcome-ends, after-ends, outcome-bind}
use Rattle.logic.specs.Syntax.{rule, Expr}
use Rattle.logic.specs.Limits.{max_nodes}
use Rattle.text.specs.declared.Stop.{Stop}
use Rattle.std.proofs.Common.{Ok, Err}
use Rattle.text.specs.Code.{code}
use Rattle.text.specs.Reading.{most_rules, Limits, text_limits, Want, Thing, expr, operand, done, Fault, missing, wrong_sort, too_deep, out_of_range, Read, got, fault, follow, read_as}
use Rattle.text.specs.Questions.{fault_number, first, whole, read_rules, rules_end, ask_book, ask_first, ask_one, ask_rule_end, first_rule}
use Rattle.text.specs.Patterns.{pattern_format, stop_of, turn_of, turn_at, stop_answer}
use Rattle.text.proofs.Converse.{read-is-written}
use Rattle.text.proofs.TextSpelling.{rules-step, rules-fault}
use Rattle.text.proofs.RuleStart.{end_step, end-fault}
use Rattle.text.proofs.Compose.{same_operand, same_end, alike-turns, ReachedBy, reached}
use Rattle.text.proofs.Items.{digit, here-pattern, here-digit}

-- the answer to a fault
fault-told : (base : ℕ) (why : Fault) (p : ℕ) → stop_answer base (stop_of why p) ≡ refused (fault_number base why) p
unfolding stop_of
fault-told base missing p = refl
fault-told base wrong_sort p = refl
fault-told base too_deep p = refl
fault-told base out_of_range p = refl

-- What the code has read at a place: a thing that ends at p, or a fault.
pub record WasRead (t : List ℕ) (ρ : Limits) (w : Want) (at p : ℕ) : Type 0 where
  pub thing : Thing w
  pub reading : read_as ρ w (drop at t) at ≡ got thing (drop p t) p
  pub inside : at ≤ length t → p ≤ length t

record WasFault (t : List ℕ) (ρ : Limits) (w : Want) (at : ℕ) (s : Stop) : Type 0 where
  why : Fault
  place : ℕ
  reading : read_as ρ w (drop at t) at ≡ fault why place
  answered : (base : ℕ) → stop_answer base s ≡ refused (fault_number base why) place

module _ (t : List ℕ) (ρ : Limits) where
  -- a pattern of one thing reads that thing
  one-thing : (w : Want) (at : ℕ) → turn_at t ρ (pattern_format (digit w) 1) at ≡ turn_of (read_as ρ w (drop at t) at)
  unfolding turn_at
  one-thing w at = ap (λ z. turn_of (follow ρ (drop at t) z at)) (here-pattern (digit w) 1 w (here-digit w)) ∙ alike-turns ρ (same_operand (λ e. same_end)) (drop at t) at

  module _ (w : Want) (at : ℕ) where
    pub was_read : {p : ℕ} → turn_at t ρ (pattern_format (digit w) 1) at ≡ Ok p → WasRead t ρ w at p
    unfolding turn_of
    was_read {p} e = go (read_as ρ w (drop at t) at) refl (reached ρ t (operand w 1 done) at) (sym (one-thing w at) ∙ e) where
      go : (x : Read (Thing w)) → read_as ρ w (drop at t) at ≡ x → ReachedBy t at x → turn_of x ≡ Ok p → WasRead t ρ w at p
      go (got a rest q) i r e = let z : q ≡ p = cc in record { thing = a; reading = i ∙ ap₂ (got a) (r.rest-is ∙ ap (λ k. drop k t) z) z; inside = λ j. omega (arith, r.inside j) }
      go (fault why q) i r e = cc

    was-fault : {s : Stop} → turn_at t ρ (pattern_format (digit w) 1) at ≡ Err s → WasFault t ρ w at s
    unfolding turn_of
    was-fault {s} e = go (read_as ρ w (drop at t) at) refl (sym (one-thing w at) ∙ e) where
      go : (x : Read (Thing w)) → read_as ρ w (drop at t) at ≡ x → turn_of x ≡ Err s → WasFault t ρ w at s
      go (got a rest q) i e = cc
      go (fault why q) i e = let z : s ≡ stop_of why q = cc in record { why = why; place = q; reading = i; answered = λ base. ap (stop_answer base) z ∙ fault-told base why q }

  -- BOOK
  pub book-long : ρ.longest < length t → refused 11 0 ≡ outcome (ask_book ρ t)
  book-long h = unfold ask_book outcome is ◌>>◌ in rw (lt-leb (length t) ρ.longest h) refl

  pub book-short : length t ≤ ρ.longest → outcome (read_rules ρ most_rules t 0) ≡ outcome (ask_book ρ t)
  book-short h = unfold ask_book is ◌>>◌ in rw (le-leb (length t) ρ.longest h) refl

  module _ (m at : ℕ) where
    pub rules-end : length t ≤ at → passed tt ≡ outcome (read_rules ρ m (drop at t) at)
    unfolding read_rules outcome
    rules-end h = rw (drop_of_length-le t h) (go m) where
      go : (k : ℕ) → passed tt ≡ outcome (read_rules ρ k [] at)
      go zero = refl
      go (suc k) = refl

    module _ (more : at < length t) where
      pub rules-full : m ≡ 0 → refused 16 at ≡ outcome (read_rules ρ m (drop at t) at)
      rules-full h = unfold read_rules outcome in rw (h, drop-cons t at 0 more) refl

      pub rules-next : (rest : ℕ) → m ≡ suc rest → {p : ℕ} → turn_at t ρ (pattern_format 14 1) at ≡ Ok p → outcome (read_rules ρ rest (drop p t) p) ≡ outcome (read_rules ρ m (drop at t) at)
      rules-next rest one_more {p} e =
          let r = was_read (expr rule) at e in
          sym
          (ap (λ k. outcome (read_rules ρ k (drop at t) at)) one_more
          ∙ ap outcome (rules-step ρ rest (drop at t) at r.thing (drop p t) p r.reading)
          ∙ outcome-bind (read_rules ρ rest (drop p t) p) (λ book. r.thing ∷ book))

      pub rules-stopped : {s : Stop} → 0 < m → turn_at t ρ (pattern_format 14 1) at ≡ Err s → stop_answer 10 s ≡ outcome (read_rules ρ m (drop at t) at)
      unfolding outcome
      rules-stopped some e =
          let f = was-fault (expr rule) at e in
          let one_more : m ≡ suc (m - 1) = omega arith in
          let left : drop at t ≡ [] → ⊥ = λ z. omega (arith, sym (length-drop at t) ∙ ap length z) in
          f.answered 10 ∙ sym (ap (λ k. outcome (read_rules ρ k (drop at t) at)) one_more ∙ ap outcome (rules-fault ρ (m - 1) (drop at t) at f.why f.place left f.reading))

  -- RULE START
  module _ (left at : ℕ) where
    pub start-here : left ≤ 0 → at ≡ rules_end ρ left (drop at t) at
    start-here h = unfold rules_end in let e : left ≡ 0 = omega arith in rw e refl

    pub start-next : (rest : ℕ) → left ≡ suc rest → {p : ℕ} → turn_at t ρ (pattern_format 14 1) at ≡ Ok p → rules_end ρ rest (drop p t) p ≡ rules_end ρ left (drop at t) at
    start-next rest one_more e = sym (ap (λ k. rules_end ρ k (drop at t) at) one_more ∙ end_step ρ rest (drop at t) at (was_read (expr rule) at e).reading)

    pub start-stopped : {s : Stop} → 0 < left → at ≤ length t → turn_at t ρ (pattern_format 14 1) at ≡ Err s → length t ≡ rules_end ρ left (drop at t) at
    start-stopped some h e =
        let one_more : left ≡ suc (left - 1) = omega arith in
        omega (arith, length-drop at t)
        ∙ sym (ap (λ k. rules_end ρ k (drop at t) at) one_more ∙ end-fault ρ (left - 1) (drop at t) at (was-fault (expr rule) at e).reading)

  -- ONE THING, an edit or a rule, when the limits are those of the questions
  module _ (base : ℕ) (w : Want) {q : Limits} (same : ρ ≡ q) where
    one_same : outcome (ask_one ρ base w t) ≡ outcome (ask_one q base w t)
    one_same = ap (λ r. outcome (ask_one r base w t)) same

    pub one-long : ρ.longest < length t → refused (base + 1) 0 ≡ outcome (ask_one q base w t)
    one-long h = unfold ask_one outcome is ◌>>◌ in (let e : refused (base + 1) 0 ≡ outcome (ask_one ρ base w t) = rw (lt-leb (length t) ρ.longest h) refl in e) ∙ one_same

    module _ (short : length t ≤ ρ.longest) where
      one-read : {x : Read (Thing w)} → read_as ρ w t 0 ≡ x → outcome (whole base x) ≡ outcome (ask_one q base w t)
      one-read e = unfold ask_one in sym (ap outcome (so-then (base + 1) 0 _ (le-leb (length t) ρ.longest short) ∙ ap (whole base) e)) ∙ one_same

      pub one-stopped : {s : Stop} → turn_at t ρ (pattern_format (digit w) 1) 0 ≡ Err s → stop_answer base s ≡ outcome (ask_one q base w t)
      one-stopped e = unfold outcome whole in let f = was-fault w 0 e in f.answered base ∙ one-read f.reading

      pub one-done : {p : ℕ} → turn_at t ρ (pattern_format (digit w) 1) 0 ≡ Ok p → p ≡ length t → passed tt ≡ outcome (ask_one q base w t)
      unfolding outcome whole
      one-done {p} e h =
          let k : length t ≤ p = omega arith in
          let r = was_read w 0 e in
          one-read (r.reading ∙ ap (λ rest. got r.thing rest p) (drop_of_length-le t k))

      pub one-extra : {p : ℕ} → turn_at t ρ (pattern_format (digit w) 1) 0 ≡ Ok p → (p ≡ length t → ⊥) → refused (base + 6) p ≡ outcome (ask_one q base w t)
      unfolding outcome whole
      one-extra {p} e h =
          let r = was_read w 0 e in
          let k : p < length t = omega (arith, r.inside (omega arith)) in
          one-read (r.reading ∙ ap (λ rest. got r.thing rest p) (drop-cons t p 0 k))

-- THE FIRST RULE of a text
module _ (t : List ℕ) (ρ : Limits) where
  first_refused : ρ.longest < length t → ask_first ρ t ≡ refused 11 0
  first_refused long = unfold ask_first in not-then 11 0 (first (read_as ρ (expr rule) t 0)) (lt-leb (length t) ρ.longest long)

  first-asked : length t ≤ ρ.longest → ask_first ρ t ≡ first (read_as ρ (expr rule) t 0)
  first-asked short = unfold ask_first in so-then 11 0 (first (read_as ρ (expr rule) t 0)) (le-leb (length t) ρ.longest short)

  pub first-long : ρ.longest < length t → refused 11 0 ≡ outcome (ask_first ρ t)
  first-long long = sym (outcome-ends (first_refused long))

  pub first-done : {p : ℕ} → length t ≤ ρ.longest → turn_at t ρ (pattern_format 14 1) 0 ≡ Ok p → passed tt ≡ outcome (ask_first ρ t)
  first-done short e = unfold first outcome in sym (ap outcome (first-asked short ∙ ap first (was_read t ρ (expr rule) 0 e).reading))

  pub first-stopped : {s : Stop} → length t ≤ ρ.longest → turn_at t ρ (pattern_format 14 1) 0 ≡ Err s → stop_answer 10 s ≡ outcome (ask_first ρ t)
  first-stopped short e = unfold first outcome in let f = was-fault t ρ (expr rule) 0 e in f.answered 10 ∙ sym (ap outcome (first-asked short ∙ ap first f.reading))

-- RULE END
module _ (t : List ℕ) (ρ : Limits) (all-nodes : ρ ≡ text_limits max_nodes) where
  pub no-rule-long : ρ.longest < length t → [] ≡ first_rule t
  no-rule-long long = unfold first_rule in sym (after-ends (ap (λ q. ask_first q t) (sym all-nodes) ∙ first_refused t ρ long) code [])

  module _ (short : length t ≤ ρ.longest) where
    asked-first : {x : Read (Expr rule)} → read_as ρ (expr rule) t 0 ≡ x → first x ≡ ask_rule_end t
    asked-first e = sym (ap first e) ∙ sym (first-asked t ρ short) ∙ ap (λ q. ask_first q t) all-nodes

    pub no-rule : {s : Stop} → turn_at t ρ (pattern_format 14 1) 0 ≡ Err s → [] ≡ first_rule t
    no-rule e = unfold first_rule first after in ap (λ q. after q code []) (asked-first (was-fault t ρ (expr rule) 0 e).reading)

    pub the-rule : {p : ℕ} → turn_at t ρ (pattern_format 14 1) 0 ≡ Ok p → p - 0 ≡ length (first_rule t)
    unfolding first_rule first after
    the-rule {p} e =
        let r = was_read t ρ (expr rule) 0 e in
        let size : p - 0 ≡ length (code r.thing) = omega (arith, (read-is-written ρ (expr rule) 1 t 0 r.reading).place_is) in
        size ∙ ap (λ q. length (after q code [])) (asked-first r.reading)

    pub rule-inside : {p : ℕ} → turn_at t ρ (pattern_format 14 1) 0 ≡ Ok p → p ≤ length t
    rule-inside e = (was_read t ρ (expr rule) 0 e).inside (omega arith)
