-- The walk back over an edit: its steps on the stack, the numbers, and the text without idle steps.
use mathlib.Core.Path.{◌≡◌, refl, sym, ap, ◌∙◌, subst}
use mathlib.Core.List.{List, ◌∷◌, ◌++◌}
use Prim.Native.Nat.{ℕ, zero, suc, ◌+◌, ◌-◌, ◌≤◌, ◌<◌}
use native.Mathlib.Omega.{arith}
use native.Mathlib.Nat.{add-zero}
use native.Mathlib.Decide.{dec_lt}
use lib.ListN.{length, get_or, set, drop, length-set}
use lib.Seq.{get_or-set_same}
use Rattle.logic.specs.Syntax.{Edit, finish}
use Rattle.text.specs.Code.{code, edit_code}
use Rattle.tree.specs.Tree.{Tree, tree, size}
use Rattle.tree.specs.Sizes.{Measure, back}
use Rattle.ends.specs.Shapes.{At}
use Rattle.ends.specs.Edits.{EditAt, SomeEdit, behind_step, behind_steps, NextAt}
use Rattle.ends.specs.Kept.{Kept}
use Rattle.ends.proofs.Kept.{elsewhere}
use Rattle.ends.proofs.Behind.{size-code}
use Rattle.ends.proofs.FirstSteps.{IsChoose, as-finish, as-choose, edit-inside, four}
use Rattle.measure.specs.State.{Holds}
use Rattle.measure.specs.Pruned.{pruned}
use Rattle.measure.specs.EditMeasures.{EditRoom, StepRoom, Held, StepOf, Pushed, ChoiceHeld, StepMeasured, Prefixed, Backed, PutBefore, EndBefore}
use Rattle.measure.proofs.Held.{holds-is}
use Rattle.measure.proofs.Firsts.{back-choose, pruned-choose}
use Rattle.measure.proofs.Puts.{head_of, end-tail}

-- steps put on the stack so far
pub record Going (text : List ℕ) (at : ℕ) (stack₀ stack : List ℕ) (top p n : ℕ) : Type 0 where
  pub steps : ℕ
  pub is : n ≡ top + steps
  pub np : n ≤ p
  pub ap : at ≤ p
  pub room : length stack ≡ length stack₀
  pub some : SomeEdit text p
  pub kept : Kept top stack₀ stack
  pub reached : (Z : Edit) → EditAt text at Z → EditAt text p (behind_steps steps Z)
  pub end : (Z : Edit) → EditAt text at Z → p + length (edit_code (behind_steps steps Z)) ≡ at + length (edit_code Z)
  pub each : (Z : Edit) → EditAt text at Z → (i : ℕ) → i < steps → StepOf text at Z i (get_or stack (top + i) 0) × (top + i ≤ get_or stack (top + i) 0)

pub going-first : {text : List ℕ} {at : ℕ} (stack : List ℕ) {top : ℕ} → top ≤ at → SomeEdit text at → Going text at stack stack top at top
unfolding behind_steps
going-first stack {top} l s = record {
  steps = 0;
  is = sym (add-zero top);
  np = l;
  ap = omega arith;
  room = refl;
  some = s;
  kept = record { same = λ i r. refl };
  reached = λ Z h. h;
  end = λ Z h. refl;
  each = λ Z h i r. absurd (omega arith);
}

pub going_more : {text : List ℕ} {at : ℕ} {stack₀ stack : List ℕ} {top p n next : ℕ} → n < length stack → (get_or text p 0 ≡ 0x30 → ⊥) → Going text at stack₀ stack top p n
    → ((Z : Edit) → EditAt text p Z → NextAt text p Z next) → Going text at stack₀ (set stack n p) top next (n + 1)
unfolding behind_steps
going_more {text} {at} {stack₀} {stack} {top} {p} {n} l m g f =
    let s = f g.some.what g.some.stands in
    record {
      steps = suc g.steps;
      is = omega (arith, g.is);
      np = omega (arith, g.np, s.on);
      ap = omega (arith, g.ap, s.on);
      room = length-set stack n p ∙ g.room;
      some = record { what = behind_step g.some.what; stands = s.stands };
      kept = record { same = λ i r. elsewhere stack n i p (λ e. omega (arith, g.is)) ∙ g.kept.same i r };
      reached = λ Z h. (f (behind_steps g.steps Z) (g.reached Z h)).stands;
      end = λ Z h. (f (behind_steps g.steps Z) (g.reached Z h)).ends ∙ g.end Z h;
      each = λ Z h i r. each Z h i r (dec_lt i g.steps);
    } where
      each : (Z : Edit) → EditAt text at Z → (i : ℕ) → i < suc g.steps → Dec (i < g.steps) → StepOf text at Z i (get_or (set stack n p) (top + i) 0) × (top + i ≤ get_or (set stack n p) (top + i) 0)
      each Z h i r (yes q) = rw (elsewhere stack n (top + i) p (λ e. omega (arith, g.is, q))) (g.each Z h i q)
      each Z h i r (no q) =
          let e : top + i ≡ n = omega (arith, g.is) in
          let j : i ≡ g.steps = omega arith in
          rw (e, get_or-set_same stack n p 0 l, j) (record { stands = g.reached Z h; step = m; low = g.ap; reach = g.end Z h }, g.np)

pub going_end : {text : List ℕ} {at : ℕ} {stack₀ stack : List ℕ} {top p n : ℕ} → get_or text p 0 ≡ 0x30 → Going text at stack₀ stack top p n → (Z : Edit) → EditAt text at Z → Pushed text at Z stack top n
going_end {text} {p = p} e g Z h = record { steps = g.steps; ends = g.is; each = g.each Z h; last = as-finish text p (behind_steps g.steps Z) (g.reached Z h) e }

-- Steps of an edit still on the stack; from `start` on stands the text of what follows them, without its idle steps.
-- The numbers, bytes and place with ₀ are those from before the first of them.
pub record Backing (text : List ℕ) (at rules top : ℕ) (stack₀ stack state₀ state out₀ out : List ℕ) (start₀ n start : ℕ) : Type 0 where
  pub left : ℕ
  pub is : n ≡ top + left
  pub some : EditRoom text at (start₀ + 1)
  pub held : Held state₀
  pub room : length stack ≡ length stack₀
  pub long : length state ≡ 130
  pub wide : length out ≡ length out₀
  pub below : start ≤ start₀
  pub kept : Kept top stack₀ stack
  pub each : (Z : Edit) → EditAt text at Z → (i : ℕ) → i < left → StepOf text at Z i (get_or stack (top + i) 0) × (top + i ≤ get_or stack (top + i) 0)
  pub sofar : (Z : Edit) → EditAt text at Z → (M : Measure) → Holds state₀ M → Holds state (back rules (behind_steps left Z) M)
  pub wrote : (Z : Edit) → EditAt text at Z → (M : Measure) → Holds state₀ M → drop start out ≡ edit_code (pruned rules (behind_steps left Z) M) ++ drop (start₀ + 1) out₀
  pub used : (Z : Edit) → EditAt text at Z → start₀ + 1 ≤ start + length (edit_code (behind_steps left Z))

pub backing-first : {text : List ℕ} {at top : ℕ} (rules : ℕ) {stack₀ stack state out : List ℕ} {n start : ℕ} → EditRoom text at (start + 1) → Held state → length stack ≡ length stack₀
    → ((Z : Edit) → EditAt text at Z → Pushed text at Z stack top n) → Kept top stack₀ stack → drop start out ≡ 0x30 ∷ drop (start + 1) out → Backing text at rules top stack₀ stack state state out out start n start
unfolding back pruned edit_code
backing-first {text} {at} rules {out = out} {start = start} s h l f k e₀ =
    let p = f s.what s.stands in
    record {
      left = p.steps;
      is = p.ends;
      some = s;
      held = h;
      room = l;
      long = h.long;
      wide = refl;
      below = omega arith;
      kept = k;
      each = λ Z a i r. let q = f Z a in q.each i (omega (arith, p.ends, q.ends));
      sofar = λ Z a M m. holds-is (sym (λ t. back rules (none Z a t) M)) m;
      wrote = λ Z a M m. e₀ ∙ sym (λ t. edit_code (pruned rules (none Z a t) M) ++ drop (start + 1) out);
      used = λ Z a. omega (arith, ap (λ (Y : Edit). length (edit_code Y)) (none Z a));
    } where
      none : (Z : Edit) → EditAt text at Z → behind_steps (f s.what s.stands).steps Z ≡ finish
      none Z a = let p = f s.what s.stands in let q = f Z a in let e : p.steps ≡ q.steps = omega (arith, p.ends, q.ends) in rw e q.last

pub record Next (text : List ℕ) (at rules top : ℕ) (stack₀ stack state₀ state out₀ out : List ℕ) (start₀ n start : ℕ) : Type 0 where
  pub what : StepRoom text (get_or stack n 0) start
  pub step : get_or text (get_or stack n 0) 0 ≡ 0x30 → ⊥
  pub above : at ≤ get_or stack n 0
  pub lower : n ≤ get_or stack n 0
  pub held : Held state
  pub more : (stack' state' out' : List ℕ) (start' : ℕ) → length stack' ≡ length stack → length state' ≡ length state → length out' ≡ length out
      → ((Z : Edit) → EditAt text (get_or stack n 0) Z → StepMeasured rules Z state state' × Prefixed rules Z state out start out' start') → Kept n stack stack' → Backing text at rules top stack₀ stack' state₀ state' out₀ out' start₀ n start'

pub backing-next : {text : List ℕ} {at rules top : ℕ} {stack₀ stack state₀ state out₀ out : List ℕ} {start₀ n start : ℕ} → top < n → Backing text at rules top stack₀ stack state₀ state out₀ out start₀ n start
    → Next text at rules top stack₀ stack state₀ state out₀ out start₀ (n - 1) start
unfolding behind_steps
backing-next {text} {at} {rules} {top} {stack₀} {stack} {state₀} {state} {out₀} {out} {start₀} {n} {start} l b = go b.left refl where
  go : (j : ℕ) → b.left ≡ j → Next text at rules top stack₀ stack state₀ state out₀ out start₀ (n - 1) start
  go zero e = absurd (omega (arith, b.is))
  go (suc j) e =
      let Z₀ = b.some.what in
      let h₀ = b.some.stands in
      let s = here Z₀ h₀ in
      record {
        what = record { what = behind_steps j Z₀; stands = s.0.stands; room = omega (arith, s.0.reach, b.some.room, used Z₀ h₀) };
        step = s.0.step;
        above = s.0.low;
        lower = omega (arith, s.1, m);
        held = record { long = b.long; M = _; holds = b.sofar Z₀ h₀ b.held.M b.held.holds };
        more = λ stack' state' out' start' p q o f k. record {
          left = j;
          is = m;
          some = b.some;
          held = b.held;
          room = p ∙ b.room;
          long = q ∙ b.long;
          wide = o ∙ b.wide;
          below = omega (arith, b.below, (f (behind_steps j Z₀) s.0.stands).1.low);
          kept = record { same = λ i r. k.same i (omega (arith, m)) ∙ b.kept.same i r };
          each = λ Z a i r. rw (k.same (top + i) (omega (arith, m, r))) (b.each Z a i (omega (arith, e, r)));
          sofar = λ Z a M h. (f (behind_steps j Z) (here Z a).0.stands).0.holds M (later Z a M h);
          wrote = λ Z a M h. (f (behind_steps j Z) (here Z a).0.stands).1.text M (later Z a M h) _ (b.wrote Z a M h ∙ (λ t. edit_code (pruned rules (behind_steps (e t) Z) M) ++ drop (start₀ + 1) out₀));
          used = λ Z a. omega (arith, used Z a, (f (behind_steps j Z) (here Z a).0.stands).1.room);
        };
      } where
        m : n - 1 ≡ top + j
        m = omega (arith, b.is, e)

        here : (Z : Edit) → EditAt text at Z → StepOf text at Z j (get_or stack (n - 1) 0) × (top + j ≤ get_or stack (n - 1) 0)
        here Z a = rw m (b.each Z a j (omega (arith, e)))

        later : (Z : Edit) → EditAt text at Z → (M : Measure) → Holds state₀ M → Holds state (back rules (behind_step (behind_steps j Z)) M)
        later Z a M h = holds-is (λ t. back rules (behind_steps (e t) Z) M) (b.sofar Z a M h)

        used : (Z : Edit) → EditAt text at Z → start₀ + 1 ≤ start + length (edit_code (behind_step (behind_steps j Z)))
        used Z a = omega (arith, b.used Z a, ap (λ (i : ℕ). length (edit_code (behind_steps i Z))) e)

pub backing-end : {text : List ℕ} {at rules top : ℕ} {stack₀ stack state₀ state out₀ out : List ℕ} {start₀ n start : ℕ} → n ≤ top → Backing text at rules top stack₀ stack state₀ state out₀ out start₀ n start
    → {outₑ : List ℕ} {pos : ℕ} → EndBefore outₑ pos out₀ start₀ → (Z : Edit) → EditAt text at Z → Backed rules Z state₀ outₑ pos state out start
unfolding behind_steps
backing-end {rules = rules} {out₀ = out₀} {start₀ = start₀} l b {outₑ} {pos} w Z a =
    let e : b.left ≡ 0 = omega (arith, b.is) in
    record {
      holds = λ M h. holds-is (λ t. back rules (behind_steps (e t) Z) M) (b.sofar Z a M h);
      text = λ M h. b.wrote Z a M h ∙ (λ t. edit_code (pruned rules (behind_steps (e t) Z) M) ++ end-tail outₑ pos out₀ start₀ w t);
      room = omega (arith, b.used Z a, w.start, ap (λ (i : ℕ). length (edit_code (behind_steps i Z))) e);
      low = omega (arith, b.below, w.start);
    }

-- a 35 at `at`, with its two ways at `first` and `second`
pub record Parted (text : List ℕ) (at first second : ℕ) (Z : Edit) : Type 0 where
  pub parts : IsChoose text at Z
  pub first-is : first ≡ at + 1 + size (tree parts.K)
  pub second_is : second ≡ first + length (edit_code parts.P)
  pub first_at : EditAt text first parts.P
  pub second_at : EditAt text second parts.Q
  pub first-in : first < length text
  pub second-in : second < length text

module _ {text : List ℕ} {at first second : ℕ} (m : get_or text at 0 ≡ 0x35) (f : (t : Tree) → At text (at + 1) t → first ≡ at + 1 + size t) (g : (Y : Edit) → EditAt text first Y → second ≡ first + length (edit_code Y)) where
  pub parted : (Z : Edit) → EditAt text at Z → Parted text at first second Z
  parted Z h =
      let c = as-choose text at Z h m in
      let a = f (tree c.K) c.what in
      let p = c.first first a in
      let b = g c.P p in
      let q = c.second second (omega arith) in
      record { parts = c; first-is = a; second_is = b; first_at = p; second_at = q; first-in = edit-inside text first c.P p; second-in = edit-inside text second c.Q q }

  -- the state, and the text
  module _ (rules : ℕ) {state state₂ other₁ other₂ out out₁ out₂ : List ℕ} {pos q p : ℕ} (k : other₁ ≡ state) (b₂ : (Y : Edit) → EditAt text second Y → Backed rules Y state out pos state₂ out₁ q)
      (b₁ : (Y : Edit) → EditAt text first Y → Backed rules Y other₁ out₁ q other₂ out₂ p) where
    pub choice-measured : {state₃ : List ℕ} → ((K : Tree) → At text (at + 1) K → ChoiceHeld rules K other₂ state₂ state₃) → (Z : Edit) → EditAt text at Z → StepMeasured rules Z state state₃
    choice-measured j Z h =
        let w = parted Z h in
        let c = w.parts in
        record { holds = λ M x. holds-is (sym (back-choose c rules M)) ((j (tree c.K) c.what).holds _ _ ((b₁ c.P w.first_at).holds _ (subst (λ l. Holds l (back rules (behind_step Z) M)) (sym k) x)) ((b₂ c.Q w.second_at).holds _ x)) }

    pub choice-prefixed : {out₃ : List ℕ} {r : ℕ} → PutBefore text at first out₂ p out₃ r → (Z : Edit) → EditAt text at Z → Prefixed rules Z state out pos out₃ r
    choice-prefixed w Z h =
        let d = parted Z h in
        let c = d.parts in
        let bP = b₁ c.P d.first_at in
        let bQ = b₂ c.Q d.second_at in
        let n : length (0x35 ∷ code c.K) ≡ first - at = omega (arith, size-code c.K) in
        record {
          text = λ M x tail e.
              let tQ = bQ.text _ x ∙ ap (edit_code (pruned rules c.Q (back rules (behind_step Z) M)) ++◌) e in
              let tP = bP.text _ (subst (λ l. Holds l (back rules (behind_step Z) M)) (sym k) x) ∙ ap (edit_code (pruned rules c.P (back rules (behind_step Z) M)) ++◌) tQ in
              w.put_is ∙ (λ t. head_of text at (0x35 ∷ code c.K) c.tail (first - at) c.split n t ++ tP t)
              ∙ sym (four (0x35 ∷ code c.K) _ _ _ tail) ∙ (λ t. sym (pruned-choose c rules M) t ++ tail);
          room = omega (arith, w.start, bP.room, bQ.room);
          low = omega (arith, w.start, bP.low, bQ.low);
        }
