-- A rule written along a way: at the end, and at a 35 both its ways.
use mathlib.Core.Path.{◌≡◌, refl, sym, ap, ◌∙◌}
use mathlib.Core.List.{List, [], ◌∷◌}
use Prim.Native.Nat.{ℕ, ◌+◌, ◌-◌, ◌<◌, ◌≤◌}
use native.Mathlib.Omega.{arith}
use lib.ListN.{length, get_or, set, take, drop}
use lib.Seq.{set-set, set-get_or}
use Rattle.logic.specs.Syntax.{rule, Expr, Edit}
use Rattle.text.specs.Code.{code, edit_code}
use Rattle.tree.specs.Tree.{Tree, tree, tree_code, graft, size}
use Rattle.tree.specs.Stack.{Substitution, env, written}
use Rattle.ends.specs.Shapes.{At}
use Rattle.ends.specs.Edits.{EditAt}
use Rattle.ends.specs.Books.{RuleAt}
use Rattle.ends.proofs.FirstSteps.{as-choose}
use Rattle.ends.proofs.Kept.{kept_more}
use Rattle.ends.proofs.Behind.{behind-stands}
use Rattle.ends.proofs.RulePlaces.{rule-at}
use Rattle.write.specs.Laid.{Wrote}
use Rattle.write.specs.Offsets.{StackIs}
use Rattle.write.specs.Writing.{SomeShown}
use Rattle.write.specs.Ways.{followed, Way, Walked, SomeTwo, Chosen, SomeCarried, WayWritten}
use Rattle.write.proofs.Laying.{wrote-more, wrote_as, wrote-stands}
use Rattle.write.proofs.Finding.{kept-all}
use Rattle.write.proofs.Choosing.{parted, end-written, choice-written, choice-length, first_way, second_way}

-- where the walk rests
pub rested : {text edit stack behind stack' : List ℕ} {from at h d at' h' d' pos room : ℕ} → SomeCarried text from edit stack behind at h d pos room → Walked edit stack behind at h d stack' at' h' d'
    → SomeCarried text from edit stack' behind at' h' d' pos room
rested w a =
    let s = w.way in
    let m = a.each s.steps s.what s.later s.way in
    record { way = record { steps = m.steps; what = m.what; later = m.later; way = m.way; low = a.low; low_behind = a.low_behind }; K = w.K; K-at = w.K-at; fits = omega (arith, w.fits, ap length (m.same w.K)) }

-- the end
pub end-some : {text edit stack behind : List ℕ} {from at h d pos room : ℕ} → SomeCarried text from edit stack behind at h d pos room → get_or edit at 0 ≡ 0x30 → d ≡ 0 → SomeShown text from edit stack h pos room
end-some {text} {edit} {stack} {behind} {from} w c z = record { steps = w.way.steps; is = w.way.way.steps_passed; stands = w.way.way.steps; what = tree w.K; what_at = rule-at text from w.K w.K-at; fits = omega (arith, w.fits, ap length (end-written w.way.way c z w.K)) }

pub end-carried : {text edit stack behind stack' o o' : List ℕ} {from at h d at' h' d' pos pos' : ℕ} → Walked edit stack behind at h d stack' at' h' d' → get_or edit at' 0 ≡ 0x30 → d' ≡ 0
    → ((σ : List Substitution) (t : Tree) → h' ≡ length σ → StackIs edit stack' σ → At text from t → Wrote o pos (tree_code (graft (env σ) t)) pos' o') → WayWritten text from edit stack behind at h d o pos pos' stack' behind o'
end-carried {text} {edit} {stack} {behind} {stack'} {o} {o'} {from} a c z f = record {
  wrote = λ σ Z Ws y K r. let m = a.each σ Z Ws y in wrote_as (end-written m.way c z K ∙ sym (m.same K)) (f m.steps (tree K) m.way.steps_passed m.way.steps (rule-at text from K r));
  kept = a.kept;
  again = refl;
}

pub end_read : {text edit stack behind : List ℕ} {from at h d pos room : ℕ} → SomeCarried text from edit stack behind at h d pos room → {next : ℕ}
    → ((σ : List Substitution) (t : Tree) → h ≡ length σ → StackIs edit stack σ → At text from t → next ≡ from + size t) → (K : Expr rule) → RuleAt text from K → next ≡ from + length (code K)
end_read w {next} f K r = behind-stands next (λ t a. f w.way.steps t w.way.way.steps_passed w.way.way.steps a) K r.place

-- further along a way that is still to be written, with some of the room used
pub record Further (text : List ℕ) (from : ℕ) (edit stack behind : List ℕ) (at h d pos pos' room : ℕ) : Type 0 where
  pub on : pos < pos'
  pub inside : pos < room
  pub some : SomeCarried text from edit stack behind at h d pos' room

-- a 35: its rule
module _ {text edit stack behind : List ℕ} {from at h d pos room : ℕ} (w : SomeCarried text from edit stack behind at h d pos room) (m : get_or edit at 0 ≡ 0x35) where
  pub first-shown : SomeShown edit (at + 1) edit stack h (pos + 3) room
  first-shown =
      let q = parted edit at m w.way.what w.way.way.here refl refl refl in
      record { steps = w.way.steps; is = w.way.way.steps_passed; stands = w.way.way.steps; what = tree q.test; what_at = q.test_at; fits = omega (arith, w.fits, choice-length w.way.way q w.K) }

  pub ways-some : {first : ℕ} → ((σ : List Substitution) (t : Tree) → h ≡ length σ → StackIs edit stack σ → At edit (at + 1) t → first ≡ at + 1 + size t) → SomeTwo edit first
  ways-some f =
      let c = as-choose edit at w.way.what w.way.way.here m in
      let a = f w.way.steps (tree c.K) w.way.way.steps_passed w.way.way.steps c.what in
      record { P = c.P; Q = c.Q; P-at = c.first _ a; Q-at = c.second _ (ap (λ (n : ℕ). n + length (edit_code c.P)) a) }

-- and its ways
module _ {edit behind : List ℕ} {at d first second next : ℕ} (C : (Z : Edit) → EditAt edit at Z → Chosen edit at first second next Z) (l : d < length behind) where
  module _ {text stack : List ℕ} {from h pos room : ℕ} (w : SomeCarried text from edit stack behind at h d pos room) where
    abbrev q : Chosen edit at first second next w.way.what
    q = C w.way.what w.way.way.here

    sizes : length (written w.way.steps (followed w.way.what w.way.later) w.K)
        ≡ 4 + length (tree_code (graft (env w.way.steps) (tree q.test))) + length (written w.way.steps (followed q.P (q.W ∷ w.way.later)) w.K)
        + length (tree_code (graft (env w.way.steps) (tree q.test))) + length (written w.way.steps (followed q.Q (q.W ∷ w.way.later)) w.K)
    sizes = choice-length w.way.way q w.K

    -- at either way, with what follows it on the stack
    further : {stack' behind' : List ℕ} {p pos' room' : ℕ} (Y : Edit) → Way edit stack' behind' p h (d + 1) w.way.steps Y (q.W ∷ w.way.later) → at + 2 ≤ p → pos < pos' → room' ≡ room
        → pos' + length (written w.way.steps (followed Y (q.W ∷ w.way.later)) w.K) ≤ room → Further text from edit stack' behind' p h (d + 1) pos pos' room'
    further Y y o l r f = record {
      on = l;
      inside = omega (arith, f);
      some = record { way = record { steps = w.way.steps; what = Y; later = q.W ∷ w.way.later; way = y; low = omega (arith, w.way.low, o); low_behind = omega (arith, w.way.low_behind, o) }; K = w.K; K-at = w.K-at; fits = omega (arith, f, r) };
    }

    module _ {o o₁ behind₁ : List ℕ} {p : ℕ} (f : (σ : List Substitution) (t : Tree) → h ≡ length σ → StackIs edit stack σ → At edit (at + 1) t → Wrote o pos (0x25 ∷ 0x26 ∷ 0x27 ∷ tree_code (graft (env σ) t)) p o₁) (e : behind₁ ≡ set behind d next) where
      first_counted : p ≡ pos + (3 + length (tree_code (graft (env w.way.steps) (tree q.test))))
      first_counted = omega (arith, (f w.way.steps (tree q.test) w.way.way.steps_passed w.way.way.steps q.test_at).counted)

      pub first-long : pos + 3 ≤ p
      first-long = omega (arith, first_counted)

      pub first-further : {room' : ℕ} → room' ≡ room → Further text from edit stack behind₁ first h (d + 1) pos p room'
      first-further r = further q.P (first_way w.way.way q kept-all e l) q.on (omega (arith, first_counted)) r (omega (arith, w.fits, sizes, first_counted))

      module _ {stack₂ behind₂ o₂ : List ℕ} {p₂ : ℕ} (c : WayWritten text from edit stack behind₁ first h (d + 1) o₁ p p₂ stack₂ behind₂ o₂) where
        first-wrote : Wrote o₁ p (written w.way.steps (followed q.P (q.W ∷ w.way.later)) w.K) p₂ o₂
        first-wrote = c.wrote w.way.steps q.P (q.W ∷ w.way.later) (first_way w.way.way q kept-all e l) w.K w.K-at

        pub second-room : {room' : ℕ} → room' ≡ room → (pos + 3 + (p - (pos + 3)) ≤ p₂) × (p₂ + 1 + (p - (pos + 3)) ≤ room')
        second-room r = (omega (arith, first_counted, first-wrote.counted), omega (arith, w.fits, sizes, first_counted, first-wrote.counted, r))

        -- what is written again is the rule of the 35, which still stands where it was written
        module _ {o₃ : List ℕ} {p₃ : ℕ} (x : room ≡ length o) (u : Wrote o₂ p₂ (0x26 ∷ take (p - (pos + 3)) (drop (pos + 3) o₂)) p₃ o₃) where
          pub second-opened : (σ : List Substitution) (t : Tree) → h ≡ length σ → StackIs edit stack σ → At edit (at + 1) t → Wrote o₂ p₂ (0x26 ∷ tree_code (graft (env σ) t)) p₃ o₃
          second-opened σ t n s a =
              wrote_as (ap (λ (bs : List ℕ). 0x26 ∷ bs) (wrote-stands (0x25 ∷ 0x26 ∷ 0x27 ∷ []) (f σ t n s a) first-wrote (omega (arith, w.fits, sizes, first_counted, first-wrote.counted, x)))) u

          third-counted : p₃ ≡ p₂ + (1 + length (tree_code (graft (env w.way.steps) (tree q.test))))
          third-counted = omega (arith, (second-opened w.way.steps (tree q.test) w.way.way.steps_passed w.way.way.steps q.test_at).counted)

          pub second-further : {room' : ℕ} → room' ≡ room → Further text from edit stack₂ behind₂ second h (d + 1) pos p₃ room'
          second-further r = further q.Q (second_way w.way.way q c.kept (c.again ∙ e) l) (omega (arith, q.on, q.between)) (omega (arith, first_counted, first-wrote.counted, third-counted)) r
              (omega (arith, w.fits, sizes, first_counted, first-wrote.counted, third-counted))

  pub choice-carried : {text stack₀ stack stack₂ stack₃ behind₁ behind₂ behind₃ behind₄ o o₁ o₂ o₃ o₄ : List ℕ} {from at₀ h₀ d₀ h pos p p₂ p₃ p₄ : ℕ} → Walked edit stack₀ behind at₀ h₀ d₀ stack at h d
      → ((σ : List Substitution) (t : Tree) → h ≡ length σ → StackIs edit stack σ → At edit (at + 1) t → Wrote o pos (0x25 ∷ 0x26 ∷ 0x27 ∷ tree_code (graft (env σ) t)) p o₁) → behind₁ ≡ set behind d next
      → WayWritten text from edit stack behind₁ first h (d + 1) o₁ p p₂ stack₂ behind₂ o₂
      → ((σ : List Substitution) (t : Tree) → h ≡ length σ → StackIs edit stack σ → At edit (at + 1) t → Wrote o₂ p₂ (0x26 ∷ tree_code (graft (env σ) t)) p₃ o₃)
      → WayWritten text from edit stack₂ behind₂ second h (d + 1) o₃ p₃ p₄ stack₃ behind₃ o₄ → behind₄ ≡ set behind₃ d (get_or behind d 0)
      → WayWritten text from edit stack₀ behind at₀ h₀ d₀ o pos p₄ stack₃ behind₄ o₄
  choice-carried a f e c g c' e' = record {
    wrote = λ σ Z Ws y K r.
        let m = a.each σ Z Ws y in
        let q = C m.what m.way.here in
        wrote_as (choice-written m.way q K ∙ sym (m.same K))
        (wrote-more (wrote-more (wrote-more
        (f m.steps (tree q.test) m.way.steps_passed m.way.steps q.test_at)
        (c.wrote m.steps q.P (q.W ∷ m.later) (first_way m.way q kept-all e l) K r))
        (g m.steps (tree q.test) m.way.steps_passed m.way.steps q.test_at))
        (c'.wrote m.steps q.Q (q.W ∷ m.later) (second_way m.way q c.kept (c.again ∙ e) l) K r));
    kept = kept_more a.up a.kept (kept_more (omega arith) c.kept c'.kept);
    again = e' ∙ ap (λ (b : List ℕ). set b d (get_or behind d 0)) (c'.again ∙ c.again ∙ e) ∙ set-set behind d next (get_or behind d 0) ∙ set-get_or behind d 0;
  }
