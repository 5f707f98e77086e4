-- The answer of item 13 is right, in the item's words.
use mathlib.Core.Path.{◌≡◌, refl, ap, ap₂, subst}
use mathlib.Core.Bool.{Bool, true, false, ◌&&◌, cond}
use mathlib.Core.List.{[]}
use Prim.Native.Nat.{ℕ, suc, ◌<◌}
use native.Mathlib.Omega.{arith}
use native.Mathlib.Decide.{dec_lt}
use lib.ListN.{length}
use borrow.Author.Tests.{not-true}
use Rattle.logic.proofs.Below.{any-not}
use Rattle.logic.specs.Graph.{Graph}
use Rattle.game.specs.Game.{dispatcher, disruption, Game, Move, pass, edit, leaves, can_make, legal, forced, Lowest, nothing, at, lowest_below, lowest_move, Outcome, cannot, first, forces_by, answer}
use Rattle.game.specs.Strategies.{Strategy, continued, course, Won, AlwaysLegal, SomeBreaks, Begins, Right}
use Rattle.logic.proofs.Bools.{true-false, and_left, and_right, so, so-not, is_true, is_false}
use Rattle.game.proofs.Search.{IsLowest, lowest-right, edit-below, some-found}
use Rattle.game.proofs.Strategies.{dispatcher-moves, first-legal, begin, begin-wins, breaks, wins, won-legal, won-unbroken, forced-by, some_strategy, some_replies}

module _ (G : Game) (m : ℕ) (g : Graph) where
  legal-first : (x : Move) → forces_by G m g x ≡ true → legal G dispatcher g x ≡ true
  legal-first x h = unfold forces_by in and_left (legal G dispatcher g x) (forced G m disruption (leaves G dispatcher g x)) h

  -- A move forces a win exactly when some strategy that begins with it wins.
  forces-begins : (x : Move) → forces_by G m g x ≡ true → Begins G m g x
  unfolding forces_by
  forces-begins x h =
      let (p, w) = wins G m disruption (leaves G dispatcher g x) (and_right (legal G dispatcher g x) (forced G m disruption (leaves G dispatcher g x)) h) in
      (begin G x p, refl, begin-wins G m g x p (and_left (legal G dispatcher g x) (forced G m disruption (leaves G dispatcher g x)) h) w)

  begins-forces : (x : Move) → Begins G m g x → forces_by G m g x ≡ true
  unfolding forces_by
  begins-forces x (p, e, w) =
      subst (λ y. (legal G dispatcher g y && forced G m disruption (leaves G dispatcher g y)) ≡ true) e (ap₂ ◌&&◌ a (forced-by G m disruption (leaves G dispatcher g (p [])) (continued p (p [])) (λ q. subst (Won G) (dispatcher-moves G m g p q a) (w q))))
    where
      a : legal G dispatcher g (p []) ≡ true
      a = first-legal G m g p (λ q. won-legal G (course G (suc m) dispatcher g p q) (w q))

  -- What each answer says.
  abbrev Says : Outcome → Type 0
  Says cannot = (x : Move) → forces_by G m g x ≡ false
  Says (first pass) = forces_by G m g pass ≡ true
  Says (first (edit i)) = (forces_by G m g (edit i) ≡ true) × ((j : ℕ) → j < i → forces_by G m g (edit j) ≡ false)

  says : Says (answer G m g)
  unfolding answer lowest_move
  says = go (lowest_below (length G.dispatchers) (λ i. forces_by G m g (edit i))) (lowest-right (length G.dispatchers) (λ i. forces_by G m g (edit i))) where
    none : (b : Bool) → forces_by G m g pass ≡ b → ((j : ℕ) → j < length G.dispatchers → forces_by G m g (edit j) ≡ false) → Says (cond b (first pass) cannot)
    none true e h = e
    none false e h = no_move where
      no_move : (x : Move) → forces_by G m g x ≡ false
      no_move pass = e
      no_move (edit j) = is_false _ (λ f. true-false f (h j (edit-below G dispatcher g j (legal-first (edit j) f))))

    go : (l : Lowest) → IsLowest (length G.dispatchers) (λ i. forces_by G m g (edit i)) l → Says (elim l [ at i ↦ first (edit i) | nothing ↦ cond (forces_by G m g pass) (first pass) cannot ])
    go (at i) h = (h.1, h.2)
    go nothing h = none (forces_by G m g pass) refl h

  -- If a pass can be made, no edit can.
  pass_alone : (i : ℕ) {A : Type 0} → forces_by G m g pass ≡ true → forces_by G m g (edit i) ≡ true → A
  unfolding legal
  pass_alone i p e = true-false (legal-first (edit i) e) (any-not (length G.dispatchers) (can_make G dispatcher g) (not-true _ (legal-first pass p)) i (edit-below G dispatcher g i (legal-first (edit i) e)))

  -- Only the right answer says what is true.
  is-edit : (i : ℕ) → forces_by G m g (edit i) ≡ true → ((j : ℕ) → j < i → forces_by G m g (edit j) ≡ true → ⊥) → (a : Outcome) → Says a → a ≡ first (edit i)
  is-edit i t h cannot s = true-false t (s (edit i))
  is-edit i t h (first pass) s = pass_alone i s t
  is-edit i t h (first (edit k)) s = go (dec_lt k i) (dec_lt i k) where
    go : Dec (k < i) → Dec (i < k) → ◌≡◌ {A = Outcome} (first (edit k)) (first (edit i))
    go (yes l) d = absurd (h k l s.0)
    go (no l) (yes u) = true-false t (s.1 i u)
    go (no l) (no u) = let e : k ≡ i = omega arith in ap (λ x. first (edit x)) e

  is-pass : forces_by G m g pass ≡ true → (a : Outcome) → Says a → a ≡ first pass
  is-pass t cannot s = true-false t (s pass)
  is-pass t (first pass) s = refl
  is-pass t (first (edit i)) s = pass_alone i t s.0

  is-cannot : ((x : Move) → forces_by G m g x ≡ true → ⊥) → (a : Outcome) → Says a → a ≡ cannot
  is-cannot h cannot s = refl
  is-cannot h (first pass) s = absurd (h pass s)
  is-cannot h (first (edit i)) s = absurd (h (edit i) s.0)

  -- No win can be forced exactly when no move forces one.
  not-forced : ((x : Move) → forces_by G m g x ≡ false) → forced G (suc m) dispatcher g ≡ false
  unfolding forced forces_by
  not-forced h = is_false _ (λ e. let (x, a, t) = some-found G dispatcher g (λ x. forced G m disruption (leaves G dispatcher g x)) e in true-false (ap₂ ◌&&◌ a t) (h x))

  none-wins : forced G (suc m) dispatcher g ≡ false → (x : Move) → forces_by G m g x ≡ true → ⊥
  none-wins e x h = let (p, q, w) = forces-begins x h in true-false (forced-by G (suc m) dispatcher g p w) e

  unforced : answer G m g ≡ cannot → forced G (suc m) dispatcher g ≡ false
  unforced e = not-forced (subst Says e says)

  -- Item 13.
  pub right : Right G m g
  right = record {
    can = ((λ t. wins G (suc m) dispatcher g (is_true _ t)), (λ (p, w). so (forced-by G (suc m) dispatcher g p w)));
    cannot_when = ((λ e p f. breaks G (suc m) dispatcher g p (unforced e) f), (λ h. is-cannot (none-wins (is_false _ (broken h))) (answer G m g) says));
    cannot_forced = ((λ e. so-not (unforced e)), (λ t. is-cannot (none-wins (not-true _ (is_true _ t))) (answer G m g) says));
    first_edit = λ i. ((λ e. let (t, l) = subst Says e says in (forces-begins (edit i) t, λ j b k. true-false (begins-forces (edit j) k) (l j b))), (λ (b, l). is-edit i (begins-forces (edit i) b) (λ j k t. l j k (forces-begins (edit j) t)) (answer G m g) says));
    first_pass = ((λ e. forces-begins pass (subst Says e says)), (λ b. is-pass (begins-forces pass b) (answer G m g) says));
    some_strategy = some_strategy G (suc m) dispatcher g;
    some_replies = some_replies G (suc m) dispatcher g;
  } where
    broken : ((p : Strategy) → AlwaysLegal G (suc m) dispatcher g p → SomeBreaks G (suc m) dispatcher g p) → forced G (suc m) dispatcher g ≡ true → ⊥
    broken h t =
        let (p, w) = wins G (suc m) dispatcher g t in
        let (q, b) = h p (λ q. won-legal G (course G (suc m) dispatcher g p q) (w q)) in
        won-unbroken G (course G (suc m) dispatcher g p q) (w q) b
