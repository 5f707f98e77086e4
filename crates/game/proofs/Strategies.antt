-- A win can be forced exactly when some strategy wins against all replies; if none can, every strategy meets replies that break the goal.
use mathlib.Core.Path.{◌≡◌, refl, sym, ◌∙◌, subst}
use mathlib.Core.Bool.{Bool, true, false, not}
use mathlib.Core.List.{[], ◌∷◌}
use Prim.Native.Nat.{ℕ, zero, suc}
use borrow.Author.Tests.{not-true, not-false}
use Rattle.logic.specs.Graph.{Graph}
use Rattle.logic.specs.Meaning.{value}
use Rattle.game.specs.Game.{Side, dispatcher, disruption, Game, Move, pass, leaves, legal, forced}
use Rattle.game.specs.Strategies.{Strategy, continued, Replies, Course, ended, wrong, course, Legal, Won, Broken, Wins, AlwaysLegal, SomeBreaks}
use Rattle.logic.proofs.Bools.{true-false, so, so-not, is_true}
use Rattle.game.proofs.Search.{some-found, some-not, every-is, some-move}

is-so : (b : Bool) → (b ≡ false → ⊥) → b ≡ true
is-so true h = refl
is-so false h = absurd (h refl)

module _ (G : Game) where
  -- One move of a course that can be made.
  pub dispatcher-moves : (m : ℕ) (g : Graph) (p : Strategy) (q : Replies) → legal G dispatcher g (p []) ≡ true
      → course G (suc m) dispatcher g p q ≡ course G m disruption (leaves G dispatcher g (p [])) (continued p (p [])) q
  dispatcher-moves m g p q e = unfold course in rw (e, course)

  pub disruption-moves : (m : ℕ) (g : Graph) (p : Strategy) (x : Move) (q : Replies) → legal G disruption g x ≡ true
      → course G (suc m) disruption g p (x ∷ q) ≡ course G m dispatcher (leaves G disruption g x) (continued p x) q
  disruption-moves m g p x q e = unfold course in rw (e, course)

  -- A strategy that can be followed names a first move that can be made.
  pub first-legal : (m : ℕ) (g : Graph) (p : Strategy) → AlwaysLegal G (suc m) dispatcher g p → legal G dispatcher g (p []) ≡ true
  first-legal m g p f = unfold course in is-so _ (λ e. rw (e, Legal, course) at (f []))

  -- If no win can be forced, every strategy that can be followed meets replies that leave the goal broken.
  pub breaks : (m : ℕ) (s : Side) (g : Graph) (p : Strategy) → forced G m s g ≡ false → AlwaysLegal G m s g p → SomeBreaks G m s g p
  unfolding forced course
  breaks zero s g p e f = ([], so-not e)
  breaks (suc m) dispatcher g p e f =
      let a : legal G dispatcher g (p []) ≡ true = first-legal m g p f in
      let rest : forced G m disruption (leaves G dispatcher g (p [])) ≡ false = some-not G dispatcher g (λ x. forced G m disruption (leaves G dispatcher g x)) e (p []) a in
      let (q, b) = breaks m disruption (leaves G dispatcher g (p [])) (continued p (p [])) rest (λ q. subst Legal (dispatcher-moves m g p q a) (f q)) in
      (q, subst (Broken G) (sym (dispatcher-moves m g p q a)) b)
  breaks (suc m) disruption g p e f =
      let (x, a, l) = some-found G disruption g (λ x. not (forced G m dispatcher (leaves G disruption g x))) (not-false _ (sym (every-is G disruption g (λ x. forced G m dispatcher (leaves G disruption g x))) ∙ e)) in
      let (q, b) = breaks m dispatcher (leaves G disruption g x) (continued p x) (not-true _ l) (λ q. subst Legal (disruption-moves m g p x q a) (f (x ∷ q))) in
      (x ∷ q, subst (Broken G) (sym (disruption-moves m g p x q a)) b)

  -- The strategy that begins with x and continues with p.
  abbrev pub begin : Move → Strategy → Strategy
  begin x p [] = x
  begin x p (y ∷ history) = p history

  -- The strategy that continues with a strategy of its own for each of the disruption's moves.
  abbrev pub branches : (Move → Strategy) → Strategy
  branches p [] = pass
  branches p (x ∷ history) = p x history

  -- A strategy that wins after x wins with x before it, if x can be made;
  pub begin-wins : (m : ℕ) (g : Graph) (x : Move) (p : Strategy) → legal G dispatcher g x ≡ true → Wins G m disruption (leaves G dispatcher g x) p → Wins G (suc m) dispatcher g (begin x p)
  begin-wins m g x p a w q = subst (Won G) (sym (dispatcher-moves m g (begin x p) q a)) (w q)

  -- strategies that win after each move that the disruption can make win together.
  branches-win : (m : ℕ) (g : Graph) (p : Move → Strategy) → ((x : Move) → legal G disruption g x ≡ true → Wins G m dispatcher (leaves G disruption g x) (p x)) → Wins G (suc m) disruption g (branches p)
  unfolding course
  branches-win m g p w [] = tt
  branches-win m g p w (x ∷ q) = go (legal G disruption g x) refl where
    go : (b : Bool) → legal G disruption g x ≡ b → Won G (elim b [ true ↦ course G m dispatcher (leaves G disruption g x) (p x) q | false ↦ wrong disruption ])
    go true e = w x e q
    go false e = tt

  -- If a win can be forced, some strategy wins.
  pub wins : (m : ℕ) (s : Side) (g : Graph) → forced G m s g ≡ true → (p : Strategy) × Wins G m s g p
  unfolding forced course
  wins zero s g e = ((λ history. pass), (λ q. so e))
  wins (suc m) dispatcher g e =
      let (x, a, t) = some-found G dispatcher g (λ x. forced G m disruption (leaves G dispatcher g x)) e in
      let (p, w) = wins m disruption (leaves G dispatcher g x) t in
      (begin x p, begin-wins m g x p a w)
  wins (suc m) disruption g e = let after : (x : Move) → After x = λ x. go x (wins m dispatcher (leaves G disruption g x)) (forced G m dispatcher (leaves G disruption g x)) refl in (branches (λ x. (after x).0), branches-win m g (λ x. (after x).0) (λ x. (after x).1))
    where
      each : (x : Move) → legal G disruption g x ≡ true → forced G m dispatcher (leaves G disruption g x) ≡ true
      each x a = not-false _ (some-not G disruption g (λ x. not (forced G m dispatcher (leaves G disruption g x))) (not-true _ (sym (every-is G disruption g (λ x. forced G m dispatcher (leaves G disruption g x))) ∙ e)) x a)

      After : Move → Type 0
      After x = (p : Strategy) × (legal G disruption g x ≡ true → Wins G m dispatcher (leaves G disruption g x) p)

      go : (x : Move) → (forced G m dispatcher (leaves G disruption g x) ≡ true → (p : Strategy) × Wins G m dispatcher (leaves G disruption g x) p) → (b : Bool) → forced G m dispatcher (leaves G disruption g x) ≡ b → After x
      go x rest true f = ((rest f).0, λ a. (rest f).1)
      go x rest false f = ((λ history. pass), λ a. true-false (each x a) f)

  -- A strategy that wins can be followed, and no replies against it break the goal.
  pub won-legal : (c : Course) → Won G c → Legal c
  won-legal (ended h) w = tt
  won-legal (wrong dispatcher) w = w
  won-legal (wrong disruption) w = tt

  pub won-unbroken : (c : Course) → Won G c → Broken G c → ⊥
  won-unbroken (ended h) w b = let x = value h G.goal in true-false (is_true x w) (not-true x (is_true (not x) b))
  won-unbroken (wrong s) w b = b

  -- If some strategy wins, a win can be forced.
  pub forced-by : (m : ℕ) (s : Side) (g : Graph) (p : Strategy) → Wins G m s g p → forced G m s g ≡ true
  forced-by m s g p w = is-so _ (λ e. let (q, b) = breaks m s g p e (λ q. won-legal (course G m s g p q) (w q)) in won-unbroken (course G m s g p q) (w q) b)

  -- There is a strategy that can be followed,
  pub some_strategy : (m : ℕ) (s : Side) (g : Graph) → (p : Strategy) × AlwaysLegal G m s g p
  unfolding course
  some_strategy zero s g = ((λ history. pass), (λ q. tt))
  some_strategy (suc m) dispatcher g =
      let (x, a) = some-move G dispatcher g in
      let (p, f) = some_strategy m disruption (leaves G dispatcher g x) in
      (begin x p, λ q. subst Legal (sym (dispatcher-moves m g (begin x p) q a)) (f q))
  some_strategy (suc m) disruption g = (branches (λ x. (some_strategy m dispatcher (leaves G disruption g x)).0), go (λ x. some_strategy m dispatcher (leaves G disruption g x))) where
    one : (x : Move) (p : Strategy) → AlwaysLegal G m dispatcher (leaves G disruption g x) p → (q : Replies) (b : Bool) → Legal (elim b [ true ↦ course G m dispatcher (leaves G disruption g x) p q | false ↦ wrong disruption ])
    one x p f q true = f q
    one x p f q false = tt

    go : (r : (x : Move) → (p : Strategy) × AlwaysLegal G m dispatcher (leaves G disruption g x) p) → AlwaysLegal G (suc m) disruption g (branches (λ x. (r x).0))
    go r [] = tt
    go r (x ∷ q) = one x (r x).0 (r x).1 q (legal G disruption g x)

  -- and against each such strategy there are replies up to the end.
  pub some_replies : (m : ℕ) (s : Side) (g : Graph) (p : Strategy) → AlwaysLegal G m s g p → (q : Replies) × (h : Graph) × (course G m s g p q ≡ ended h)
  unfolding course
  some_replies zero s g p f = ([], g, refl)
  some_replies (suc m) dispatcher g p f =
      let a : legal G dispatcher g (p []) ≡ true = first-legal m g p f in
      let (q, h, e) = some_replies m disruption (leaves G dispatcher g (p [])) (continued p (p [])) (λ q. subst Legal (dispatcher-moves m g p q a) (f q)) in
      (q, h, dispatcher-moves m g p q a ∙ e)
  some_replies (suc m) disruption g p f =
      let (x, a) = some-move G disruption g in
      let (q, h, e) = some_replies m dispatcher (leaves G disruption g x) (continued p x) (λ q. subst Legal (disruption-moves m g p x q a) (f (x ∷ q))) in
      (x ∷ q, h, disruption-moves m g p x q a ∙ e)
