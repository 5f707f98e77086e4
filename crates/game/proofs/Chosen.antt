-- The search by sides agrees with the game: it finds the answer for the dispatcher, and one side gets what it wants exactly when the other has no move.
use mathlib.Core.Path.{◌≡◌, refl, sym, ◌∙◌, ap}
use mathlib.Core.Bool.{Bool, true, false, not, ◌&&◌, ◌||◌, cond}
use Prim.Native.Nat.{ℕ, zero, suc, ◌<◌}
use native.Mathlib.Omega.{arith}
use native.Mathlib.Decide.{dec_lt}
use lib.ListN.{length}
use Rattle.logic.specs.Graph.{Graph, Nodes, any_below}
use Rattle.logic.specs.Meaning.{value}
use Rattle.game.specs.Game.{Side, dispatcher, disruption, Game, Move, pass, edit, edits_of, leaves, can_make, legal, some_move, forced, Lowest, nothing, at, lowest_below, Outcome, cannot, first, lowest_move, forces_by, answer}
use Rattle.game.specs.Search.{side_of, goes_well_def, serves, chosen}
use Rattle.logic.proofs.Below.{any_none, any-one}
use Rattle.logic.proofs.Bools.{true-false}
use Rattle.game.proofs.Search.{IsLowest, lowest-right, every-is}

-- The dispatcher's move is the answer.
pub chosen-answer : (G : Game) (m : ℕ) (g : Graph) → chosen G m true g ≡ answer G m g
chosen-answer G m g = unfold chosen answer serves goes_well_def forces_by in refl

abbrev pub is_cannot : Outcome → Bool
is_cannot cannot = true
is_cannot (first x) = false

-- the edit with the lowest number, else a pass if it serves
abbrev or_pass : Lowest → Bool → Outcome
or_pass l b = elim l [ at i ↦ first (edit i) | nothing ↦ cond b (first pass) cannot ]

-- No number is found exactly when none is in the set,
lowest-none : (n : ℕ) (v : Nodes) (b : Bool) → is_cannot (or_pass (lowest_below n v) b) ≡ not (any_below n v || b)
lowest-none n v b = go (lowest_below n v) (lowest-right n v) b where
  go : (l : Lowest) → IsLowest n v l → (b : Bool) → is_cannot (or_pass l b) ≡ not (any_below n v || b)
  go (at i) h b = rw (any-one n v i h.0 h.1)
  go nothing h true = rw (any_none n v h)
  go nothing h false = rw (any_none n v h)

-- and a side has no move exactly when no move that it can make serves.
none-serves : (G : Game) (s : Side) (g : Graph) (f : Move → Bool) → is_cannot (lowest_move (length (edits_of G s)) (λ x. legal G s g x && f x)) ≡ not (some_move G s g f)
none-serves G s g f = unfold lowest_move some_move in lowest-none (length (edits_of G s)) (λ i. legal G s g (edit i) && f (edit i)) (legal G s g pass && f pass)

module _ (G : Game) (g : Graph) where
  pub well-over : (ours : Bool) → goes_well_def G zero ours g ≡ cond ours (value g G.goal) (not (value g G.goal))
  unfolding goes_well_def forced
  well-over true = refl
  well-over false = refl

  pub well-more : (m : ℕ) (ours : Bool) → goes_well_def G (suc m) ours g ≡ is_cannot (chosen G m (not ours) g)
  unfolding goes_well_def forced chosen serves
  well-more m true = every-is G disruption g (λ x. forced G m dispatcher (leaves G disruption g x)) ∙ sym (none-serves G disruption g (λ x. not (forced G m dispatcher (leaves G disruption g x))))
  well-more m false = sym (none-serves G dispatcher g (λ x. forced G m disruption (leaves G dispatcher g x)))

-- Only the lowest number has that property.
lowest-is : (n : ℕ) (v : Nodes) (l : Lowest) → IsLowest n v l → lowest_below n v ≡ l
lowest-is n v l h = go (lowest_below n v) l (lowest-right n v) h where
  go : (k l : Lowest) → IsLowest n v k → IsLowest n v l → k ≡ l
  go nothing nothing a b = refl
  go nothing (at i) a b = true-false b.1 (a i b.0)
  go (at i) nothing a b = true-false a.1 (b i a.0)
  go (at i) (at j) a b = order (dec_lt i j) (dec_lt j i) where
    order : Dec (i < j) → Dec (j < i) → ◌≡◌ {A = Lowest} (at i) (at j)
    order (yes l) d = true-false a.1 (b.2 i l)
    order (no l) (yes d) = true-false b.1 (a.2 j d)
    order (no l) (no d) = let e : i ≡ j = omega arith in ap at e

module _ (G : Game) (m : ℕ) (ours : Bool) (g : Graph) where
  abbrev edits : ℕ
  edits = length (edits_of G (side_of ours))

  -- The first edit that serves is chosen;
  pub chosen-edit : (i : ℕ) → i < edits → serves G m ours g (edit i) ≡ true → ((j : ℕ) → j < i → serves G m ours g (edit j) ≡ false) → chosen G m ours g ≡ first (edit i)
  unfolding chosen lowest_move
  chosen-edit i l e none = ap (λ (l : Lowest). or_pass l (serves G m ours g pass)) (lowest-is edits (λ j. serves G m ours g (edit j)) (at i) (l, e, none))

  -- if none does, a pass if it serves.
  pub chosen_last : ((j : ℕ) → j < edits → serves G m ours g (edit j) ≡ false) → (b : Bool) → serves G m ours g pass ≡ b → chosen G m ours g ≡ cond b (first pass) cannot
  unfolding chosen lowest_move
  chosen_last none b e = ap (λ (l : Lowest). or_pass l (serves G m ours g pass)) (lowest-is edits (λ j. serves G m ours g (edit j)) nothing none) ∙ ap (λ (c : Bool). cond c (first pass) cannot) e

  -- A pass cannot be made if an edit can; if none can, the pass serves when the side then gets what it wants.
  pub no-pass : any_below edits (can_make G (side_of ours) g) ≡ true → serves G m ours g pass ≡ false
  no-pass e = unfold serves legal in ap (λ (b : Bool). not b && goes_well_def G m ours (leaves G (side_of ours) g pass)) e

  pub pass-serves : any_below edits (can_make G (side_of ours) g) ≡ false → serves G m ours g pass ≡ goes_well_def G m ours g
  pass-serves e = unfold serves legal leaves in ap (λ (b : Bool). not b && goes_well_def G m ours g) e
