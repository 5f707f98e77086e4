-- Some and every one of the moves that can be made, and the lowest number in a set.
use mathlib.Core.Path.{◌≡◌, refl, sym, ◌∙◌, ap, ap₂, subst}
use mathlib.Core.Bool.{Bool, true, false, not, ◌&&◌, ◌||◌, cond}
use Prim.Native.Nat.{ℕ, zero, suc, ◌<◌}
use native.Mathlib.Omega.{arith}
use native.Mathlib.Decide.{dec_lt}
use lib.Dec.{ltb}
use lib.ListN.{length}
use borrow.Author.Tests.{ltb-true}
use Rattle.logic.specs.Graph.{Graph, Nodes, any_below, implies}
use Rattle.logic.proofs.Below.{any_found, any-not, all-not-any}
use Rattle.logic.proofs.Bools.{and_left, and_right, or_left_false, or_right_false, and-true-false}
use Rattle.game.specs.Game.{Side, Game, Move, pass, edit, edits_of, may_leave_def, leaves, can_make, legal, some_move, every_move, Lowest, nothing, at, lowest_below}

-- What being the lowest number means.
abbrev pub IsLowest : ℕ → Nodes → Lowest → Type 0
IsLowest n v nothing = (j : ℕ) → j < n → v j ≡ false
IsLowest n v (at i) = (i < n) × (v i ≡ true) × ((j : ℕ) → j < i → v j ≡ false)

pub lowest-right : (n : ℕ) (v : Nodes) → IsLowest n v (lowest_below n v)
unfolding lowest_below
lowest-right zero v = λ j l. absurd (omega arith)
lowest-right (suc n) v = go (lowest_below n v) (lowest-right n v) where
  last : (b : Bool) → v n ≡ b → ((j : ℕ) → j < n → v j ≡ false) → IsLowest (suc n) v (cond b (at n) nothing)
  last true e h = (omega arith, e, h)
  last false e h = λ j l. below j l (dec_lt j n) where
    below : (j : ℕ) → j < suc n → Dec (j < n) → v j ≡ false
    below j l (yes m) = h j m
    below j l (no m) = let q : j ≡ n = omega arith in subst (λ k. v k ≡ false) (sym q) e

  go : (x : Lowest) → IsLowest n v x → IsLowest (suc n) v (elim x [ at i ↦ at i | nothing ↦ cond (v n) (at n) nothing ])
  go (at i) h = (omega (arith, h.0), h.1, h.2)
  go nothing h = last (v n) refl h

module _ (G : Game) (s : Side) (g : Graph) where
  -- an edit that can be made is one of the side's
  pub edit-below : (i : ℕ) → legal G s g (edit i) ≡ true → i < length (edits_of G s)
  edit-below i h = unfold legal can_make in ltb-true i (length (edits_of G s)) (and_left (ltb i (length (edits_of G s))) (may_leave_def G s (leaves G s g (edit i))) h)

  pub some-found : (f : Move → Bool) → some_move G s g f ≡ true → (x : Move) × (legal G s g x ≡ true) × (f x ≡ true)
  unfolding some_move
  some-found f h = go (any_below (length (edits_of G s)) v) refl h where
    v : Nodes
    v i = legal G s g (edit i) && f (edit i)

    go : (a : Bool) → any_below (length (edits_of G s)) v ≡ a → (a || (legal G s g pass && f pass)) ≡ true → (x : Move) × (legal G s g x ≡ true) × (f x ≡ true)
    go true e t =
        let (i, l, b) = any_found (length (edits_of G s)) v e in
        (edit i, and_left (legal G s g (edit i)) (f (edit i)) b, and_right (legal G s g (edit i)) (f (edit i)) b)
    go false e t = (pass, and_left (legal G s g pass) (f pass) t, and_right (legal G s g pass) (f pass) t)

  pub some-not : (f : Move → Bool) → some_move G s g f ≡ false → (x : Move) → legal G s g x ≡ true → f x ≡ false
  unfolding some_move
  some-not f h pass a = and-true-false (legal G s g pass) (f pass) (or_right_false (any_below (length (edits_of G s)) (λ i. legal G s g (edit i) && f (edit i))) _ h) a
  some-not f h (edit i) a =
      and-true-false (legal G s g (edit i)) (f (edit i))
      (any-not (length (edits_of G s)) (λ i. legal G s g (edit i) && f (edit i)) (or_left_false (any_below (length (edits_of G s)) (λ i. legal G s g (edit i) && f (edit i))) _ h) i (edit-below i a))
      a

  -- every move is in f unless some move is not
  pub every-is : (f : Move → Bool) → every_move G s g f ≡ not (some_move G s g (λ x. not (f x)))
  unfolding some_move every_move
  every-is f =
      ap₂ ◌&&◌ (all-not-any (length (edits_of G s)) _ (λ i. legal G s g (edit i) && not (f (edit i))) (λ j l. either (legal G s g (edit j)) (f (edit j)))) (either (legal G s g pass) (f pass))
      ∙ neither (any_below (length (edits_of G s)) (λ i. legal G s g (edit i) && not (f (edit i)))) (legal G s g pass && not (f pass)) where
        either : (a b : Bool) → implies a b ≡ not (a && not b)
        either true true = refl
        either true false = refl
        either false b = refl

        neither : (a b : Bool) → (not a && not b) ≡ not (a || b)
        neither true b = refl
        neither false b = refl

  -- a side always has a move that can be made
  pub some-move : (x : Move) × (legal G s g x ≡ true)
  unfolding legal
  some-move = go (any_below (length (edits_of G s)) (can_make G s g)) refl where
    go : (a : Bool) → any_below (length (edits_of G s)) (can_make G s g) ≡ a → (x : Move) × (legal G s g x ≡ true)
    go true e = let (i, l, b) = any_found (length (edits_of G s)) (can_make G s g) e in (edit i, b)
    go false e = (pass, ap not e)
