-- The course of a play with the moves so far at hand: at each of the dispatcher's turns the strategy sees all of them.
use mathlib.Core.Path.{◌≡◌, refl, sym, ◌∙◌, ap, fun_ext}
use mathlib.Core.Bool.{true, false}
use mathlib.Core.List.{[], ◌∷◌, ◌++◌, append_assoc, append-nil}
use Prim.Native.Nat.{ℕ, zero, suc}
use Rattle.logic.specs.Graph.{Graph}
use Rattle.game.specs.Game.{Side, dispatcher, disruption, Game, Move, leaves, legal}
use Rattle.game.specs.Strategies.{History, Strategy, Replies, Course, ended, wrong, course}

pub told : Game → ℕ → Side → Graph → History → Strategy → Replies → Course
told G zero s g history p q = ended g
told G (suc m) dispatcher g history p q = elim (legal G dispatcher g (p history)) [ true ↦ told G m disruption (leaves G dispatcher g (p history)) (history ++ (p history ∷ [])) p q | false ↦ wrong dispatcher ]
told G (suc m) disruption g history p [] = wrong disruption
told G (suc m) disruption g history p (x ∷ q) = elim (legal G disruption g x) [ true ↦ told G m dispatcher (leaves G disruption g x) (history ++ (x ∷ [])) p q | false ↦ wrong disruption ]

joined : (history : History) (p : Strategy) (x : Move) → ◌≡◌ {A = Strategy} (λ later. p ((history ++ (x ∷ [])) ++ later)) (λ later. p (history ++ (x ∷ later)))
joined history p x = fun_ext (λ later. ap p (append_assoc history (x ∷ []) later))

-- it continues as the course does with the strategy after these moves
onwards : (G : Game) (m : ℕ) (s : Side) (g : Graph) (history : History) (p : Strategy) (q : Replies) → told G m s g history p q ≡ course G m s g (λ later. p (history ++ later)) q
unfolding told course
onwards G zero s g history p q = refl
onwards G (suc m) dispatcher g history p q =
    let h = leaves G dispatcher g (p history) in
    ap (step (p history)) (onwards G m disruption h (history ++ (p history ∷ [])) p q ∙ ap (λ r. course G m disruption h r q) (joined history p (p history)))
    ∙ ap (λ x. step x (course G m disruption (leaves G dispatcher g x) (λ later. p (history ++ (x ∷ later))) q)) (ap p (sym (append-nil history))) where
      step : Move → Course → Course
      step x c = elim (legal G dispatcher g x) [ true ↦ c | false ↦ wrong dispatcher ]
onwards G (suc m) disruption g history p [] = refl
onwards G (suc m) disruption g history p (x ∷ q) = λ t. elim (legal G disruption g x) [ true ↦ (onwards G m dispatcher (leaves G disruption g x) (history ++ (x ∷ [])) p q ∙ ap (λ r. course G m dispatcher (leaves G disruption g x) r q) (joined history p x)) t | false ↦ wrong disruption ]

-- From the beginning, with no moves so far, it is the course.
pub told_is : (G : Game) (m : ℕ) (s : Side) (g : Graph) (p : Strategy) (q : Replies) → told G m s g [] p q ≡ course G m s g p q
told_is G m s g p q = onwards G m s g [] p q
