-- The numbers below n + m: whether some are in a set, whether all are, and how many, from those below n and those from n on.
use mathlib.Core.Path.{◌≡◌, refl, sym, ◌∙◌, ap, ap₂}
use mathlib.Core.Bool.{Bool, true, false, ◌&&◌, ◌||◌, cond, or-false, or_assoc, and-true, and_assoc}
use Prim.Native.Nat.{ℕ, zero, suc, ◌+◌, ◌<◌}
use native.Mathlib.Nat.{add-suc, add-zero, zero-add}
use Rattle.logic.specs.Graph.{Nodes, any_below, all_below, count_below}
use Rattle.logic.proofs.Below.{any-cong, all-cong, count-cong, any_none, all_true}

module _ (v u : Nodes) where
  -- v from n on is u
  pub any-onwards : (n m : ℕ) → ((j : ℕ) → v (n + j) ≡ u j) → any_below (n + m) v ≡ (any_below n v || any_below m u)
  unfolding any_below
  any-onwards n zero h = ap (λ k. any_below k v) (add-zero n) ∙ sym (or-false (any_below n v))
  any-onwards n (suc m) h = ap (λ k. any_below k v) (add-suc n m) ∙ ap₂ ◌||◌ (any-onwards n m h) (h m) ∙ or_assoc (any_below n v) (any_below m u) (u m)

  pub all-onwards : (n m : ℕ) → ((j : ℕ) → v (n + j) ≡ u j) → all_below (n + m) v ≡ (all_below n v && all_below m u)
  unfolding all_below
  all-onwards n zero h = ap (λ k. all_below k v) (add-zero n) ∙ sym (and-true (all_below n v))
  all-onwards n (suc m) h = ap (λ k. all_below k v) (add-suc n m) ∙ ap₂ ◌&&◌ (all-onwards n m h) (h m) ∙ and_assoc (all_below n v) (all_below m u) (u m)

  pub count-onwards : (n m : ℕ) → ((j : ℕ) → v (n + j) ≡ u j) → count_below (n + m) v ≡ count_below n v + count_below m u
  unfolding count_below
  count-onwards n zero h = ap (λ k. count_below k v) (add-zero n) ∙ sym (add-zero (count_below n v))
  count-onwards n (suc m) h = ap (λ k. count_below k v) (add-suc n m) ∙ ap₂ (λ b c. cond b (suc c) c) (h m) (count-onwards n m h) ∙ one (u m) where
    one : (b : Bool) → cond b (suc (count_below n v + count_below m u)) (count_below n v + count_below m u) ≡ count_below n v + cond b (suc (count_below m u)) (count_below m u)
    one true = sym (add-suc (count_below n v) (count_below m u))
    one false = refl

count_none : (n : ℕ) → count_below n (λ j. false) ≡ 0
unfolding count_below
count_none zero = refl
count_none (suc n) = count_none n

-- If none from n on counts; if none below n counts.
module _ (v u : Nodes) (n m : ℕ) where
  pub any-first : ((j : ℕ) → j < n → v j ≡ u j) → ((j : ℕ) → v (n + j) ≡ false) → any_below (n + m) v ≡ any_below n u
  any-first h k = any-onwards v (λ j. false) n m k ∙ ap₂ ◌||◌ (any-cong n v u h) (any_none m (λ j. false) (λ j l. refl)) ∙ or-false (any_below n u)

  pub any-second : ((j : ℕ) → j < n → v j ≡ false) → ((j : ℕ) → v (n + j) ≡ u j) → any_below (n + m) v ≡ any_below m u
  any-second h k = any-onwards v u n m k ∙ ap (◌|| any_below m u) (any_none n v h)

  pub all_first : ((j : ℕ) → j < n → v j ≡ u j) → ((j : ℕ) → v (n + j) ≡ true) → all_below (n + m) v ≡ all_below n u
  all_first h k = all-onwards v (λ j. true) n m k ∙ ap₂ ◌&&◌ (all-cong n v u h) (all_true m (λ j. true) (λ j l. refl)) ∙ and-true (all_below n u)

  pub all-second : ((j : ℕ) → j < n → v j ≡ true) → ((j : ℕ) → v (n + j) ≡ u j) → all_below (n + m) v ≡ all_below m u
  all-second h k = all-onwards v u n m k ∙ ap (◌&& all_below m u) (all_true n v h)

  pub count-first : ((j : ℕ) → j < n → v j ≡ u j) → ((j : ℕ) → v (n + j) ≡ false) → count_below (n + m) v ≡ count_below n u
  count-first h k = count-onwards v (λ j. false) n m k ∙ ap₂ ◌+◌ (count-cong n v u h) (count_none m) ∙ add-zero (count_below n u)

  pub count-second : ((j : ℕ) → j < n → v j ≡ false) → ((j : ℕ) → v (n + j) ≡ u j) → count_below (n + m) v ≡ count_below m u
  count-second h k = count-onwards v u n m k ∙ ap (◌+ count_below m u) (count-cong n v (λ j. false) h ∙ count_none n) ∙ zero-add (count_below m u)
