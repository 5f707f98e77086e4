-- A property of each element of a list: what follows from it, lists made from others, and the elements from a place on.
use mathlib.Core.List.{List, [], ◌∷◌, ◌++◌, map}
use Prim.Native.Nat.{ℕ, zero, suc}
use lib.ListN.{drop}
use Rattle.logic.specs.Lists.{All}

pub all_so : {A : Type 0} {P Q : A → Type 0} → ((x : A) → P x → Q x) → (xs : List A) → All P xs → All Q xs
all_so f [] h = tt
all_so f (x ∷ xs) h = (f x h.0, all_so f xs h.1)

pub all_map : {A B : Type 0} {P : A → Type 0} (Q : B → Type 0) (f : A → B) → ((x : A) → P x → Q (f x)) → (xs : List A) → All P xs → All Q (map f xs)
all_map Q f g [] h = tt
all_map Q f g (x ∷ xs) h = (g x h.0, all_map Q f g xs h.1)

pub all_drop : {A : Type 0} (P : A → Type 0) (i : ℕ) (xs : List A) → All P xs → All P (drop i xs)
all_drop P zero xs h = h
all_drop P (suc i) [] h = tt
all_drop P (suc i) (x ∷ xs) h = all_drop P i xs h.1

pub all_append : {A : Type 0} (P : A → Type 0) (xs ys : List A) → All P (xs ++ ys) → All P xs × All P ys
all_append P [] ys h = (tt, h)
all_append P (x ∷ xs) ys h = let q = all_append P xs ys h.1 in ((h.0, q.0), q.1)

-- Facts nested in one another, the last outermost: what a `match` knows about the keys that it has passed.
abbrev pub Nested : {A : Type 0} → Type 0 → (A → Type 0) → List A → Type 0
Nested S P [] = S
Nested S P (x ∷ xs) = Nested (S × P x) P xs

pub all-nested : {A : Type 0} (S : Type 0) (P : A → Type 0) (xs : List A) → Nested S P xs → S × All P xs
all-nested S P [] h = (h, tt)
all-nested S P (x ∷ xs) h = let q = all-nested (S × P x) P xs h in (q.0.0, (q.0.1, q.1))
