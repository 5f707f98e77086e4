-- There are as many as of those they are matched with, one to one.
use mathlib.Core.Path.{◌≡◌, refl, sym, ◌∙◌, ap, subst}
use mathlib.Core.Logic.{inl, inr}
use mathlib.Core.List.{List, [], ◌∷◌, map}
use Prim.Native.Nat.{ℕ}
use lib.ListN.{length-map}
use Rattle.count_small.specs.Exactly.{In, Once, Exactly}

module _ {A B : Type 0} (f : A → B) where
  mapped_in : (l : List A) (b : B) → In b (map f l) → (a : A) × In a l × (f a ≡ b)
  unfolding In
  mapped_in [] b i = absurd i
  mapped_in (a ∷ l) b (inl e) = (a, inl refl, e)
  mapped_in (a ∷ l) b (inr i) = let (c, j, e) = mapped_in l b i in (c, inr j, e)

  in-mapped : (l : List A) (a : A) → In a l → In (f a) (map f l)
  unfolding In
  in-mapped [] a i = absurd i
  in-mapped (b ∷ l) a (inl e) = inl (ap f e)
  in-mapped (b ∷ l) a (inr i) = inr (in-mapped l a i)

  -- where f is one-to-one on the list
  mapped-once : (l : List A) → ((a b : A) → In a l → In b l → f a ≡ f b → a ≡ b) → Once l → Once (map f l)
  unfolding In Once
  mapped-once [] h o = tt
  mapped-once (a ∷ l) h (new, o) = (
    λ i. let (c, j, e) = mapped_in l (f a) i in new (subst (λ x. In x l) (h c a (inr j) (inl refl) e) j),
    mapped-once l (λ x y i j. h x y (inr i) (inr j)) o,
  )

module _ {A B : Type 0} (P : A → Type 0) (Q : B → Type 0) (f : A → B) (h : B → A) where
  pub matched : {m : ℕ} → ((a : A) → P a → Q (f a) × (h (f a) ≡ a)) → ((b : B) → Q b → P (h b) × (f (h b) ≡ b)) → Exactly P m → Exactly Q m
  matched there back x =
      record {
        list = map f x.list;
        many = length-map x.list f ∙ x.many;
        once = mapped-once f x.list (λ a b i j e. sym (there a (x.only_those a i)).1 ∙ ap h e ∙ (there b (x.only_those b j)).1) x.once;
        only_those = λ b i. let (a, j, e) = mapped_in f x.list b i in subst Q e (there a (x.only_those a j)).0;
        all_those = λ b q. let (p, e) = back b q in subst (λ c. In c (map f x.list)) e (in-mapped f x.list (h b) (x.all_those (h b) p));
      }
