-- What breaks a rule: nothing exactly when it holds. And from Theorem 4.2: what breaks the carried rule is what breaks the rule after the edit.
use mathlib.Core.Path.{◌≡◌, refl, sym, ◌∙◌, ap, ap₂}
use mathlib.Core.Bool.{Bool, true, false, not, ◌&&◌, ◌||◌, cond}
use Prim.Native.Nat.{ℕ, zero, suc, ◌<◌}
use native.Mathlib.Decide.{dec_lt}
use native.Mathlib.Omega.{arith}
use lib.Dec.{eqb}
use Rattle.logic.specs.Syntax.{node, arrow, rule, Expr, label, complement, and, or, arrow_kind, union, minus, sub_nodes, sub_arrows, node_in, pair_in, both, either, not_rule, Edit, finish, add_label, take_label, add_arrow, take_arrow, choose}
use Rattle.logic.specs.Graph.{Graph, Nodes, any_below, all_below, implies}
use Rattle.logic.specs.Meaning.{value}
use Rattle.logic.specs.Steps.{update, relabel, rejoin, run}
use Rattle.logic.specs.Carry.{substitute, put_label, put_arrow, carry}
use Rattle.logic.specs.Witness.{Breaks, nothing, nodes, pairs, unnamed, breaks, lowest_below, IsLowest}
use Rattle.logic.proofs.Below.{any_none, any-one, any-not}
use Rattle.logic.proofs.Theorem.{through, value-substitute, value-update}

held : (x : Bool) (b : Breaks) → x ≡ true → cond x nothing b ≡ nothing
held true b h = refl
held false b h = cc

-- Nothing breaks a rule that holds.
pub holds-nothing : (g : Graph) (K : Expr rule) → value g K ≡ true → breaks g K ≡ nothing
unfolding breaks value
holds-nothing g (sub_nodes E F) h = held (value g (sub_nodes E F)) _ h
holds-nothing g (sub_arrows R S) h = held (value g (sub_arrows R S)) _ h
holds-nothing g (node_in i E) h = held (value g (node_in i E)) _ h
holds-nothing g (pair_in i j R) h = held (value g (pair_in i j R)) _ h
holds-nothing g (both K L) h = go (value g K) (value g L) h (holds-nothing g L) where
  go : (x y : Bool) → (x && y) ≡ true → (y ≡ true → breaks g L ≡ nothing) → cond x (breaks g L) (breaks g K) ≡ nothing
  go true y h r = r h
  go false y h r = cc
holds-nothing g (either K L) h = go (value g K) (value g L) h (holds-nothing g L) where
  go : (x y : Bool) → (x || y) ≡ true → (y ≡ true → breaks g L ≡ nothing) → cond x nothing (breaks g L) ≡ nothing
  go true y h r = refl
  go false y h r = r h
holds-nothing g (not_rule K) h = go (value g K) h where
  go : (x : Bool) → not x ≡ true → cond x unnamed nothing ≡ nothing
  go true h = cc
  go false h = refl

-- Something breaks a rule that is broken.
unfoldable pub Something : Breaks → Type 0
Something nothing = ⊥
Something (nodes v) = Unit {0}
Something (pairs v) = Unit {0}
Something unnamed = Unit {0}

broken : (x : Bool) (b : Breaks) → x ≡ false → Something b → Something (cond x nothing b)
broken true b h s = let z : ◌≡◌ {A = ℕ} 0 1 = cc in absurd (omega arith)
broken false b h s = s

pub broken-something : (g : Graph) (K : Expr rule) → value g K ≡ false → Something (breaks g K)
unfolding breaks value Something
broken-something g (sub_nodes E F) h = broken (value g (sub_nodes E F)) _ h tt
broken-something g (sub_arrows R S) h = broken (value g (sub_arrows R S)) _ h tt
broken-something g (node_in i E) h = broken (value g E i) _ h tt
broken-something g (pair_in i j R) h = broken (value g R i j) _ h tt
broken-something g (both K L) h = go (value g K) refl h (broken-something g K) (broken-something g L) where
  go : (x : Bool) → value g K ≡ x → (x && value g L) ≡ false → (value g K ≡ false → Something (breaks g K)) → (value g L ≡ false → Something (breaks g L)) → Something (cond x (breaks g L) (breaks g K))
  go true e h p q = q h
  go false e h p q = p e
broken-something g (either K L) h = go (value g K) h (broken-something g L) where
  go : (x : Bool) → (x || value g L) ≡ false → (value g L ≡ false → Something (breaks g L)) → Something (cond x nothing (breaks g L))
  go true h q = let z : ◌≡◌ {A = ℕ} 0 1 = cc in absurd (omega arith)
  go false h q = q h
broken-something g (not_rule K) h = go (value g K) h where
  go : (x : Bool) → not x ≡ false → Something (cond x unnamed nothing)
  go true h = tt
  go false h = let z : ◌≡◌ {A = ℕ} 0 1 = cc in absurd (omega arith)

-- The lowest number in a set is the one with none before it; a set that is not empty has a lowest.
pub lowest-is : (n : ℕ) (v : Nodes) (i : ℕ) → IsLowest n v i → lowest_below n v ≡ i
unfolding lowest_below
lowest-is zero v i q = absurd (omega (arith, q.below))
lowest-is (suc n) v i q = go (dec_lt i n) (lowest-is n v i) where
  go : Dec (i < n) → (IsLowest n v i → lowest_below n v ≡ i) → cond (any_below n v) (lowest_below n v) n ≡ i
  go (yes k) r = ap (λ b. cond b (lowest_below n v) n) (any-one n v i k q.is_in) ∙ r (record { below = k; is_in = q.is_in; first = q.first })
  go (no k) r = let e : n ≡ i = omega (arith, q.below) in ap (λ b. cond b (lowest_below n v) n) (any_none n v (λ j m. q.first j (omega arith))) ∙ e

pub lowest-found : (n : ℕ) (v : Nodes) → any_below n v ≡ true → IsLowest n v (lowest_below n v)
unfolding lowest_below any_below
lowest-found zero v h = let z : ◌≡◌ {A = ℕ} 0 1 = cc in absurd (omega arith)
lowest-found (suc n) v h = go (any_below n v) refl h (lowest-found n v) where
  go : (b : Bool) → any_below n v ≡ b → (b || v n) ≡ true → (any_below n v ≡ true → IsLowest n v (lowest_below n v)) → IsLowest (suc n) v (cond b (lowest_below n v) n)
  go true e h r = let q = r e in record { below = omega (arith, q.below); is_in = q.is_in; first = q.first }
  go false e h r = record { below = omega arith; is_in = h; first = any-not n v e }

-- What breaks a rule after a substitution is what breaks it on the graph that the substitution describes.
module _ (g : Graph) (f : ℕ → Expr node) (h : ℕ → Expr arrow) where
  breaks-substitute : (K : Expr rule) → breaks g (substitute f h K) ≡ breaks (through g f h) K
  unfolding breaks substitute value
  breaks-substitute (sub_nodes E F) = ap₂ (λ v u. cond (all_below g.n (λ i. implies (v i) (u i))) nothing (nodes (λ i. v i && not (u i)))) (value-substitute g f h E) (value-substitute g f h F)
  breaks-substitute (sub_arrows R S) = ap₂ (λ v u. cond (all_below g.n (λ i. all_below g.n (λ j. implies (v i j) (u i j)))) nothing (pairs (λ i j. v i j && not (u i j)))) (value-substitute g f h R) (value-substitute g f h S)
  breaks-substitute (node_in i E) = ap (λ v. cond (v i) nothing (nodes (λ k. eqb k i))) (value-substitute g f h E)
  breaks-substitute (pair_in i j R) = ap (λ v. cond (v i j) nothing (pairs (λ k l. eqb k i && eqb l j))) (value-substitute g f h R)
  breaks-substitute (both K L) = rw (value-substitute g f h K, breaks-substitute K, breaks-substitute L)
  breaks-substitute (either K L) = rw (value-substitute g f h K, breaks-substitute L)
  breaks-substitute (not_rule K) = rw (value-substitute g f h K)

breaks-put_label : (g : Graph) (k : ℕ) (F : Expr node) (K : Expr rule) → breaks g (put_label k F K) ≡ breaks (relabel g k (value g F)) K
unfolding put_label value
breaks-put_label g k F K = breaks-substitute g (update label k F) arrow_kind K ∙ ap (λ l. breaks (record { n = g.n; in_use = g.in_use; labelled = l; joined = g.joined }) K) (value-update g label k F)

breaks-put_arrow : (g : Graph) (a : ℕ) (S : Expr arrow) (K : Expr rule) → breaks g (put_arrow a S K) ≡ breaks (rejoin g a (value g S)) K
unfolding put_arrow value
breaks-put_arrow g a S K = breaks-substitute g label (update arrow_kind a S) K ∙ ap (λ l. breaks (record { n = g.n; in_use = g.in_use; labelled = g.labelled; joined = l }) K) (value-update g arrow_kind a S)

-- 25 26 27 K1 T 26 K1 U names what T names if K1 holds, else what U names
choice : (x p : Bool) (t u : Breaks) → (p ≡ true → t ≡ nothing) → cond (not x || p) (cond x nothing u) (cond (not x) nothing t) ≡ cond x t u
choice true true t u r = sym (r refl)
choice true false t u r = refl
choice false p t u r = refl

cond-run : (x : Bool) (g h : Graph) (K : Expr rule) → cond x (breaks g K) (breaks h K) ≡ breaks (cond x g h) K
cond-run true g h K = refl
cond-run false g h K = refl

-- What breaks the carried rule on a graph is what breaks the rule on the graph that the edit leaves.
pub carried-breaks : (Z : Edit) (K : Expr rule) (g : Graph) → breaks g (carry Z K) ≡ breaks (run Z g) K
unfolding carry run breaks value
carried-breaks finish K g = refl
carried-breaks (add_label k E Z) K g = breaks-put_label g k (or (label k) E) (carry Z K) ∙ carried-breaks Z K (relabel g k (value g (or (label k) E)))
carried-breaks (take_label k E Z) K g = breaks-put_label g k (and (label k) (complement E)) (carry Z K) ∙ carried-breaks Z K (relabel g k (value g (and (label k) (complement E))))
carried-breaks (add_arrow a R Z) K g = breaks-put_arrow g a (union (arrow_kind a) R) (carry Z K) ∙ carried-breaks Z K (rejoin g a (value g (union (arrow_kind a) R)))
carried-breaks (take_arrow a R Z) K g = breaks-put_arrow g a (minus (arrow_kind a) R) (carry Z K) ∙ carried-breaks Z K (rejoin g a (value g (minus (arrow_kind a) R)))
carried-breaks (choose K₁ P Q Z) K g =
    choice (value g K₁) (value g (carry P (carry Z K))) (breaks g (carry P (carry Z K))) (breaks g (carry Q (carry Z K))) (holds-nothing g (carry P (carry Z K)))
    ∙ ap₂ (cond (value g K₁)) (carried-breaks P (carry Z K) g) (carried-breaks Q (carry Z K) g)
    ∙ cond-run (value g K₁) (run P g) (run Q g) (carry Z K)
    ∙ carried-breaks Z K (cond (value g K₁) (run P g) (run Q g))
