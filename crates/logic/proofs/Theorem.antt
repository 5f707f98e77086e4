-- Theorem 4.2 of document 004; that the carried rule is the weakest condition; and the laws of joined edits.
use mathlib.Core.Path.{◌≡◌, refl, sym, ◌∙◌, ap, ap₂, fun_ext, subst}
use mathlib.Core.Bool.{Bool, true, false, not, ◌&&◌, ◌||◌, cond}
use mathlib.Core.List.{List, [], ◌∷◌}
use Prim.Native.Nat.{ℕ}
use lib.Dec.{T, eqb}
use Rattle.logic.specs.Syntax.{Sort, node, arrow, rule, Expr, label, complement, and, or, arrow_kind, union, minus, both, either, not_rule, Edit, finish, add_label, take_label, add_arrow, take_arrow, choose}
use Rattle.logic.specs.Graph.{Graph, is_node}
use Rattle.logic.specs.Meaning.{value, hold_all}
use Rattle.logic.specs.Steps.{update, relabel, rejoin, run}
use Rattle.logic.specs.Carry.{substitute, put_label, put_arrow, carry, carried_book, followed_by}
use Rattle.logic.specs.Arity.{Nullary, all·, none·, label·, nominal·, arrow_kind·, pair·, build0, by_arity}
use Rattle.logic.proofs.ArityLaws.{substitute-1, substitute-2, value-1, value-2}

-- the graph whose label k is the value of f k on g and whose arrow a is the value of h a
abbrev pub through : Graph → (ℕ → Expr node) → (ℕ → Expr arrow) → Graph
through g f h = record { n = g.n; in_use = g.in_use; labelled = λ k. value g (f k); joined = λ a. value g (h a) }

module _ (g : Graph) (f : ℕ → Expr node) (h : ℕ → Expr arrow) where
  pub value-substitute : {s : Sort} (e : Expr s) → value g (substitute f h e) ≡ value (through g f h) e
  unfolding value substitute build0 is_node
  value-substitute e = by_arity (λ s e. value g (substitute f h e) ≡ value (through g f h) e) (λ s b. leaf b)
      (λ u t b x p. rw (substitute-1 f h b x) (value-1 g _ _ b (substitute f h x) x p))
      (λ u v t b x y p q. rw (substitute-2 f h b x y) (value-2 g _ _ b (substitute f h x) x (substitute f h y) y p q))
      e where
        leaf : {s : Sort} (b : Nullary s) → value g (substitute f h (build0 b)) ≡ value (through g f h) (build0 b)
        leaf all· = refl
        leaf none· = refl
        leaf (label· k) = refl
        leaf (nominal· i) = refl
        leaf (arrow_kind· a) = refl
        leaf (pair· i j) = refl

of-cond : {A B : Type 0} (f : A → B) (b : Bool) (x y : A) → f (cond b x y) ≡ cond b (f x) (f y)
of-cond f true x y = refl
of-cond f false x y = refl

-- updating a table of expressions updates the table of their values
pub value-update : (g : Graph) {s : Sort} (f : ℕ → Expr s) (k : ℕ) (F : Expr s) → (λ x. value g (update f k F x)) ≡ update (λ x. value g (f x)) k (value g F)
value-update g f k F = unfold update in fun_ext (λ x. of-cond (value g) (eqb x k) F (f x))

-- a rule with label k replaced by F says what the rule says on the graph whose label k is the value of F
value-put_label : (g : Graph) (k : ℕ) (F : Expr node) (K : Expr rule) → value g (put_label k F K) ≡ value (relabel g k (value g F)) K
unfolding put_label value
value-put_label g k F K = value-substitute g (update label k F) arrow_kind K ∙ ap (λ l. value (record { n = g.n; in_use = g.in_use; labelled = l; joined = g.joined }) K) (value-update g label k F)

value-put_arrow : (g : Graph) (a : ℕ) (S : Expr arrow) (K : Expr rule) → value g (put_arrow a S K) ≡ value (rejoin g a (value g S)) K
unfolding put_arrow value
value-put_arrow g a S K = value-substitute g label (update arrow_kind a S) K ∙ ap (λ l. value (record { n = g.n; in_use = g.in_use; labelled = g.labelled; joined = l }) K) (value-update g arrow_kind a S)

-- (not x or p) and (x or q) is p if x holds, else q
choice : (x p q : Bool) → ((not x || p) && (x || q)) ≡ cond x p q
choice true true q = refl
choice true false q = refl
choice false p q = refl

-- Theorem 4.2: the carried rule says about a graph what the rule says about the graph that the edit leaves.
pub carried : (Z : Edit) (K : Expr rule) (g : Graph) → value g (carry Z K) ≡ value (run Z g) K
unfolding carry run value
carried finish K g = refl
carried (add_label k E Z) K g = value-put_label g k (or (label k) E) (carry Z K) ∙ carried Z K (relabel g k (value g (or (label k) E)))
carried (take_label k E Z) K g = value-put_label g k (and (label k) (complement E)) (carry Z K) ∙ carried Z K (relabel g k (value g (and (label k) (complement E))))
carried (add_arrow a R Z) K g = value-put_arrow g a (union (arrow_kind a) R) (carry Z K) ∙ carried Z K (rejoin g a (value g (union (arrow_kind a) R)))
carried (take_arrow a R Z) K g = value-put_arrow g a (minus (arrow_kind a) R) (carry Z K) ∙ carried Z K (rejoin g a (value g (minus (arrow_kind a) R)))
carried (choose K₁ P Q Z) K g =
    choice (value g K₁) (value g (carry P (carry Z K))) (value g (carry Q (carry Z K)))
    ∙ ap₂ (cond (value g K₁)) (carried P (carry Z K) g) (carried Q (carry Z K) g)
    ∙ sym (of-cond (λ h. value h (carry Z K)) (value g K₁) (run P g) (run Q g))
    ∙ carried Z K (cond (value g K₁) (run P g) (run Q g))

-- So does the carried book.
pub hold-carried : (Z : Edit) (book : List (Expr rule)) (g : Graph) → hold_all g (carried_book Z book) ≡ hold_all (run Z g) book
unfolding hold_all
hold-carried Z [] g = refl
hold-carried Z (K ∷ book) g = ap₂ ◌&&◌ (carried Z K g) (hold-carried Z book g)

-- Document 01's wording: through P with its end replaced by Z.
pub carry-followed_by : (P Z : Edit) (K : Expr rule) → carry (followed_by P Z) K ≡ carry P (carry Z K)
unfolding carry followed_by
carry-followed_by finish Z K = refl
carry-followed_by (add_label k E P) Z K = ap (put_label k (or (label k) E)) (carry-followed_by P Z K)
carry-followed_by (take_label k E P) Z K = ap (put_label k (and (label k) (complement E))) (carry-followed_by P Z K)
carry-followed_by (add_arrow a R P) Z K = ap (put_arrow a (union (arrow_kind a) R)) (carry-followed_by P Z K)
carry-followed_by (take_arrow a R P) Z K = ap (put_arrow a (minus (arrow_kind a) R)) (carry-followed_by P Z K)
carry-followed_by (choose K₁ P Q P') Z K = ap (λ L. both (either (not_rule K₁) (carry P L)) (either K₁ (carry Q L))) (carry-followed_by P' Z K)

pub carry_choose : (K₁ : Expr rule) (P Q Z : Edit) (K : Expr rule) → carry (choose K₁ P Q Z) K ≡ both (either (not_rule K₁) (carry (followed_by P Z) K)) (either K₁ (carry (followed_by Q Z) K))
carry_choose K₁ P Q Z K = unfold carry in rw (carry-followed_by P Z K, carry-followed_by Q Z K)

pub run-followed_by : (P Z : Edit) (g : Graph) → run (followed_by P Z) g ≡ run Z (run P g)
unfolding run followed_by
run-followed_by finish Z g = refl
run-followed_by (add_label k E P) Z g = run-followed_by P Z _
run-followed_by (take_label k E P) Z g = run-followed_by P Z _
run-followed_by (add_arrow a R P) Z g = run-followed_by P Z _
run-followed_by (take_arrow a R P) Z g = run-followed_by P Z _
run-followed_by (choose K P Q P') Z g = run-followed_by P' Z _

-- It is the weakest such condition: it ensures the rule after the edit, and every condition that does so implies it.
pub ensures-after : (Z : Edit) (K : Expr rule) (g : Graph) → T (value g (carry Z K)) → T (value (run Z g) K)
ensures-after Z K g t = subst T (carried Z K g) t

pub weakest : (Z : Edit) (K : Expr rule) (C : Graph → Type 0) → ((g : Graph) → C g → T (value (run Z g) K)) → (g : Graph) → C g → T (value g (carry Z K))
weakest Z K C ensures g c = subst T (sym (carried Z K g)) (ensures g c)
