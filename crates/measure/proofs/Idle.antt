-- Without its idle steps an edit carries each rule of the book to the same rule, and stays in range.
use mathlib.Core.Path.{◌≡◌, refl, sym, ap, ap₂, ◌∙◌}
use mathlib.Core.Bool.{Bool, true, false, cond}
use mathlib.Core.List.{List, [], ◌∷◌, append-nil, map}
use Prim.Native.Nat.{ℕ, ◌+◌}
use native.Mathlib.Omega.{arith}
use borrow.Author.Tests.{eqb-true}
use lib.Dec.{eqb}
use lib.ListN.{length}
use Rattle.logic.specs.Syntax.{Sort, node, arrow, rule, Expr, label, complement, and, or, arrow_kind, union, minus, both, either, not_rule, Edit, finish, add_label, take_label, add_arrow, take_arrow, choose}
use Rattle.logic.specs.Steps.{update}
use Rattle.logic.specs.Carry.{substitute, put_label, put_arrow, carry, carried_book}
use Rattle.logic.specs.Limits.{Ranges, EditInRange}
use Rattle.logic.specs.Arity.{Nullary, all·, none·, label·, nominal·, arrow_kind·, pair·, build0, build1, build2, by_arity}
use Rattle.logic.proofs.ArityLaws.{substitute-1, substitute-2}
use Rattle.logic.proofs.Tables.{cond_both}
use Rattle.text.specs.Code.{code, edit_code}
use Rattle.text.specs.Stands.{EditStands}
use Rattle.tree.specs.Tree.{same, count, tree, bare}
use Rattle.tree.specs.Sizes.{Measure, measure, back, together, nothing, measures}
use Rattle.tree.proofs.TreeLaws.{tree-0, tree-1, tree-2}
use Rattle.tree.proofs.Measured.{measured}
use Rattle.tree.proofs.BookMeasures.{together-nothing, together-comm, together-assoc, back-together}
use Rattle.measure.specs.Pruned.{pruned}
use Rattle.measure.specs.Book.{BookKept}

-- a replacement of only a name that stands nowhere changes nothing
module _ (c k : ℕ) (f : ℕ → Expr node) (h : ℕ → Expr arrow) (f-is : (j : ℕ) → same 0x03 j c k ≡ false → f j ≡ label j) (h-is : (a : ℕ) → same 0x11 a c k ≡ false → h a ≡ arrow_kind a) where
  substitute-idle : {s : Sort} (e : Expr s) → count (tree e) c k ≡ 0 → substitute f h e ≡ e
  unfolding count bare substitute build0
  substitute-idle e = by_arity (λ s e. count (tree e) c k ≡ 0 → substitute f h e ≡ e) (λ s b n. leaf-idle b (rw tree-0 at n))
      (λ u t b x p n. substitute-1 f h b x ∙ ap (build1 b) (p (rw tree-1 at n)))
      (λ u v t b x y p q n. let m = rw tree-2 at n in substitute-2 f h b x y ∙ ap₂ (build2 b) (p (omega (arith, m))) (q (omega (arith, m))))
      e where
        nowhere : (b : Bool) → ◌≡◌ {A = ℕ} (cond b 1 0) 0 → b ≡ false
        nowhere true n = absurd (omega (arith, n))
        nowhere false n = refl

        leaf-idle : {s : Sort} (b : Nullary s) → count (bare b) c k ≡ 0 → substitute f h (build0 b) ≡ build0 b
        leaf-idle all· n = refl
        leaf-idle none· n = refl
        leaf-idle (label· j) n = f-is j (nowhere _ n)
        leaf-idle (nominal· i) n = refl
        leaf-idle (arrow_kind· a) n = h-is a (nowhere _ n)
        leaf-idle (pair· i j) n = refl

label-idle : (k : ℕ) (F : Expr node) (K : Expr rule) → count (tree K) 0x03 k ≡ 0 → put_label k F K ≡ K
label-idle k F K = unfold put_label update in substitute-idle 0x03 k (update label k F) arrow_kind (λ j e. rw e) (λ a e. refl) K

arrow-idle : (a : ℕ) (S : Expr arrow) (K : Expr rule) → count (tree K) 0x11 a ≡ 0 → put_arrow a S K ≡ K
arrow-idle a S K = unfold put_arrow update in substitute-idle 0x11 a label (update arrow_kind a S) (λ j e. refl) (λ j e. rw e) K

-- a book with K in it, once carried, has the carried K in it
with-rule : (s : ℕ) (Z : Edit) (K : Expr rule) (N : Measure) → back (1 + s) Z (together (measure (tree K)) N) ≡ together (measure (tree (carry Z K))) (back s Z N)
with-rule s Z K N = back-together 1 s Z (measure (tree K)) N ∙ ap (λ (M : Measure). together M (back s Z N)) (sym (measured Z K))

-- one step, where `put` is what it does to a rule and Y is the edit that follows without its idle steps
step_same : (s : ℕ) (Z : Edit) (K : Expr rule) (N : Measure) (c k : ℕ) (put : Expr rule → Expr rule) → ((L : Expr rule) → count (tree L) c k ≡ 0 → put L ≡ L) → (Y step : Edit) → carry step K ≡ put (carry Y K) → carry Y K ≡ carry Z K
    → carry (cond (eqb ((back (1 + s) Z (together (measure (tree K)) N)).counts c k) 0) Y step) K ≡ put (carry Z K)
unfolding together measure
step_same s Z K N c k put idle Y step e f = go (eqb ((back (1 + s) Z (together (measure (tree K)) N)).counts c k) 0) (eqb-true _ _) where
  go : (b : Bool) → (b ≡ true → (back (1 + s) Z (together (measure (tree K)) N)).counts c k ≡ 0) → carry (cond b Y step) K ≡ put (carry Z K)
  go true p = f ∙ sym (idle (carry Z K) (omega (arith, p refl, ap (λ (M : Measure). M.counts c k) (with-rule s Z K N))))
  go false p = e ∙ ap put f

pruned-rule : (s : ℕ) (Z : Edit) (K : Expr rule) (N : Measure) → carry (pruned (1 + s) Z (together (measure (tree K)) N)) K ≡ carry Z K
unfolding pruned carry
pruned-rule s finish K N = refl
pruned-rule s (add_label k E Z) K N = step_same s Z K N 0x03 k (put_label k (or (label k) E)) (label-idle k _) _ _ refl (pruned-rule s Z K N)
pruned-rule s (take_label k E Z) K N = step_same s Z K N 0x03 k (put_label k (and (label k) (complement E))) (label-idle k _) _ _ refl (pruned-rule s Z K N)
pruned-rule s (add_arrow a R Z) K N = step_same s Z K N 0x11 a (put_arrow a (union (arrow_kind a) R)) (arrow-idle a _) _ _ refl (pruned-rule s Z K N)
pruned-rule s (take_arrow a R Z) K N = step_same s Z K N 0x11 a (put_arrow a (minus (arrow_kind a) R)) (arrow-idle a _) _ _ refl (pruned-rule s Z K N)
pruned-rule s (choose L P Q Z) K N =
    rw (with-rule s Z K N, pruned-rule s Z K N) (ap₂ (λ (T U : Expr rule). both (either (not_rule L) T) (either L U)) (pruned-rule s P (carry Z K) (back s Z N)) (pruned-rule s Q (carry Z K) (back s Z N)))

-- each rule of a part of the book
pruned-rules : (r s : ℕ) (Z : Edit) (Ks : List (Expr rule)) (M N : Measure) → r ≡ length Ks + s → M ≡ together (measures Ks) N → carried_book (pruned r Z M) Ks ≡ carried_book Z Ks
unfolding measures
pruned-rules r s Z [] M N e p = refl
pruned-rules r s Z (K ∷ Ks) M N e p =
    let f : r ≡ 1 + (length Ks + s) = omega (arith, e) in
    ap₂ ◌∷◌ (rw (f, p, together-assoc (measure (tree K)) (measures Ks) N) (pruned-rule (length Ks + s) Z K (together (measures Ks) N)))
    (pruned-rules r (1 + s) Z Ks M (together (measure (tree K)) N) (omega (arith, e)) (p ∙ ap (λ (O : Measure). together O N) (together-comm (measure (tree K)) (measures Ks)) ∙ together-assoc (measures Ks) (measure (tree K)) N))

-- The whole book, and the codes of its rules.
pub pruned-book : (Z : Edit) (rules : List (Expr rule)) → carried_book (pruned (length rules) Z (measures rules)) rules ≡ carried_book Z rules
pruned-book Z rules = pruned-rules (length rules) 0 Z rules (measures rules) nothing (omega arith) (sym (together-nothing (measures rules)))

pub pruned-codes : (Z : Edit) (rules : List (Expr rule)) → map code (carried_book (pruned (length rules) Z (measures rules)) rules) ≡ map code (carried_book Z rules)
pruned-codes Z rules = ap (map code) (pruned-book Z rules)

pruned-range : (lim : Ranges) (r : ℕ) (Z : Edit) (M : Measure) → EditInRange lim Z → EditInRange lim (pruned r Z M)
unfolding pruned EditInRange
pruned-range lim r finish M h = h
pruned-range lim r (add_label k E Z) M h = cond_both (EditInRange lim) (eqb ((back r Z M).counts 0x03 k) 0) _ _ (pruned-range lim r Z M h.2) (h.0, h.1, pruned-range lim r Z M h.2)
pruned-range lim r (take_label k E Z) M h = cond_both (EditInRange lim) (eqb ((back r Z M).counts 0x03 k) 0) _ _ (pruned-range lim r Z M h.2) (h.0, h.1, pruned-range lim r Z M h.2)
pruned-range lim r (add_arrow a R Z) M h = cond_both (EditInRange lim) (eqb ((back r Z M).counts 0x11 a) 0) _ _ (pruned-range lim r Z M h.2) (h.0, h.1, pruned-range lim r Z M h.2)
pruned-range lim r (take_arrow a R Z) M h = cond_both (EditInRange lim) (eqb ((back r Z M).counts 0x11 a) 0) _ _ (pruned-range lim r Z M h.2) (h.0, h.1, pruned-range lim r Z M h.2)
pruned-range lim r (choose K P Q Z) M h = (h.0, pruned-range lim r P (back r Z M) h.1, pruned-range lim r Q (back r Z M) h.2, pruned-range lim r Z M h.3)

-- The buffer that holds the edit without its idle steps holds an edit in range.
pub kept-stands : (lim : Ranges) (Z : Edit) (rules : List (Expr rule)) (start : ℕ) (kept : List ℕ) → EditInRange lim Z → (length rules ≡ 0 → ⊥) → BookKept Z rules start kept → EditStands lim kept start (pruned (length rules) Z (measures rules))
kept-stands lim Z rules start kept h ne k = record { rest = []; here = k.text ne ∙ sym (append-nil (edit_code (pruned (length rules) Z (measures rules)))); range = pruned-range lim (length rules) Z (measures rules) h }
