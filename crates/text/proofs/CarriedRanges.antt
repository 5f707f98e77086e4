-- Carrying keeps numbers in range, so a carried rule or book within the limits is read back.
use mathlib.Core.Path.{◌≡◌, refl}
use mathlib.Core.Bool.{Bool, true, false, cond}
use mathlib.Core.List.{List, ◌++◌, map}
use Prim.Native.Nat.{ℕ, ◌≤◌}
use native.Mathlib.Omega.{arith}
use lib.ListN.{length, length-map}
use lib.Dec.{T, eqb}
use Rattle.answer.specs.Asked.{passed}
use Rattle.logic.specs.Syntax.{Sort, node, arrow, rule, Expr, label, complement, and, or, arrow_kind, union, minus, Edit, finish, add_label, take_label, add_arrow, take_arrow, choose}
use Rattle.logic.specs.Steps.{update}
use Rattle.logic.specs.Carry.{substitute, put_label, put_arrow, carry}
use Rattle.logic.specs.Limits.{Kind, label_number, arrow_number, Ranges, fits, InRange, EditInRange}
use Rattle.logic.specs.Lists.{All}
use Rattle.logic.specs.Arity.{Nullary, all·, none·, label·, nominal·, arrow_kind·, pair·, build0, by_arity}
use Rattle.logic.proofs.ListLaws.{all_map}
use Rattle.logic.proofs.ArityLaws.{substitute-1, substitute-2, range-1, range-2}
use Rattle.text.specs.Code.{code, levels, book_code}
use Rattle.text.specs.Reading.{most_rules, longest_carried, deepest_carried, expr, carried_limits_def}
use Rattle.text.specs.Questions.{ask_first, ask_book}
use Rattle.text.proofs.Converse.{Allowed}
use Rattle.text.proofs.TextSpelling.{spelled-first-passes, spelled-book-passes}

module _ (q : Ranges) (f : ℕ → Expr node) (h : ℕ → Expr arrow) (f-in : (k : ℕ) → T (fits q label_number k) → InRange q (f k)) (h-in : (a : ℕ) → T (fits q arrow_number a) → InRange q (h a)) where
  substitute-in : {s : Sort} (e : Expr s) → InRange q e → InRange q (substitute f h e)
  unfolding InRange substitute build0
  substitute-in e = by_arity (λ s e. InRange q e → InRange q (substitute f h e)) (λ s b. leaf b)
      (λ u t b x p r. let i = (range-1 q b x).0 r in rw (substitute-1 f h b x) ((range-1 q b (substitute f h x)).1 (i.0, p i.1)))
      (λ u v t b x y p o r. let i = (range-2 q b x y).0 r in rw (substitute-2 f h b x y) ((range-2 q b (substitute f h x) (substitute f h y)).1 (i.0, (p i.1.0, o i.1.1))))
      e where
        leaf : {s : Sort} (b : Nullary s) → InRange q (build0 b) → InRange q (substitute f h (build0 b))
        leaf all· r = r
        leaf none· r = r
        leaf (label· k) r = f-in k r
        leaf (nominal· i) r = r
        leaf (arrow_kind· a) r = h-in a r
        leaf (pair· i j) r = r

update-in : {s : Sort} (r : Ranges) (κ : Kind) (f : ℕ → Expr s) (k : ℕ) (F : Expr s) → ((x : ℕ) → T (fits r κ x) → InRange r (f x)) → InRange r F → (x : ℕ) → T (fits r κ x) → InRange r (update f k F x)
unfolding update
update-in r κ f k F h i x l = go (eqb x k) where
  go : (b : Bool) → InRange r (cond b F (f x))
  go true = i
  go false = h x l

module _ (r : Ranges) where
  put_label-in : (k : ℕ) (F : Expr node) (K : Expr rule) → InRange r F → InRange r K → InRange r (put_label k F K)
  put_label-in k F K i q = unfold put_label InRange in substitute-in r (update label k F) arrow_kind (update-in r label_number label k F (λ x l. l) i) (λ a l. l) K q

  put_arrow-in : (a : ℕ) (S : Expr arrow) (K : Expr rule) → InRange r S → InRange r K → InRange r (put_arrow a S K)
  put_arrow-in a S K i q = unfold put_arrow InRange in substitute-in r label (update arrow_kind a S) (λ x l. l) (update-in r arrow_number arrow_kind a S (λ x l. l) i) K q

  pub carry-in : (Z : Edit) (K : Expr rule) → EditInRange r Z → InRange r K → InRange r (carry Z K)
  unfolding carry EditInRange InRange
  carry-in finish K z q = q
  carry-in (add_label k E Z) K z q = put_label-in k (or (label k) E) (carry Z K) (z.0, z.1) (carry-in Z K z.2 q)
  carry-in (take_label k E Z) K z q = put_label-in k (and (label k) (complement E)) (carry Z K) (z.0, z.1) (carry-in Z K z.2 q)
  carry-in (add_arrow a R Z) K z q = put_arrow-in a (union (arrow_kind a) R) (carry Z K) (z.0, z.1) (carry-in Z K z.2 q)
  carry-in (take_arrow a R Z) K z q = put_arrow-in a (minus (arrow_kind a) R) (carry Z K) (z.0, z.1) (carry-in Z K z.2 q)
  carry-in (choose K₁ P Q Z) K z q =
      let k : InRange r (carry Z K) = carry-in Z K z.3 q in
      ((z.0, carry-in P (carry Z K) z.1 k), (z.0, carry-in Q (carry Z K) z.2 k))

module _ (n : ℕ) (Z : Edit) (z : EditInRange (carried_limits_def n).numbers Z) where
  carried-allowed : (K : Expr rule) → InRange (carried_limits_def n).numbers K → levels (carry Z K) ≤ deepest_carried → Allowed (carried_limits_def n) (expr rule) 1 (carry Z K)
  carried-allowed K i h = record { numbers_fit = carry-in (carried_limits_def n).numbers Z K z i; levels-fit = omega arith }

  -- A carried rule within the limits, with what follows it, is read back.
  pub carried-rule-is-read : (K : Expr rule) (rest : List ℕ) → InRange (carried_limits_def n).numbers K → levels (carry Z K) ≤ deepest_carried → length (code (carry Z K) ++ rest) ≤ longest_carried
      → ask_first (carried_limits_def n) (code (carry Z K) ++ rest) ≡ passed (carry Z K)
  carried-rule-is-read K rest i h b = spelled-first-passes (carried_limits_def n) _ (carry Z K) (record { rest = rest; text-is = refl; short = b; within = carried-allowed K i h })

  abbrev pub EachCarries : List (Expr rule) → Type 0
  EachCarries book = All (λ K. InRange (carried_limits_def n).numbers K × (levels (carry Z K) ≤ deepest_carried)) book

  -- So is a carried book.
  pub carried-book-is-read : (book : List (Expr rule)) → EachCarries book → length book ≤ most_rules → length (book_code (map (carry Z) book)) ≤ longest_carried
      → ask_book (carried_limits_def n) (book_code (map (carry Z) book)) ≡ passed (map (carry Z) book)
  carried-book-is-read book h few short =
      spelled-book-passes (carried_limits_def n) _ (map (carry Z) book)
      (record { short = short; spells = record { text-is = refl; few = omega (arith, length-map book (carry Z)); rules = all_map (Allowed (carried_limits_def n) (expr rule) 1) (carry Z) (λ K q. carried-allowed K q.0 q.1) book h } })
