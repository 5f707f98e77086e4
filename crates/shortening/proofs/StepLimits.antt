-- After a fitting step the text is again one rule within the limits: shorter, no deeper, its numbers in range.
-- And what the step does to the bytes.
use mathlib.Core.Path.{◌≡◌, sym, ◌∙◌, ap, subst}
use mathlib.Core.List.{◌++◌}
use Prim.Native.Nat.{◌+◌, ◌≤◌, ◌<◌}
use native.Mathlib.Omega.{arith}
use lib.ListN.{length, length-append}
use Rattle.logic.specs.Lists.{All}
use Rattle.logic.specs.Syntax.{Sort, node, arrow, rule, Expr, complement}
use Rattle.logic.specs.Limits.{Ranges, InRange}
use Rattle.logic.specs.Arity.{by_arity}
use Rattle.logic.proofs.ArityLaws.{range-1, range-2}
use Rattle.text.specs.Code.{code, levels}
use Rattle.text.proofs.HeadLaws.{levels-1, levels-2}
use Rattle.shortening.specs.Place.{Context, here, only, first, second, put, before, behind}
use Rattle.shortening.specs.Laws.{Law, laws, Step, Fits}
use Rattle.shortening.proofs.Codes.{code_put}
use Rattle.shortening.proofs.Numbered.{◌&◌, by_number}

-- The bytes: what comes before and after stays.
pub bytes-before : (x : Step) {t : Sort} (e e' : Expr t) (f : Fits x e e') → code e ≡ before f.place ++ (code (f.law.left f.variable) ++ behind f.place)
bytes-before x e e' f = ap code f.from ∙ code_put f.place (f.law.left f.variable)

pub bytes_after : (x : Step) {t : Sort} (e e' : Expr t) (f : Fits x e e') → code e' ≡ before f.place ++ (code (f.law.right f.variable) ++ behind f.place)
bytes_after x e e' f = ap code f.to ∙ code_put f.place (f.law.right f.variable)

-- Each law's right side is shorter.
abbrev Shorter : {s : Sort} → Law s → Type 0
Shorter {s} l = (x : Expr s) → length (code (l.right x)) < length (code (l.left x))

laws-shorter : (s : Sort) → All Shorter (laws s)
unfolding laws code
laws-shorter node = (λ x. omega arith) & (λ x. omega (arith, length-append (code x) (code x))) & (λ x. omega (arith, length-append (code x) (code x))) & (λ x. omega (arith, length-append (code x) (code (complement x)))) & (λ x. omega arith) & (λ x. omega arith) & tt
laws-shorter arrow = tt
laws-shorter rule = (λ x. omega arith) & (λ x. omega (arith, length-append (code x) (code x))) & tt

pub step-shorter : (x : Step) {t : Sort} (e e' : Expr t) → Fits x e e' → length (code e') < length (code e)
step-shorter x e e' f =
    let shorter = by_number (λ n. Shorter) (laws-shorter f.sort) f.number_right f.variable in
    omega (arith, simp length-append at (ap length (bytes-before x e e' f)), simp length-append at (ap length (bytes_after x e e' f)))

-- And no deeper.
levels-put : {s t : Sort} (c : Context s t) (x y : Expr s) → levels x ≤ levels y → levels (put c x) ≤ levels (put c y)
unfolding put
levels-put here x y h = h
levels-put (only u c) x y h = omega (arith, levels-1 u (put c x), levels-1 u (put c y), levels-put c x y h)
levels-put (first b c z) x y h = omega (arith, levels-2 b (put c x) z, levels-2 b (put c y) z, levels-put c x y h)
levels-put (second b z c) x y h = omega (arith, levels-2 b z (put c x), levels-2 b z (put c y), levels-put c x y h)

abbrev NoDeeper : {s : Sort} → Law s → Type 0
NoDeeper {s} l = (x : Expr s) → levels (l.right x) ≤ levels (l.left x)

laws-no-deeper : (s : Sort) → All NoDeeper (laws s)
unfolding laws levels by_arity
laws-no-deeper node = (λ x. omega arith) & (λ x. omega arith) & (λ x. omega arith) & (λ x. omega arith) & (λ x. omega arith) & (λ x. omega arith) & tt
laws-no-deeper arrow = tt
laws-no-deeper rule = (λ x. omega arith) & (λ x. omega arith) & tt

pub step-no-deeper : (x : Step) {t : Sort} (e e' : Expr t) → Fits x e e' → levels e' ≤ levels e
step-no-deeper x e e' f =
    let h : levels (put f.place (f.law.right f.variable)) ≤ levels (put f.place (f.law.left f.variable)) = levels-put f.place (f.law.right f.variable) (f.law.left f.variable) (by_number (λ n. NoDeeper) (laws-no-deeper f.sort) f.number_right f.variable) in
    rw (f.from, f.to) h

-- And its numbers are in range.
module _ (r : Ranges) where
  -- A term in range has a term in range at the place, and stays in range with any other such term there.
  exchange-at : {s t : Sort} (c : Context s t) (x : Expr s) → InRange r (put c x) → InRange r x × ((y : Expr s) → InRange r y → InRange r (put c y))
  unfolding put
  exchange-at here x q = (q, λ y p. p)
  exchange-at (only b c) x q = let (n, k) = (range-1 r b (put c x)).0 q in let (l, more) = exchange-at c x k in (l, λ y p. (range-1 r b (put c y)).1 (n, more y p))
  exchange-at (first b c z) x q =
      let (n, (k, m)) = (range-2 r b (put c x) z).0 q in
      let (l, more) = exchange-at c x k in
      (l, λ y p. (range-2 r b (put c y) z).1 (n, (more y p, m)))
  exchange-at (second b z c) x q =
      let (n, (m, k)) = (range-2 r b z (put c x)).0 q in
      let (l, more) = exchange-at c x k in
      (l, λ y p. (range-2 r b z (put c y)).1 (n, (m, more y p)))

  pub range_at : {s t : Sort} (c : Context s t) (x : Expr s) → InRange r (put c x) → InRange r x
  range_at c x q = (exchange-at c x q).0

  abbrev InRangeToo : {s : Sort} → Law s → Type 0
  InRangeToo {s} l = (x : Expr s) → InRange r (l.left x) → InRange r (l.right x)

  laws-in-range : (s : Sort) → All InRangeToo (laws s)
  unfolding laws InRange
  laws-in-range node = (λ x q. q) & (λ x q. q.0) & (λ x q. q.0) & (λ x q. tt) & (λ x q. tt) & (λ x q. q.1) & tt
  laws-in-range arrow = tt
  laws-in-range rule = (λ x q. q) & (λ x q. q.0) & tt

  pub step-in-range : (x : Step) {t : Sort} (e e' : Expr t) → Fits x e e' → InRange r e → InRange r e'
  step-in-range x e e' f q =
      let (p, put_in) = exchange-at f.place (f.law.left f.variable) (subst (InRange r) f.from q) in
      subst (InRange r) (sym f.to) (put_in (f.law.right f.variable) (by_number (λ n. InRangeToo) (laws-in-range f.sort) f.number_right f.variable p))
