-- Measures a carried rule without writing its text. Of a text it keeps only the length, the levels, and for each name how often and how deep it occurs.
-- A book of r rules is measured as one text.
use Rattle.std.specs.Prelude.{cond, List, [], ◌∷◌, ℕ, suc, ◌+◌, ◌*◌, max, min}
use Rattle.logic.specs.Syntax.{rule, Expr, Edit, finish, add_label, take_label, add_arrow, take_arrow, choose}
use Rattle.text.specs.Reading.{longest_carried}
use Rattle.tree.specs.Tree.{Tree, same, size, height, count, under, deep, tree}

-- What is kept of a text: its length, its levels, how often each name occurs, and its deepest level (0 if it does not occur).
pub record Measure : Type 0 where
  pub len : ℕ
  pub tall : ℕ
  pub counts : ℕ → ℕ → ℕ
  pub deeps : ℕ → ℕ → ℕ

unfoldable pub measure : Tree → Measure
measure t = record { len = size t; tall = height t; counts = count t; deeps = deep t }

-- The measure of a text before a step that adds E to each name c k or takes it from there; M measures it after, and `more` codes stand above E.
unfoldable pub substituted : (c k more : ℕ) (E M : Measure) → Measure
substituted c k more E M = record {
  len = M.len + M.counts c k * (more + E.len);
  tall = max M.tall (under (under (M.deeps c k) (suc more)) E.tall);
  counts = λ c' k'. M.counts c' k' + M.counts c k * E.counts c' k';
  deeps = λ c' k'. max (cond (same c' k' c k) (under (M.deeps c k) 2) (M.deeps c' k')) (under (under (M.deeps c k) (suc more)) (E.deeps c' k'));
}

-- 25 26 27 K T 26 K U, for each of r rules
unfoldable pub chosen : (r : ℕ) (K T U : Measure) → Measure
chosen r K T U = record {
  len = T.len + U.len + r * (4 + 2 * K.len);
  tall = max (max (2 + T.tall) (2 + U.tall)) (3 + K.tall);
  counts = λ c k. T.counts c k + U.counts c k + (2 * r) * K.counts c k;
  deeps = λ c k. max (max (under 3 (T.deeps c k)) (under 3 (U.deeps c k))) (under 4 (K.deeps c k));
}

-- The measure of r rules carried back through an edit, from their measure M.
unfoldable pub back : ℕ → Edit → Measure → Measure
back r finish M = M
back r (add_label k E Z) M = substituted 0x03 k 1 (measure (tree E)) (back r Z M)
back r (take_label k E Z) M = substituted 0x03 k 2 (measure (tree E)) (back r Z M)
back r (add_arrow a R Z) M = substituted 0x11 a 1 (measure (tree R)) (back r Z M)
back r (take_arrow a R Z) M = substituted 0x11 a 1 (measure (tree R)) (back r Z M)
back r (choose K P Q Z) M = chosen r (measure (tree K)) (back r P (back r Z M)) (back r Q (back r Z M))

-- A book measured as one text: the measures of its rules taken together.
unfoldable pub together : Measure → Measure → Measure
together M N = record { len = M.len + N.len; tall = max M.tall N.tall; counts = λ c k. M.counts c k + N.counts c k; deeps = λ c k. max (M.deeps c k) (N.deeps c k) }

unfoldable pub nothing : Measure
nothing = record { len = 0; tall = 0; counts = λ c k. 0; deeps = λ c k. 0 }

unfoldable pub measures : List (Expr rule) → Measure
measures [] = nothing
measures (K ∷ Ks) = together (measure (tree K)) (measures Ks)

-- Counting stops one above the bytes that a carried book may have.
abbrev pub beyond : ℕ
beyond = longest_carried + 1

-- A number cut off there: exact up to the most bytes of a carried book, and above it exactly when the true number is.
abbrev pub capped : ℕ → ℕ
capped x = min x beyond

unfoldable pub capped_measure : Measure → Measure
capped_measure M = record { len = capped M.len; tall = capped M.tall; counts = λ c k. capped (M.counts c k); deeps = λ c k. capped (M.deeps c k) }
