-- A rewritten book is not longer than the book, has no more levels, and has as many rules.
use mathlib.Core.Path.{◌≡◌, ap}
use mathlib.Core.List.{List, [], ◌∷◌}
use Rattle.std.specs.Prelude.{Option, None, Some}
use Prim.Native.Nat.{ℕ, ◌≤◌}
use native.Mathlib.Omega.{arith}
use lib.ListN.{length, length-append, length-map}
use Rattle.answer.specs.Asked.{passed}
use Rattle.logic.specs.Syntax.{Sort, rule, Expr}
use Rattle.logic.specs.Limits.{max_nodes}
use Rattle.text.specs.Code.{code, levels, book_code, book_levels}
use Rattle.text.specs.Reading.{longest_text, former_limits_def}
use Rattle.text.proofs.TextSpelling.{book-is-spelled}
use Rattle.tree.specs.Tree.{Tree, name, leaf, one, two, size, height, tree}
use Rattle.tree.proofs.TreeLaws.{height-tree}
use Rattle.ends.proofs.Behind.{size-code}
use Rattle.rewrite_counts.specs.Rewritten.{rewritten, rewritten_book, ask_rewritten}
use Rattle.rewrite_counts.specs.Trees.{head_in_place, byte_or, rewritten_tree}
use Rattle.rewrite_counts.proofs.Trees.{tree-rewritten}
use Rattle.rewrite_counts.proofs.Rewriting.{rewritten-from}

no_more : (t : Tree) → (size (rewritten_tree t) ≤ size t) × (height (rewritten_tree t) ≤ height t)
unfolding size height rewritten_tree byte_or head_in_place
no_more (name c k) = (omega arith, omega arith)
no_more (leaf h) = (omega arith, omega arith)
no_more (one h x) = let q = no_more x in (omega arith, omega arith)
no_more (two [] x y) = let q = no_more x in let r = no_more y in (omega arith, omega arith)
no_more (two (c ∷ h) x y) = let q = no_more x in let r = no_more y in go (head_in_place (c ∷ h)) q.0 r.0 q.1 r.1 where
  anew : Option ℕ → Tree
  anew b = byte_or b (two (c ∷ h) (rewritten_tree x) (rewritten_tree y))

  go : (b : Option ℕ) → size (rewritten_tree x) ≤ size x → size (rewritten_tree y) ≤ size y → height (rewritten_tree x) ≤ height x → height (rewritten_tree y) ≤ height y
      → (size (anew b) ≤ size (two (c ∷ h) x y)) × (height (anew b) ≤ height (two (c ∷ h) x y))
  go None p q r s = (omega arith, omega arith)
  go (Some b) p q r s = (omega arith, omega arith)

pub no_longer : {s : Sort} (e : Expr s) → length (code (rewritten e)) ≤ length (code e)
no_longer e = omega (arith, (no_more (tree e)).0, ap size (tree-rewritten e), size-code e, size-code (rewritten e))

pub no_deeper : {s : Sort} (e : Expr s) → levels (rewritten e) ≤ levels e
no_deeper e = omega (arith, (no_more (tree e)).1, ap height (tree-rewritten e), height-tree e, height-tree (rewritten e))

pub book-no-longer : (rules : List (Expr rule)) → length (book_code (rewritten_book rules)) ≤ length (book_code rules)
unfolding book_code
book-no-longer [] = omega arith
book-no-longer (K ∷ Ks) = omega (arith, no_longer K, book-no-longer Ks, length-append (code K) (book_code Ks), length-append (code (rewritten K)) (book_code (rewritten_book Ks)))

pub book-no-deeper : (rules : List (Expr rule)) → book_levels (rewritten_book rules) ≤ book_levels rules
unfolding book_levels
book-no-deeper [] = omega arith
book-no-deeper (K ∷ Ks) = omega (arith, no_deeper K, book-no-deeper Ks)

pub as-many-rules : (rules : List (Expr rule)) → length (rewritten_book rules) ≡ length rules
as-many-rules rules = length-map rules rewritten

-- and for texts: an output as long as the longest book suffices
pub text-no-longer : (t bytes : List ℕ) → ask_rewritten t ≡ passed bytes → (length bytes ≤ length t) × (length t ≤ longest_text)
text-no-longer t bytes h =
    let r = rewritten-from t bytes h in
    let s = book-is-spelled (former_limits_def max_nodes) t r.rules r.read in
    (omega (arith, ap length r.bytes-are, ap length s.spells.text-is, book-no-longer r.rules), s.short)
