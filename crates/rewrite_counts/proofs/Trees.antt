-- Rewriting a term is rewriting its tree.
use mathlib.Core.Path.{◌≡◌, refl, sym, ◌∙◌, ap, ap₂}
use mathlib.Core.Bool.{Bool, true, false, cond}
use mathlib.Core.List.{List, [], ◌∷◌, ◌++◌, map}
use Rattle.std.specs.Prelude.{None, Some}
use Prim.Native.Nat.{ℕ}
use lib.Dec.{leb, ltb, eqb}
use Rattle.logic.specs.Syntax.{Sort, node, arrow, rule, Expr, all, none, at_least, at_most}
use Rattle.logic.specs.Limits.{Ranges}
use Rattle.logic.specs.Lists.{All}
use Rattle.logic.specs.Arity.{Nullary, all·, none·, label·, nominal·, arrow_kind·, pair·, by_arity}
use Rattle.logic.proofs.ListLaws.{all_map}
use Rattle.text.specs.Code.{book_code}
use Rattle.text.specs.Stands.{RulesInRange}
use Rattle.text.specs.Heads.{head1, head2}
use Rattle.tree.specs.Tree.{Tree, two, tree_code, tree, bare}
use Rattle.tree.proofs.TreeLaws.{tree-0, tree-1, tree-2, code-tree}
use Rattle.ends.specs.Shapes.{Formed}
use Rattle.ends.proofs.Formed.{formed-tree}
use Rattle.ends.proofs.Pending.{texts}
use Rattle.rewrite_counts.specs.Rewritten.{least_rewritten, most_rewritten, rewritten, rewritten_book}
use Rattle.rewrite_counts.specs.Trees.{least_in_place_def, most_in_place_def, head_in_place, byte_or, rewritten_tree}
use Rattle.rewrite_counts.proofs.ByRewriting.{by_rewriting}

least-tree : (m : ℕ) (R R' : Expr arrow) (E E' : Expr node) → tree R' ≡ rewritten_tree (tree R) → tree E' ≡ rewritten_tree (tree E) → tree (least_rewritten m R' E') ≡ rewritten_tree (tree (at_least m R E))
unfolding tree by_arity bare head1 head2 least_rewritten rewritten_tree byte_or head_in_place least_in_place_def
least-tree m R R' E E' r e = go (eqb m 0) (leb m 60) where
  go : (z l : Bool) → tree (cond z all (cond l (at_least m R' E') none)) ≡ byte_or (cond z (Some 0x01) (cond l None (Some 0x02))) (two (0x0A ∷ m ∷ []) (rewritten_tree (tree R)) (rewritten_tree (tree E)))
  go true l = refl
  go false true = ap₂ (two (0x0A ∷ m ∷ [])) r e
  go false false = refl

most-tree : (m : ℕ) (R R' : Expr arrow) (E E' : Expr node) → tree R' ≡ rewritten_tree (tree R) → tree E' ≡ rewritten_tree (tree E) → tree (most_rewritten m R' E') ≡ rewritten_tree (tree (at_most m R E))
unfolding tree by_arity bare head1 head2 most_rewritten rewritten_tree byte_or head_in_place most_in_place_def
most-tree m R R' E E' r e = go (ltb m 60) where
  go : (l : Bool) → tree (cond l (at_most m R' E') all) ≡ byte_or (cond l None (Some 0x01)) (two (0x0B ∷ m ∷ []) (rewritten_tree (tree R)) (rewritten_tree (tree E)))
  go true = ap₂ (two (0x0B ∷ m ∷ [])) r e
  go false = refl

pub tree-rewritten : {s : Sort} (e : Expr s) → tree (rewritten e) ≡ rewritten_tree (tree e)
unfolding rewritten_tree byte_or bare
tree-rewritten e = by_rewriting (λ s e e'. tree e' ≡ rewritten_tree (tree e)) (λ s b. rw tree-0 (leaf-stays b))
    (λ u t b x x' p. rw (tree-1 b x', tree-1 b x, p))
    (λ u v t b n z x x' y y' p q. rw (tree-2 b x' y', tree-2 b x y, z, p, q))
    least-tree most-tree e where
      leaf-stays : {s : Sort} (b : Nullary s) → bare b ≡ rewritten_tree (bare b)
      leaf-stays all· = refl
      leaf-stays none· = refl
      leaf-stays (label· k) = refl
      leaf-stays (nominal· i) = refl
      leaf-stays (arrow_kind· a) = refl
      leaf-stays (pair· i j) = refl

-- the text of a tree rewritten
abbrev pub anew : Tree → List ℕ
anew t = tree_code (rewritten_tree t)

-- a book as its trees one after the other: formed, its text, and its text rewritten
abbrev pub trees : List (Expr rule) → List Tree
trees rules = map tree rules

pub trees-formed : (r : Ranges) (rules : List (Expr rule)) → RulesInRange r rules → All Formed (trees rules)
trees-formed r = all_map Formed tree (λ K. formed-tree r K)

pub book-trees : (rules : List (Expr rule)) → texts tree_code (trees rules) ≡ book_code rules
unfolding texts book_code
book-trees [] = refl
book-trees (K ∷ Ks) = ap₂ ◌++◌ (code-tree K) (book-trees Ks)

pub book-anew : (rules : List (Expr rule)) → texts anew (trees rules) ≡ book_code (rewritten_book rules)
unfolding texts book_code
book-anew [] = refl
book-anew (K ∷ Ks) = ap₂ ◌++◌ (ap tree_code (sym (tree-rewritten K)) ∙ code-tree (rewritten K)) (book-anew Ks)
