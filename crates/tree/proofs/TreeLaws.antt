-- Trees and expressions; what replacing a name does to a tree's measures.
use mathlib.Core.Path.{◌≡◌, refl, sym, ◌∙◌, ap}
use mathlib.Core.Bool.{Bool, true, false, cond}
use mathlib.Core.List.{[], ◌∷◌, ◌++◌, append_assoc}
use Prim.Native.Nat.{ℕ, suc, ◌+◌, max}
use native.Mathlib.Omega.{arith}
use lib.Dec.{eqb}
use lib.ListN.{length, length-append}
use borrow.Author.Tests.{eq-eqb}
use Rattle.logic.specs.Syntax.{Sort, node, arrow, rule, Expr, label, arrow_kind}
use Rattle.logic.specs.Steps.{update}
use Rattle.logic.specs.Carry.{substitute, put_label, put_arrow}
use Rattle.logic.specs.Arity.{Nullary, all·, none·, label·, nominal·, arrow_kind·, pair·, Unary, Binary, build0, build1, build2, by_arity}
use Rattle.logic.proofs.ArityLaws.{by_arity-0, by_arity-1, by_arity-2, substitute-1, substitute-2}
use Rattle.text.specs.Code.{code, levels}
use Rattle.text.specs.Heads.{head1, head2}
use Rattle.text.proofs.HeadLaws.{code-1, code-2, levels-0, levels-1, levels-2}
use Rattle.tree.specs.Tree.{Tree, name, leaf, one, two, tree_code, graft, only, size, height, bare, tree}

pub tree-0 : {s : Sort} (b : Nullary s) → tree (build0 b) ≡ bare b
tree-0 b = unfold tree in rw by_arity-0

pub tree-1 : {u t : Sort} (b : Unary u t) (x : Expr u) → tree (build1 b x) ≡ one (head1 b) (tree x)
tree-1 b x = unfold tree in rw by_arity-1

pub tree-2 : {u v t : Sort} (b : Binary u v t) (x : Expr u) (y : Expr v) → tree (build2 b x y) ≡ two (head2 b) (tree x) (tree y)
tree-2 b x y = unfold tree in rw by_arity-2

pub code-tree : {s : Sort} (e : Expr s) → tree_code (tree e) ≡ code e
unfolding tree_code bare code build0
code-tree e = by_arity (λ s e. tree_code (tree e) ≡ code e) (λ s b. rw tree-0 (leaf-code b))
    (λ u t b x p. rw (tree-1, code-1, p))
    (λ u v t b x y p q. rw (tree-2, code-2, p, q) (append_assoc (head2 b) (code x) (code y)))
    e where
      leaf-code : {s : Sort} (b : Nullary s) → tree_code (bare b) ≡ code (build0 b)
      leaf-code all· = refl
      leaf-code none· = refl
      leaf-code (label· k) = refl
      leaf-code (nominal· i) = refl
      leaf-code (arrow_kind· a) = refl
      leaf-code (pair· i j) = refl

pub height-tree : {s : Sort} (e : Expr s) → height (tree e) ≡ levels e
unfolding height bare
height-tree e = by_arity (λ s e. height (tree e) ≡ levels e) (λ s b. rw (tree-0, levels-0) (leaf-height b))
    (λ u t b x p. rw (tree-1, levels-1, p))
    (λ u v t b x y p q. rw (tree-2, levels-2, p, q))
    e where
      leaf-height : {s : Sort} (b : Nullary s) → height (bare b) ≡ 1
      leaf-height all· = refl
      leaf-height none· = refl
      leaf-height (label· k) = refl
      leaf-height (nominal· i) = refl
      leaf-height (arrow_kind· a) = refl
      leaf-height (pair· i j) = refl

module _ (f : ℕ → Expr node) (h : ℕ → Expr arrow) (g : ℕ → ℕ → Tree) (f-is : (k : ℕ) → tree (f k) ≡ g 0x03 k) (h-is : (a : ℕ) → tree (h a) ≡ g 0x11 a) where
  pub tree-substitute : {s : Sort} (e : Expr s) → tree (substitute f h e) ≡ graft g (tree e)
  unfolding graft bare substitute build0
  tree-substitute e = by_arity (λ s e. tree (substitute f h e) ≡ graft g (tree e)) (λ s b. leaf-substitute b ∙ ap (graft g) (sym (tree-0 b)))
      (λ u t b x p. rw (substitute-1, tree-1 b (substitute f h x), tree-1 b x, p))
      (λ u v t b x y p q. rw (substitute-2, tree-2 b (substitute f h x) (substitute f h y), tree-2 b x y, p, q))
      e where
        leaf-substitute : {s : Sort} (b : Nullary s) → tree (substitute f h (build0 b)) ≡ graft g (bare b)
        leaf-substitute all· = tree-0 all·
        leaf-substitute none· = tree-0 none·
        leaf-substitute (label· k) = f-is k
        leaf-substitute (nominal· i) = tree-0 (nominal· i)
        leaf-substitute (arrow_kind· a) = h-is a
        leaf-substitute (pair· i j) = tree-0 (pair· i j)

update-tree : {s : Sort} (c : ℕ) (f : ℕ → Expr s) → ((j : ℕ) → tree (f j) ≡ name c j) → (k : ℕ) (F : Expr s) (j : ℕ) → tree (update f k F j) ≡ only c k (tree F) c j
unfolding update only
update-tree c f f-is k F j = rw (eq-eqb c c refl) (go (eqb j k)) where
  go : (b : Bool) → tree (cond b F (f j)) ≡ cond b (tree F) (name c j)
  go true = refl
  go false = f-is j

pub tree-put_label : (k : ℕ) (F : Expr node) (K : Expr rule) → tree (put_label k F K) ≡ graft (only 0x03 k (tree F)) (tree K)
unfolding put_label only tree by_arity bare
tree-put_label k F K = tree-substitute (update label k F) arrow_kind (only 0x03 k (tree F)) (update-tree 0x03 label (λ j. refl) k F) (λ a. refl) K

pub tree-put_arrow : (a : ℕ) (S : Expr arrow) (K : Expr rule) → tree (put_arrow a S K) ≡ graft (only 0x11 a (tree S)) (tree K)
unfolding put_arrow only tree by_arity bare
tree-put_arrow a S K = tree-substitute label (update arrow_kind a S) (only 0x11 a (tree S)) (λ k. refl) (update-tree 0x11 arrow_kind (λ j. refl) a S) K

pub size_is : (t : Tree) → length (tree_code t) ≡ size t
unfolding size tree_code
size_is (name c k) = refl
size_is (leaf h) = refl
size_is (one h x) = omega (arith, length-append h (tree_code x), size_is x)
size_is (two h x y) = omega (arith, length-append (h ++ tree_code x) (tree_code y), length-append h (tree_code x), size_is x, size_is y)
