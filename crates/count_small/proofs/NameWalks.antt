-- Reading a text byte by byte finds the names of the rules, or of the edit, that it spells.
use mathlib.Core.Path.{◌≡◌, refl, sym, ap, ◌∙◌}
use mathlib.Core.Logic.{⊎_elim}
use mathlib.Core.Bool.{Bool, true, false, not, ◌&&◌, cond, and_assoc, and-true}
use mathlib.Core.List.{List, [], ◌∷◌, ◌++◌, append_assoc, append-nil}
use Prim.Native.Nat.{ℕ, ◌+◌, ◌*◌, ◌%◌, ◌≤◌, ◌<◌}
use native.Mathlib.Numerals.{add-one}
use native.Mathlib.Omega.{arith}
use lib.Dec.{eqb, ltb}
use lib.ListN.{length, get_or, drop, drop_of_length-le}
use lib.Seq.{drop-cons}
use borrow.Author.Tests.{lt-ltb}
use Rattle.logic.specs.Syntax.{Sort, Expr, rule, Edit, finish, add_label, take_label, add_arrow, take_arrow, choose}
use Rattle.logic.specs.Limits.{Ranges, InRange, EditInRange}
use Rattle.text.specs.Code.{code, edit_code, book_code}
use Rattle.text.specs.Stands.{RulesInRange}
use Rattle.tree.specs.Tree.{Tree, name, leaf, one, two, tree_code, tree}
use Rattle.tree.proofs.TreeLaws.{code-tree}
use Rattle.ends.specs.Shapes.{shapes, shape_of, Head, Formed}
use Rattle.ends.proofs.Pending.{code-low}
use Rattle.ends.proofs.Formed.{formed-tree}
use Rattle.ends.proofs.FirstSteps.{four}
use Rattle.count_small.specs.Names.{only_first, rules_only_first, edit_only_first}
use Rattle.count_small.specs.Walk.{code_shape, due_next_def, other_named_def, walk}

-- What the function that looks for names has found so far.
module _ (text : List ℕ) (due p : ℕ) (reached : walk 0 text ≡ walk due (drop p text)) where
  first_byte : p < length text → walk 0 text ≡ cond (other_named_def due (get_or text p 0)) false (walk (due_next_def due (get_or text p 0)) (drop (p + 1) text))
  unfolding walk
  first_byte l = reached ∙ ap (walk due) (drop-cons text p 0 l) ∙ ap (λ (q : ℕ). cond (other_named_def due (get_or text p 0)) false (walk (due_next_def due (get_or text p 0)) (drop q text))) (sym (add-one p))

  pub reached-more : (next : ℕ) → p < length text → other_named_def due (get_or text p 0) ≡ false → next ≡ due_next_def due (get_or text p 0) → walk 0 text ≡ walk next (drop (p + 1) text)
  reached-more next l o e =
      first_byte l ∙ ap (λ (b : Bool). cond b false (walk (due_next_def due (get_or text p 0)) (drop (p + 1) text))) o ∙ ap (λ (d : ℕ). walk d (drop (p + 1) text)) (sym e)

  pub reached-other : p < length text → other_named_def due (get_or text p 0) ≡ true → false ≡ walk 0 text
  reached-other l o = sym (first_byte l ∙ ap (λ (b : Bool). cond b false (walk (due_next_def due (get_or text p 0)) (drop (p + 1) text))) o)

  pub reached-end : length text ≤ p → true ≡ walk 0 text
  reached-end l = unfold walk in sym (reached ∙ ap (walk due) (drop_of_length-le text l))

shape_is : (c s : ℕ) → shape_of c ≡ s → 0 < s → code_shape c ≡ s
unfolding code_shape
shape_is c s e l = ap (λ (b : Bool). cond b (shape_of c) (cond (ltb c 0x31) 1 (cond (ltb c 0x35) 18 1))) (lt-ltb c 40 (code-low c (omega (arith, e)))) ∙ e

-- a code with this many numbers, none of them a name's
due-is : (c m k : ℕ) → m < 3 → k ≤ 2 → shape_of c ≡ 1 + m + 4 * k → due_next_def 0 c ≡ m
unfolding due_next_def
due-is c m k l h e =
    let s = 1 + m + 4 * k in
    ap (λ (x : ℕ). cond (ltb x 16) ((x + 3) % 4) 3) (shape_is c s e (omega arith)) ∙ ap (λ (b : Bool). cond b ((s + 3) % 4) 3) (lt-ltb s 16 (omega arith)) ∙ omega arith

walk-head : (h : List ℕ) (k : ℕ) → Head h k → k ≤ 2 → (rest : List ℕ) → walk 0 (h ++ rest) ≡ walk 0 rest
unfolding walk due_next_def
walk-head [] k f l rest = absurd (omega (arith, f.pos))
walk-head (c ∷ []) k f l rest = ap (λ (d : ℕ). walk d rest) (due-is c 0 k (omega arith) l f.is)
walk-head (c ∷ x ∷ []) k f l rest = ap (λ (d : ℕ). walk d (x ∷ rest)) (due-is c 1 k (omega arith) l f.is)
walk-head (c ∷ x ∷ y ∷ []) k f l rest = ap (λ (d : ℕ). walk d (x ∷ y ∷ rest)) (due-is c 2 k (omega arith) l f.is)
walk-head (c ∷ x ∷ y ∷ z ∷ h) k f l rest = absurd (omega (arith, f.short))

-- a code with a name's number
walk-name : (c k : ℕ) → code_shape c ≡ 18 → (rest : List ℕ) → walk 0 (c ∷ k ∷ rest) ≡ (eqb k 0 && walk 0 rest)
unfolding walk due_next_def
walk-name c k e rest = ap (λ (s : ℕ). walk (cond (ltb s 16) ((s + 3) % 4) 3) (k ∷ rest)) e ∙ go (eqb k 0) where
  go : (b : Bool) → cond (not b) false (walk 0 rest) ≡ (b && walk 0 rest)
  go true = refl
  go false = refl

walk-tree : (t : Tree) → Formed t → (rest : List ℕ) → walk 0 (tree_code t ++ rest) ≡ (only_first t && walk 0 rest)
unfolding Formed tree_code only_first shapes
walk-tree (name c k) f rest = ⊎_elim (λ p. walk-name c k (shape_is c 18 (ap shape_of p.0) (omega arith)) rest) (λ p. walk-name c k (shape_is c 18 (ap shape_of p.0) (omega arith)) rest) f
walk-tree (leaf h) f rest = walk-head h 0 f (omega arith) rest
walk-tree (one h x) f rest = ap (walk 0) (append_assoc h (tree_code x) rest) ∙ walk-head h 1 f.0 (omega arith) (tree_code x ++ rest) ∙ walk-tree x f.1 rest
walk-tree (two h x y) f rest =
    ap (walk 0) (append_assoc (h ++ tree_code x) (tree_code y) rest ∙ append_assoc h (tree_code x) (tree_code y ++ rest))
    ∙ walk-head h 2 f.0 (omega arith) (tree_code x ++ (tree_code y ++ rest))
    ∙ walk-tree x f.1 (tree_code y ++ rest)
    ∙ ap (only_first x &&◌) (walk-tree y f.2 rest)
    ∙ sym (and_assoc (only_first x) (only_first y) (walk 0 rest))

module _ (r : Ranges) where
  walk_code : {s : Sort} (e : Expr s) → InRange r e → (rest : List ℕ) → walk 0 (code e ++ rest) ≡ (only_first (tree e) && walk 0 rest)
  walk_code e f rest = ap (λ (l : List ℕ). walk 0 (l ++ rest)) (sym (code-tree e)) ∙ walk-tree (tree e) (formed-tree r e f) rest

  -- The names of a book are those of its rules,
  pub walk-rules : (rules : List (Expr rule)) → RulesInRange r rules → walk 0 (book_code rules) ≡ rules_only_first rules
  unfolding book_code rules_only_first walk
  walk-rules [] f = refl
  walk-rules (K ∷ rules) f = walk_code K f.0 (book_code rules) ∙ ap (only_first (tree K) &&◌) (walk-rules rules f.1)

  -- a step 31 to 34
  walk_step : (c k : ℕ) {s : Sort} (e : Expr s) (z rest : List ℕ) (b : Bool) → code_shape c ≡ 18 → InRange r e → walk 0 (z ++ rest) ≡ (b && walk 0 rest)
      → walk 0 (c ∷ k ∷ ((code e ++ z) ++ rest)) ≡ ((eqb k 0 && (only_first (tree e) && b)) && walk 0 rest)
  walk_step c k e z rest b s f h =
      walk-name c k s ((code e ++ z) ++ rest)
      ∙ ap (λ (l : List ℕ). eqb k 0 && walk 0 l) (append_assoc (code e) z rest)
      ∙ ap (eqb k 0 &&◌) (walk_code e f (z ++ rest) ∙ ap (only_first (tree e) &&◌) h ∙ sym (and_assoc (only_first (tree e)) b (walk 0 rest)))
      ∙ sym (and_assoc (eqb k 0) (only_first (tree e) && b) (walk 0 rest))

  walk-edit : (Z : Edit) → EditInRange r Z → (rest : List ℕ) → walk 0 (edit_code Z ++ rest) ≡ (edit_only_first Z && walk 0 rest)
  unfolding edit_code EditInRange edit_only_first walk due_next_def code_shape
  walk-edit finish f rest = refl
  walk-edit (add_label k E Z) f rest = walk_step 0x31 k E (edit_code Z) rest (edit_only_first Z) refl f.1 (walk-edit Z f.2 rest)
  walk-edit (take_label k E Z) f rest = walk_step 0x32 k E (edit_code Z) rest (edit_only_first Z) refl f.1 (walk-edit Z f.2 rest)
  walk-edit (add_arrow a R Z) f rest = walk_step 0x33 a R (edit_code Z) rest (edit_only_first Z) refl f.1 (walk-edit Z f.2 rest)
  walk-edit (take_arrow a R Z) f rest = walk_step 0x34 a R (edit_code Z) rest (edit_only_first Z) refl f.1 (walk-edit Z f.2 rest)
  walk-edit (choose K P Q Z) f rest =
      ap (walk 0) (four (0x35 ∷ code K) (edit_code P) (edit_code Q) (edit_code Z) rest)
      ∙ walk_code K f.0 (edit_code P ++ (edit_code Q ++ (edit_code Z ++ rest)))
      ∙ ap (only_first (tree K) &&◌)
      (walk-edit P f.1 (edit_code Q ++ (edit_code Z ++ rest))
      ∙ ap (edit_only_first P &&◌) (walk-edit Q f.2 (edit_code Z ++ rest) ∙ ap (edit_only_first Q &&◌) (walk-edit Z f.3 rest) ∙ sym (and_assoc (edit_only_first Q) (edit_only_first Z) (walk 0 rest)))
      ∙ sym (and_assoc (edit_only_first P) (edit_only_first Q && edit_only_first Z) (walk 0 rest)))
      ∙ sym (and_assoc (only_first (tree K)) (edit_only_first P && (edit_only_first Q && edit_only_first Z)) (walk 0 rest))

  -- and those of an edit its own.
  pub walk-whole-edit : (Z : Edit) → EditInRange r Z → walk 0 (edit_code Z) ≡ edit_only_first Z
  walk-whole-edit Z f = unfold walk in ap (walk 0) (sym (append-nil (edit_code Z))) ∙ walk-edit Z f [] ∙ and-true (edit_only_first Z)
