-- "when another label or arrow is named": whether every name in a text is label 0 or arrow 0, in steps that are made and in those that are not.
use Rattle.std.specs.Prelude.{Bool, true, ◌&&◌, List, [], ◌∷◌, eqb}
use Rattle.logic.specs.Syntax.{Expr, rule, Edit, finish, add_label, take_label, add_arrow, take_arrow, choose}
use Rattle.tree.specs.Tree.{Tree, name, leaf, one, two, tree}

-- The names of an expression, as a tree: 03 k and 11 a.
unfoldable pub only_first : Tree → Bool
only_first (name c k) = eqb k 0
only_first (leaf h) = true
only_first (one h x) = only_first x
only_first (two h x y) = only_first x && only_first y

unfoldable pub rules_only_first : List (Expr rule) → Bool
rules_only_first [] = true
rules_only_first (K ∷ rules) = only_first (tree K) && rules_only_first rules

-- A step names its label or arrow, too.
unfoldable pub edit_only_first : Edit → Bool
edit_only_first finish = true
edit_only_first (add_label k E Z) = eqb k 0 && (only_first (tree E) && edit_only_first Z)
edit_only_first (take_label k E Z) = eqb k 0 && (only_first (tree E) && edit_only_first Z)
edit_only_first (add_arrow a R Z) = eqb a 0 && (only_first (tree R) && edit_only_first Z)
edit_only_first (take_arrow a R Z) = eqb a 0 && (only_first (tree R) && edit_only_first Z)
edit_only_first (choose K P Q Z) = only_first (tree K) && (edit_only_first P && (edit_only_first Q && edit_only_first Z))
