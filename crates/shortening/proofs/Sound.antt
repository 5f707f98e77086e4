-- Each law is sound on every graph within the limits, with any set of nodes in use; so is a step, and a chain.
use mathlib.Core.Path.{◌≡◌, refl, sym, ◌∙◌, ap, fun_ext}
use mathlib.Core.Bool.{Bool, true, false, not, ◌&&◌, ◌||◌, and_self, or_self, not-not}
use mathlib.Core.List.{List, [], ◌∷◌}
use Rattle.logic.specs.Lists.{All}
use Rattle.logic.specs.Syntax.{Sort, node, arrow, rule, Expr}
use Rattle.logic.specs.Graph.{Graph, is_node}
use Rattle.logic.specs.Meaning.{value}
use Rattle.logic.specs.Limits.{Within}
use Rattle.logic.proofs.Bools.{and-only}
use Rattle.logic.proofs.Inside.{value_in}
use Rattle.logic.proofs.ArityLaws.{value-1, value-2}
use Rattle.shortening.specs.Place.{Context, here, only, first, second, put}
use Rattle.shortening.specs.Laws.{Law, laws, Step, Fits, Chain}
use Rattle.shortening.proofs.Numbered.{◌&◌, by_number}

-- A term's value depends only on its operands' values.
module _ (g : Graph) where
  value-put : {s t : Sort} (c : Context s t) (x y : Expr s) → value g x ≡ value g y → value g (put c x) ≡ value g (put c y)
  unfolding put
  value-put here x y p = p
  value-put (only u c) x y p = value-1 g _ _ u (put c x) (put c y) (value-put c x y p)
  value-put (first b c z) x y p = value-2 g _ _ b (put c x) (put c y) z z (value-put c x y p) refl
  value-put (second b z c) x y p = value-2 g _ _ b z z (put c x) (put c y) refl (value-put c x y p)

-- Each law, on every graph within the limits.
abbrev pub LawSound : (g : Graph) {s : Sort} → Law s → Type 0
LawSound g {s} l = (x : Expr s) → value g (l.left x) ≡ value g (l.right x)

pub laws-sound : (g : Graph) → Within g → (s : Sort) → All (LawSound g) (laws s)
unfolding laws value
laws-sound g w node =
    (λ E. fun_ext (λ i. twice (is_node g i) (value g E i) (value_in g w E i)))
    & (λ E. fun_ext (λ i. and_self (value g E i)))
    & (λ E. fun_ext (λ i. or_self (value g E i)))
    & (λ E. fun_ext (λ i. contrary (is_node g i) (value g E i)))
    & (λ E. fun_ext (λ i. all-or (is_node g i) (value g E i) (value_in g w E i)))
    & (λ E. fun_ext (λ i. and-only (is_node g i) (value g E i) (value_in g w E i)))
    & tt where
      twice : (b v : Bool) → (b ≡ false → v ≡ false) → (b && not (b && not v)) ≡ v
      twice true true h = refl
      twice true false h = refl
      twice false v h = sym (h refl)

      contrary : (b v : Bool) → (v && (b && not v)) ≡ false
      contrary true true = refl
      contrary false true = refl
      contrary b false = refl

      all-or : (b v : Bool) → (b ≡ false → v ≡ false) → (b || v) ≡ b
      all-or true v h = refl
      all-or false v h = h refl
laws-sound g w arrow = tt
laws-sound g w rule = (λ K. not-not (value g K)) & (λ K. or_self (value g K)) & tt

-- A fitting step, and a chain of them, keep the value.
pub step-sound : (g : Graph) → Within g → (x : Step) {t : Sort} (e e' : Expr t) → Fits x e e' → value g e ≡ value g e'
step-sound g w x e e' f =
    ap (value g) f.from
    ∙ value-put g f.place (f.law.left f.variable) (f.law.right f.variable) (by_number (λ n. LawSound g) (laws-sound g w f.sort) f.number_right f.variable)
    ∙ ap (value g) (sym f.to)

-- "Accepted means that both texts have the same truth on every sheet whose node numbers fit"
pub chain-sound : (g : Graph) → Within g → (xs : List Step) (K L : Expr rule) → Chain xs K L → value g K ≡ value g L
unfolding Chain
chain-sound g w [] K L c = ap (value g) c
chain-sound g w (x ∷ xs) K L (M, f, c) = step-sound g w x K M f ∙ chain-sound g w xs M L c
