-- Sets of nodes in use, and evaluation for those nodes alone.
use mathlib.Core.Path.{◌≡◌, refl, sym, ap, ap₂, ◌∙◌}
use mathlib.Core.Bool.{Bool, true, false, not, ◌&&◌, and-false}
use mathlib.Core.List.{List}
use Prim.Native.Nat.{ℕ, ◌≤◌}
use native.Mathlib.Omega.{arith}
use lib.Dec.{eqb, ltb}
use borrow.Author.Tests.{ltb-false}
use Rattle.logic.specs.Syntax.{node, Expr}
use Rattle.logic.specs.Graph.{Nodes, Pairs, is_node}
use Rattle.logic.specs.Meaning.{value}
use Rattle.logic.specs.Limits.{NodesIn, PairsIn}
use Rattle.logic.proofs.Bools.{and-only}
use Rattle.logic.proofs.Inside.{no_node, value_in}
use Rattle.bitset.specs.Words.{set_of, member, combined}
use Rattle.bitset.proofs.SetLaws.{set_of-cong, set_of-none, member-zero, set_of-member-lt, member_of, combined-sets}
use Rattle.sheet.specs.Sheet.{graph_of}
use Rattle.rows.specs.Operations.{Among}
use Rattle.rows.proofs.Quantifiers.{set-small}
use Rattle.eval.specs.Evaluated.{Opened, Used, IsSet, IsSetWithin}

-- An evaluation for nodes in use may take each of them to be a node.
pub in_use : (u b : Bool) (f : Bool → Bool) → (b ≡ false → u ≡ false) → (u && f b) ≡ (u && f true)
in_use u true f h = refl
in_use u false f h = rw (h refl)

-- the word of the nodes in use
pub all-members : {sheet : List ℕ} {n all : ℕ} → Opened sheet n all → (i : ℕ) → member all i ≡ is_node (graph_of sheet) i
all-members {sheet} {n} o i =
    let g = graph_of sheet in
    ap (λ (y : ℕ). member y i) o.nodes ∙ member_of n (is_node g) i ∙ and-only (ltb i n) (is_node g i) (λ h. no_node g i (omega (arith, o.count, ltb-false i n h)))

pub all-used : {sheet : List ℕ} {n all : ℕ} → Opened sheet n all → Used sheet n all
all-used {sheet} {n} o = record { small = set-small n (is_node (graph_of sheet)) o.nodes; nodes = λ i h. all-members o i ∙ h }

-- a relation that joins only nodes in use
pub among-all : {sheet : List ℕ} {n all : ℕ} {v : Pairs} → Opened sheet n all → PairsIn (graph_of sheet) v → Among all v
among-all o p = record { starts = λ i j h. p.starts i j (sym (all-members o i) ∙ h); ends = λ i j h. p.ends i j (sym (all-members o j) ∙ h) }

-- for all nodes, the part is the whole
pub part-whole : (sheet : List ℕ) (n all : ℕ) → Opened sheet n all → (e : Expr node) (x : ℕ) → x ≡ set_of n (λ i. member all i && value (graph_of sheet) e i) → x ≡ set_of n (value (graph_of sheet) e)
part-whole sheet n w o e x h =
    h ∙ set_of-cong n _ _ (λ i l. ap (◌&& value (graph_of sheet) e i) (all-members o i) ∙ and-only (is_node (graph_of sheet) i) (value (graph_of sheet) e i) (value_in (graph_of sheet) o.within e i))

pub is_whole : {sheet : List ℕ} {n all at : ℕ} {e : Expr node} {x next : ℕ} → Opened sheet n all → IsSetWithin sheet n at e all x next → IsSet sheet n at e x next
is_whole {sheet = sheet} {n = n} {all = w} {e = e} {x = x} o h = record { set = part-whole sheet n w o e x h.set; ends = h.ends }

-- sets of nodes in use
pub set-used : {sheet : List ℕ} {x : ℕ} (n : ℕ) (p : Nodes) → x ≡ set_of n p → NodesIn (graph_of sheet) p → Used sheet n x
set-used n p e h = record { small = set-small n p e; nodes = λ i z. ap (λ (y : ℕ). member y i) e ∙ member_of n p i ∙ ap (ltb i n &&◌) (h i z) ∙ and-false (ltb i n) }

pub part-used : {sheet : List ℕ} {n at : ℕ} {e : Expr node} {within x next : ℕ} → Used sheet n within → IsSetWithin sheet n at e within x next → Used sheet n x
part-used {sheet} {n} {e = e} {within} u h = set-used n (λ i. member within i && value (graph_of sheet) e i) h.set (λ i z. ap (◌&& value (graph_of sheet) e i) (u.nodes i z))

pub nominal-used : {sheet : List ℕ} {n x : ℕ} (i : ℕ) → x ≡ set_of n (λ k. is_node (graph_of sheet) k && eqb k i) → Used sheet n x
nominal-used {sheet} {n} i e = set-used n (λ k. is_node (graph_of sheet) k && eqb k i) e (λ k z. ap (◌&& eqb k i) z)

-- the nodes evaluated for, combined with a set
pub combined-used : {sheet : List ℕ} {n within x z : ℕ} (f : Bool → Bool → Bool) → f false false ≡ false → (v : Nodes) → n ≤ 64 → Used sheet n within → x ≡ set_of n v → z ≡ combined f within x → z ≡ set_of n (λ i. f (member within i) (v i))
combined-used {n = n} {within = within} f q v h u s e = e ∙ ap₂ (combined f) (sym (set_of-member-lt n within u.small)) s ∙ combined-sets f q n (member within) v h

pub minus-used : {sheet : List ℕ} (n within x w : ℕ) → n ≤ 64 → Used sheet n within → Used sheet n x → w ≡ combined (λ a b. a && not b) within x → Used sheet n w
minus-used n within x w h p q e =
    set-used n (λ i. member within i && not (member x i)) (combined-used (λ a b. a && not b) refl (member x) h p (sym (set_of-member-lt n x q.small)) e)
    (λ i z. ap (◌&& not (member x i)) (p.nodes i z))

-- for no nodes, the set is empty
pub nothing-asked : (n within : ℕ) (p : Nodes) → within ≡ 0 → 0 ≡ set_of n (λ i. member within i && p i)
nothing-asked n within p e = sym (set_of-cong n _ (λ i. false) (λ i l. ap (◌&& p i) (ap (λ (x : ℕ). member x i) e ∙ member-zero i)) ∙ set_of-none n)
