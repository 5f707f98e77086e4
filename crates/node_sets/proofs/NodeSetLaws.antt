-- The word of a set and the count of its members.
use mathlib.Core.Path.{◌≡◌, ap, ap₂, ◌∙◌}
use mathlib.Core.Bool.{◌&&◌, and_self}
use Prim.Native.Nat.{ℕ, ◌≤◌}
use Rattle.logic.specs.Graph.{Nodes, count_below}
use Rattle.logic.proofs.Below.{count-cong}
use Rattle.bitset.specs.Words.{set_of, member}
use Rattle.bitset.proofs.SetLaws.{common-sets}
use Rattle.node_sets.specs.NodeSets.{members}
use Rattle.node_sets.specs.declared.NodeSet.{NodeSet}

-- The word of a set, and the count of what it has in common with itself.
pub counted-members : (n : ℕ) (v : Nodes) {x c : ℕ} → n ≤ 64 → x ≡ set_of n v → c ≡ count_below 64 (λ i. member x i && member x i) → ◌≡◌ {A = NodeSet} (record { count = c; set = x }) (members n v)
counted-members n v {x} {c} h e f =
    let count : c ≡ count_below n v = f ∙ ap (λ (w : ℕ). count_below 64 (λ i. member w i && member w i)) e ∙ common-sets n v v h ∙ count-cong n (λ i. v i && v i) v (λ i l. and_self (v i)) in
    ap₂ {C = NodeSet} (λ (m w : ℕ). record { count = m; set = w }) count e
