-- Why item 8 leaves out 23, 24, 26, 27 and, in expressions, 04 and 17: for each, a rule for which holding on the joined graph is not the same
-- as holding on both (proofs/Examples computes it). Two graphs of one node: `with` has label 0 and an arrow 0 to itself, `without` has neither.
use Rattle.std.specs.Prelude.{Bool, true, false, ◌&&◌, List, [], ◌∷◌, eqb}
use Rattle.logic.specs.Syntax.{Expr, rule, all, none, label, nominal, arrow_kind, pair, sub_nodes, sub_arrows, node_in, pair_in, either, not_rule}
use Rattle.logic.specs.Graph.{Graph}
use Rattle.logic.specs.Meaning.{value}
use Rattle.join_sheets.specs.Joined.{joined_graph}

abbrev pub with : Graph
with = record { n = 1; in_use = λ i. eqb i 0; labelled = λ k i. eqb k 0 && eqb i 0; joined = λ a i j. eqb a 0 && (eqb i 0 && eqb j 0) }

abbrev pub without : Graph
without = record { n = 1; in_use = λ i. eqb i 0; labelled = λ k i. false; joined = λ a i j. false }

-- Whether a rule holds on the first graph, on the second, and on the joined one.
pub record Shown : Type 0 where
  pub on_first : Bool
  pub on_second : Bool
  pub on_joined : Bool

unfoldable pub shown : Graph → Graph → Expr rule → Shown
shown g h K = record { on_first = value g K; on_second = value h K; on_joined = value (joined_graph g h) K }

unfoldable pub left_out : List Shown
left_out =
    -- 26: all nodes have label 0, or none has it
    shown with without (either (sub_nodes all (label 0)) (sub_nodes (label 0) none))
    -- 27: not all nodes have it
    ∷ shown with without (not_rule (sub_nodes all (label 0)))
    -- 23, and 24
    ∷ shown with without (node_in 0 (label 0))
    ∷ shown with without (pair_in 0 0 (arrow_kind 0))
    -- 04, and 17
    ∷ shown with without (sub_nodes all (nominal 0))
    ∷ shown with with (sub_arrows (arrow_kind 0) (pair 0 0))
    ∷ []

unfoldable pub truths : List Shown
truths =
    record { on_first = true; on_second = true; on_joined = false }
    ∷ record { on_first = false; on_second = true; on_joined = true }
    ∷ record { on_first = true; on_second = false; on_joined = true }
    ∷ record { on_first = true; on_second = false; on_joined = true }
    ∷ record { on_first = true; on_second = true; on_joined = false }
    ∷ record { on_first = true; on_second = true; on_joined = false }
    ∷ []
