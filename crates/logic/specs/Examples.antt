-- Values on a sheet with a closed node (item 6 of document 02): 3 nodes, node 1 closed, label 0 on node 0, arrow 0 from 0 to 2.
use Rattle.std.specs.Prelude.{Bool, true, false, ◌&&◌, ◌||◌, List, [], ◌∷◌, eqb}
use Rattle.logic.specs.Syntax.{Expr, node, all, none, label, nominal, complement, and, or, some, every, at_least, at_most, arrow_kind, pair, sub_nodes, node_in, pair_in}
use Rattle.logic.specs.Graph.{Graph}
use Rattle.logic.specs.Meaning.{value}

abbrev pub closed1 : Graph
closed1 = record { n = 3; in_use = λ i. eqb i 0 || eqb i 2; labelled = λ k i. eqb k 0 && eqb i 0; joined = λ a i j. eqb a 0 && (eqb i 0 && eqb j 2) }

-- For each of the nodes 0, 1 and 2, whether it is in the value.
unfoldable pub on : Expr node → List Bool
on E = value closed1 E 0 ∷ value closed1 E 1 ∷ value closed1 E 2 ∷ []

unfoldable pub values : List (List Bool)
values =
    -- 01; 05 03 00; 04 01; 04 02
    on all
    ∷ on (complement (label 0))
    ∷ on (nominal 1)
    ∷ on (nominal 2)
    -- 09 11 00 02; 0B 00 11 00 01; 0A 00 11 00 02
    ∷ on (every (arrow_kind 0) none)
    ∷ on (at_most 0 (arrow_kind 0) all)
    ∷ on (at_least 0 (arrow_kind 0) none)
    -- 08 17 01 02 01; 08 17 00 01 01; 08 17 00 02 01
    ∷ on (some (pair 1 2) all)
    ∷ on (some (pair 0 1) all)
    ∷ on (some (pair 0 2) all)
    ∷ []

unfoldable pub values_are : List (List Bool)
values_are =
    (true ∷ false ∷ true ∷ [])
    ∷ (false ∷ false ∷ true ∷ [])
    ∷ (false ∷ false ∷ false ∷ [])
    ∷ (false ∷ false ∷ true ∷ [])
    ∷ (false ∷ false ∷ true ∷ [])
    ∷ (false ∷ false ∷ true ∷ [])
    ∷ (true ∷ false ∷ true ∷ [])
    ∷ (false ∷ false ∷ false ∷ [])
    ∷ (false ∷ false ∷ false ∷ [])
    ∷ (true ∷ false ∷ false ∷ [])
    ∷ []

-- 23 01 01; 23 02 01; 24 00 02 11 00; 24 01 02 17 01 02; 21 05 03 00 09 11 00 02.
unfoldable pub truths : List Bool
truths = value closed1 (node_in 1 all) ∷ value closed1 (node_in 2 all) ∷ value closed1 (pair_in 0 2 (arrow_kind 0)) ∷ value closed1 (pair_in 1 2 (pair 1 2)) ∷ value closed1 (sub_nodes (complement (label 0)) (every (arrow_kind 0) none)) ∷ []

unfoldable pub truths_are : List Bool
truths_are = false ∷ true ∷ true ∷ false ∷ true ∷ []

-- Outside the limits: 2 nodes, node 1 closed but with label 0, and arrow 0 goes to it from node 0. On this graph 09 R E differs from 05 08 R 05 E,
-- and 05 05 E, 07 01 E and 06 01 E differ from E, 01 and E.
abbrev pub stray : Graph
stray = record { n = 2; in_use = λ i. eqb i 0; labelled = λ k i. eqb k 0 && eqb i 1; joined = λ a i j. eqb a 0 && (eqb i 0 && eqb j 1) }

unfoldable pub strays : List Bool
strays =
    value stray (every (arrow_kind 0) none) 0
    ∷ value stray (complement (some (arrow_kind 0) (complement none))) 0
    ∷ value stray (complement (complement (label 0))) 1
    ∷ value stray (or all (label 0)) 1
    ∷ value stray (and all (label 0)) 1
    ∷ value stray (label 0) 1
    ∷ value stray all 1
    ∷ []

unfoldable pub strays_are : List Bool
strays_are = false ∷ true ∷ false ∷ true ∷ false ∷ true ∷ false ∷ []
