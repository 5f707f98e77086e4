-- What breaks a rule, and the questions of the witness call.
use Rattle.std.specs.Prelude.{◌≡◌, List, ℕ, take}
use Rattle.answer.specs.Asked.{Asked, passed, ◌>>=◌, ◌>>◌}
use Rattle.logic.specs.Syntax.{Expr, rule}
use Rattle.logic.specs.Graph.{any_below}
use Rattle.logic.specs.Witness.{Breaks, nothing, nodes, pairs, unnamed, breaks, lowest_below}
use Rattle.bitset.specs.Words.{set_of}
use Rattle.sheet.specs.Sheet.{graph_of}
use Rattle.sheet.specs.Questions.{ask_sheet}
use Rattle.text.specs.Reading.{carried_limits_def, longest_carried}
use Rattle.text.specs.Questions.{ask_first}
use Rattle.witness.specs.declared.Witness.{Witness}
use Rattle.witness.specs.declared.Witness.TheVariants.{Nothing, LowestNode, LowestPair, Unnamed}

-- The lowest node and the set of all, or the lowest pair, by its first node and then by its second.
unfoldable pub witness : ℕ → Breaks → Witness
witness n nothing = Nothing
witness n (nodes v) = LowestNode (lowest_below n v) (set_of n v)
witness n (pairs v) = let i = lowest_below n (λ i. any_below n (v i)) in LowestPair i (lowest_below n (v i))
witness n unnamed = Unnamed

-- The numbers of a witness, as C sees them, each 0 where it has none: kind 0, the rule holds; kind 1, a node and the set of all; kind 2, a pair; kind 3,
-- nothing is named.
abbrev pub witness_kind : Witness → ℕ
witness_kind Nothing = 0
witness_kind (LowestNode i all) = 1
witness_kind (LowestPair i j) = 2
witness_kind Unnamed = 3

abbrev pub witness_first : Witness → ℕ
witness_first Nothing = 0
witness_first (LowestNode i all) = i
witness_first (LowestPair i j) = i
witness_first Unnamed = 0

abbrev pub witness_second : Witness → ℕ
witness_second Nothing = 0
witness_second (LowestNode i all) = 0
witness_second (LowestPair i j) = j
witness_second Unnamed = 0

abbrev pub witness_nodes : Witness → ℕ
witness_nodes Nothing = 0
witness_nodes (LowestNode i all) = all
witness_nodes (LowestPair i j) = 0
witness_nodes Unnamed = 0

-- w is the witness of the rule K on a sheet of n nodes.
abbrev pub WitnessOf : List ℕ → ℕ → Witness → Expr rule → Type 0
WitnessOf sheet n w K = w ≡ witness n (breaks (graph_of sheet) K)

-- The sheet, then the first rule of the text, as a carried rule; of a longer text only as much is looked at as a carried rule can have.
unfoldable pub ask_witness : List ℕ → List ℕ → Asked Witness
ask_witness sheet text = do
  ask_sheet sheet
  K ← ask_first (carried_limits_def (graph_of sheet).n) (take longest_carried text)
  passed (witness (graph_of sheet).n (breaks (graph_of sheet) K))
