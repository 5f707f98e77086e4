-- What the codes with operands do, node by node: document 004, Table II, with the code bytes of document 01.
use Rattle.std.specs.Prelude.{◌≡◌, Bool, false, not, ◌&&◌, ◌||◌, cond, List, ℕ, ◌+◌, ◌≤◌, ◌<◌, eqb, leb, get_or}
use Rattle.logic.specs.Graph.{Nodes, Pairs, any_below, all_below, count_below, implies}
use Rattle.logic.specs.Limits.{max_nodes, arrow_count}
use Rattle.bitset.specs.Words.{set_of, member, combined}
use Rattle.sheet.specs.Sheet.{graph_of}
use Rattle.sheet.specs.Questions.{Sound}
use Rattle.rows.specs.declared.counting.Wanted.{Wanted}
use Rattle.rows.specs.declared.counting.Wanted.TheVariants.{One, Count}

-- 13 union; 14 common; 15 first without second
abbrev pub arrow_operation : ℕ → Bool → Bool → Bool
arrow_operation c x y = cond (eqb c 0x13) (x || y) (cond (eqb c 0x14) (x && y) (x && not y))

-- 08 some; 09 every; 0A at least m; 0B at most m: whether a start node with the end nodes v, among n nodes, meets it for the set w.
unfoldable pub quantified : (c m n : ℕ) → Nodes → Nodes → Bool
quantified c m n v w =
    cond (eqb c 0x08) (any_below n (λ j. v j && w j))
    (cond (eqb c 0x09) (all_below n (λ j. implies (v j) (w j)))
    (cond (eqb c 0x0A) (leb m (count_below n (λ j. v j && w j)))
    (leb (count_below n (λ j. v j && w j)) m)))

-- The nodes that meet it. 08 needs an arrow, which only a node in use has; the others are restricted to the nodes in use.
unfoldable pub quantified_nodes : (c m n : ℕ) → Nodes → Pairs → Nodes → Nodes
quantified_nodes c m n nodes v w i = cond (eqb c 0x08) (quantified c m n (v i) w) (nodes i && quantified c m n (v i) w)

-- For an inner function: the first n rows of r are those of rows with the mask e.
pub record Masked (n : ℕ) (rows : List ℕ) (e : ℕ) (r : List ℕ) : Type 0 where
  pub row : (i : ℕ) → i < n → get_or r i 0 ≡ combined ◌&&◌ (get_or rows i 0) e

-- For an inner function: the first m rows of r are the first m columns of a.
pub record Columns (m : ℕ) (a r : List ℕ) : Type 0 where
  pub row : (i : ℕ) → i < m → get_or r i 0 ≡ set_of m (λ j. member (get_or a j 0) i)

-- All four codes come to one question: whether at least k of a start node's ends v, among n nodes, are in w.
abbrev pub enough : (k n : ℕ) → Nodes → Nodes → Bool
enough k n v w = leb k (count_below n (λ j. v j && w j))

-- For inner functions: the number that `Wanted` stands for.
abbrev pub number : Wanted → ℕ
number One = 1
number (Count m) = m

-- by code: how many ends; in the set, or for 09 among the nodes outside it; and whether the answer is negated (09, 0B)
abbrev pub least : ℕ → ℕ → ℕ
least c m = cond (eqb c 0x08) 1 (cond (eqb c 0x09) 1 (cond (eqb c 0x0A) m (m + 1)))

abbrev pub looked : ℕ → Bool → Bool → Bool
looked c node x = cond (eqb c 0x08) x (cond (eqb c 0x09) (node && not x) x)

abbrev pub answered : ℕ → Bool → Bool
answered c x = cond (eqb c 0x08) x (cond (eqb c 0x09) (not x) (cond (eqb c 0x0A) x (not x)))

-- columns as rows, or the rows as they are
abbrev pub turn : Bool → Pairs → Pairs
turn b v i j = cond b (v j i) (v i j)

-- For inner functions: the pairs join only members of `all`.
pub record Among (all : ℕ) (v : Pairs) : Type 0 where
  pub starts : (i j : ℕ) → member all i ≡ false → v i j ≡ false
  pub ends : (i j : ℕ) → member all j ≡ false → v i j ≡ false

-- For inner functions: the sheet is sound with these n nodes, and a is one of its arrow kinds.
pub record OfSheet (sheet : List ℕ) (n a : ℕ) : Type 0 where
  pub sound : Sound sheet
  pub count : n ≡ (graph_of sheet).n
  pub few : n ≤ max_nodes
  pub kind : a < arrow_count

-- For inner functions: whatever is given as the row of node i are the ends of i in v.
pub record Gives (n : ℕ) (v : Pairs) (gives : ℕ → ℕ → Type 0) : Type 0 where
  pub row : (i r : ℕ) → i < n → gives i r → r ≡ set_of n (v i)
