-- A measure in numbers, capped: how often each name stands there, its deepest level, the length, the levels.
use Rattle.std.specs.Prelude.{◌≡◌, List, ℕ, ◌+◌, ◌*◌, max, get_or}
use Rattle.tree.specs.Tree.{Tree, under, size}
use Rattle.tree.specs.Sizes.{Measure, measure, capped}
use Rattle.ends.specs.Shapes.{Named, cell}

-- how many names there are, and how many numbers
abbrev pub names : ℕ
names = 64

abbrev pub numbers : ℕ
numbers = 130

-- w copies of a text added, their first codes on level v at the deepest; their length is not counted
unfoldable pub added : (w v : ℕ) (E M : Measure) → Measure
added w v E M = record {
  len = M.len;
  tall = max M.tall (under v E.tall);
  counts = λ c k. M.counts c k + w * E.counts c k;
  deeps = λ c k. max (M.deeps c k) (under v (E.deeps c k));
}

-- where the length and the levels stand
abbrev pub length_cell : ℕ
length_cell = 128

abbrev pub levels_cell : ℕ
levels_cell = 129

-- the numbers l hold the measure M, each capped
pub record Holds (l : List ℕ) (M : Measure) : Type 0 where
  pub len_at : get_or l length_cell 0 ≡ capped M.len
  pub tall_at : get_or l levels_cell 0 ≡ capped M.tall
  pub count_at : (c k : ℕ) → Named c k → get_or l (cell c k) 0 ≡ capped (M.counts c k)
  pub deep_at : (c k : ℕ) → Named c k → get_or l (names + cell c k) 0 ≡ capped (M.deeps c k)

-- what scanning leaves: the place after the tree t, and the numbers with w copies of it added on level v
pub record Scanned (at w v : ℕ) (t : Tree) (next : ℕ) (l l' : List ℕ) : Type 0 where
  pub ends : next ≡ at + size t
  pub state : (M : Measure) → Holds l M → Holds l' (added w v (measure t) M)
