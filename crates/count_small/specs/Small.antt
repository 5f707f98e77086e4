-- How many small sheets survive (item 12 of document 02): the small sheets, numbered, and the four counts.
use Rattle.std.specs.Prelude.{◌≡◌, ◌≢◌, Bool, false, not, ◌&&◌, List, ℕ, ◌+◌, ◌*◌, ◌^◌, eqb, ltb}
use Rattle.bitset.specs.Words.{member}
use Rattle.logic.specs.Syntax.{Expr, rule, Edit}
use Rattle.logic.specs.Graph.{Graph, count_below}
use Rattle.logic.specs.Meaning.{hold_all}
use Rattle.logic.specs.Steps.{run}
use Rattle.logic.specs.Limits.{Within}
use Rattle.count_small.specs.declared.Four.{Four}

-- "For n from 1 to 3, all nodes in use, only label 0 and arrow 0 in sheet": such a sheet.
pub record Small (n : ℕ) (g : Graph) : Type 0 where
  pub within : Within g
  pub count : g.n ≡ n
  pub all_in_use : (i : ℕ) → g.in_use i ≡ ltb i n
  pub one_label : (k i : ℕ) → k ≢ 0 → g.labelled k i ≡ false
  pub one_arrow : (a i j : ℕ) → a ≢ 0 → g.joined a i j ≡ false

-- How many bits give a small sheet: one for each node, whether it has label 0; one for each pair, whether arrow 0 joins it.
abbrev pub bits : ℕ → ℕ
bits n = n + n * n

-- The small sheet whose bits are those of x: node i is bit i, the pair i j is bit n + (n i + j).
unfoldable pub small_sheet : ℕ → ℕ → Graph
small_sheet n x =
    record {
      n = n;
      in_use = λ i. ltb i n;
      labelled = λ k i. eqb k 0 && (ltb i n && member x i);
      joined = λ a i j. eqb a 0 && ((ltb i n && ltb j n) && member x (n + (n * i + j)));
    }

-- "book kept before and after, kept then broken, broken then kept, broken twice": the sheets with numbers below `most`, by what holds of them
-- before and after.
unfoldable pub four_of : (most : ℕ) (before next : ℕ → Bool) → Four
four_of most before next =
    record {
      kept = count_below most (λ x. before x && next x);
      lost = count_below most (λ x. before x && not (next x));
      repaired = count_below most (λ x. not (before x) && next x);
      broken = count_below most (λ x. not (before x) && not (next x));
    }

-- "give four counts over every such sheet"
unfoldable pub four_counts : ℕ → List (Expr rule) → Edit → Four
four_counts n book Z = four_of (2 ^ bits n) (λ x. hold_all (small_sheet n x) book) (λ x. hold_all (run Z (small_sheet n x)) book)

abbrev pub total : Four → ℕ
total f = f.kept + f.lost + f.repaired + f.broken
