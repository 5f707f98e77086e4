-- The pages that graphs print, and their lines.
use Rattle.std.specs.Prelude.{◌≡◌, List, ℕ, suc, ◌<◌}
use Rattle.logic.specs.Graph.{Graph, Nodes}
use Rattle.logic.specs.Limits.{Within, arrow_count}
use Rattle.sheet.specs.Sheet.{chunks, line_of}
use Rattle.pages.specs.Page.{set_line, arrow_page_def, label_page_def}
use Rattle.pages.specs.Typed.{page_line, Block, arrows, labels, lines_of}

-- The set that line x of a block's page shows; the lines of that page.
abbrev pub set_at : Graph → Block → ℕ → Nodes
set_at g (arrows a) i = g.joined a i
set_at g labels k = line_of g k

unfoldable pub page_lines : Graph → Block → List ℕ
page_lines g b = chunks (lines_of g.n b) 0 (λ x. set_line g.n x (set_at g b x))

-- The page of a block.
abbrev pub page_of : Graph → Block → List ℕ
page_of g (arrows a) = arrow_page_def g a
page_of g labels = label_page_def g

-- The blocks that a sheet has.
abbrev pub HasBlock : Block → Type 0
HasBlock (arrows a) = a < arrow_count
HasBlock labels = Unit {0}

-- h has as many nodes as g, and the same of them are in use.
pub record Alike (g h : Graph) : Type 0 where
  pub nodes : h.n ≡ g.n
  pub in_use : h.in_use ≡ g.in_use

-- Some graph within the limits that is like this one prints this page for this block.
pub record Prints (g : Graph) (page : List ℕ) (b : Block) : Type 0 where
  pub graph : Graph
  pub within : Within graph
  pub alike : Alike g graph
  pub block : HasBlock b
  pub is_page : page ≡ page_of graph b

-- On the page of this block, some such graph has this line as that of number x.
pub record IsLine (g : Graph) (b : Block) (x : ℕ) (line : List ℕ) : Type 0 where
  pub graph : Graph
  pub within : Within graph
  pub alike : Alike g graph
  pub is_line : line ≡ page_line (page_of graph b) (suc x)
