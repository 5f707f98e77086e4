-- Typing a page back into a sheet: 1 to 4 of the sheet, then 51 if the page is not what printing a sheet of this n, with this sheet's nodes in use,
-- could give. The place is 0 for the length or the head, else the first such line, from 0.
use Rattle.std.specs.Prelude.{◌≡◌, Bool, ◌&&◌, cond, List, ℕ, zero, suc, ◌+◌, ◌*◌, ◌%◌, ◌<◌, eqb, ltb, length, get_or, take, drop, Option, Some, None}
use Rattle.answer.specs.Asked.{Asked, passed, refused, ◌>>=◌, ◌>>◌, is, after}
use Rattle.logic.specs.Graph.{Graph, Nodes, is_node}
use Rattle.logic.specs.Limits.{label_count, arrow_count}
use Rattle.logic.specs.Steps.{rejoin}
use Rattle.bitset.specs.Words.{set_of}
use Rattle.seal.specs.Seal.{same_bytes}
use Rattle.sheet.specs.Sheet.{store, graph_of, relabel_all}
use Rattle.sheet.specs.Questions.{ask_sheet}
use Rattle.pages.specs.Page.{line_bytes, head_line, set_line, label_page_lines}
use Rattle.pages.specs.declared.lines.Shown.{Shown}
use Rattle.pages.specs.declared.lines.Shown.TheVariants.{Arrows, Labels}

-- Line l of a page; the marks on a line.
abbrev pub page_line : List ℕ → ℕ → List ℕ
page_line page l = take line_bytes (drop (line_bytes * l) page)

abbrev pub marks : List ℕ → Nodes
marks line j = eqb (get_or line (3 + j) 0) 0x23

-- What a page's head names: the arrows of a kind, or the labels.
pub data Block : Type 0 where
  arrows : ℕ → Block
  labels : Block

abbrev pub block_shown : Shown → Block
block_shown (Arrows a) = arrows a
block_shown Labels = labels

-- The head of that page on a sheet of n; how many lines follow the head.
abbrev pub head_of : ℕ → Block → List ℕ
head_of n (arrows a) = head_line 0x41 a
head_of n labels = head_line 0x4C n

abbrev pub lines_of : ℕ → Block → ℕ
lines_of n (arrows a) = n
lines_of n labels = label_page_lines

-- Whether the page has this head and the right number of lines.
unfoldable pub head_is_def : ℕ → List ℕ → Block → Bool
head_is_def n page b = eqb (length page) (line_bytes * lines_of n b + line_bytes) && same_bytes (page_line page 0) (head_of n b)

-- The number in a head's two digits: the low half of a digit's byte is the digit. `head_is_def` checks that they are digits.
abbrev pub head_number : List ℕ → ℕ
head_number page = 10 * (get_or page 1 0 % 16) + get_or page 2 0 % 16

-- The head of the label page, or of the page of a kind below 16; else 51 with place 0.
unfoldable pub ask_head : ℕ → List ℕ → Asked Block
ask_head n page =
    cond (head_is_def n page labels) (passed labels)
    (cond (ltb (head_number page) arrow_count && head_is_def n page (arrows (head_number page))) (passed (arrows (head_number page))) (refused 51 0))

-- The set that line x shows when v is marked on it: closed nodes have no arrows and no labels, and line 48 of the
-- label page is the nodes in use, whatever is marked.
abbrev pub set_shown_def : Graph → Block → ℕ → Nodes → Nodes
set_shown_def g (arrows a) i v j = is_node g i && (is_node g j && v j)
set_shown_def g labels k v i = cond (ltb k label_count) (is_node g i && v i) (g.in_use i)

-- Each of the m words is the set that its line shows.
abbrev pub SetsRead : Graph → Block → (page sets : List ℕ) → (m : ℕ) → Type 0
SetsRead g b page sets m = (x : ℕ) → x < m → get_or sets x 0 ≡ set_of g.n (set_shown_def g b x (marks (page_line page (suc x))))

-- Whether printing could give this line as that of number x: it is the line of the set that its own marks show.
unfoldable pub line_right : Graph → Block → ℕ → List ℕ → Bool
line_right g b x line = same_bytes line (set_line g.n x (set_shown_def g b x (marks line)))

-- The m lines from number x on; the place of number x is x + 1.
unfoldable pub ask_lines : Graph → Block → List ℕ → (m x : ℕ) → Asked (Unit {0})
ask_lines g b page zero x = passed tt
ask_lines g b page (suc m) x = is (line_right g b x (page_line page (suc x))) 51 (suc x) >> ask_lines g b page m (suc x)

-- The page, for a sheet of this graph: its head, then its lines one by one. The result is the block.
unfoldable pub ask_page : Graph → List ℕ → Asked Block
ask_page g page = do
  b ← ask_head g.n page
  ask_lines g b page (lines_of g.n b) 0
  passed b

-- The set of nodes in use that a line marks.
abbrev pub marked : Graph → List ℕ → ℕ → Nodes
marked g page x j = is_node g j && marks (page_line page (suc x)) j

-- The graph with the page's marks as those arrows, or as the labels. The nodes in use stay the same.
unfoldable pub typed : Graph → List ℕ → Block → Graph
typed g page (arrows a) = rejoin g a (λ i j. is_node g i && marked g page i j)
typed g page labels = relabel_all g (λ k i. ltb k label_count && marked g page k i)

-- Typing: 1 to 4 of the sheet, then the page.
unfoldable pub ask_type : (sheet page : List ℕ) → Asked Block
ask_type sheet page = do
  ask_sheet sheet
  ask_page (graph_of sheet) page

-- The sheet after the call.
unfoldable pub typed_sheet : (sheet page : List ℕ) → List ℕ
typed_sheet sheet page = after (ask_type sheet page) (λ b. store (typed (graph_of sheet) page b)) sheet

-- What the code found in a head.
abbrev pub head_asked : Option Shown → Asked Block
head_asked (Some shown) = passed (block_shown shown)
head_asked None = refused 51 0
