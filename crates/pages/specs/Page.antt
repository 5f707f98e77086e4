-- The squared sheet on paper (items 1 and 6 of document 02): pages of lines of 64 bytes, line feed included. Bytes are ASCII: 20 blank, 0A line feed,
-- 23 #, 2E ., 41 A, 4C L.
use Rattle.std.specs.Prelude.{cond, List, [], ◌∷◌, ◌++◌, ℕ, ◌+◌, ltb, replicate}
use Rattle.logic.specs.Graph.{Graph, Nodes}
use Rattle.logic.specs.Limits.{max_nodes, label_count}
use Rattle.decimal.specs.Digits.{digits}
use Rattle.sheet.specs.Sheet.{chunks, line_of}

abbrev pub line_bytes : ℕ
line_bytes = 64

-- The first line: a letter, two digits, 60 blanks.
unfoldable pub head_line : (letter x : ℕ) → List ℕ
head_line letter x = letter ∷ digits 2 x ++ replicate max_nodes 0x20 ++ (0x0A ∷ [])

-- A square on a sheet of n: # if the set contains the column's node, . if not, blank for columns n and above.
unfoldable pub square : (n : ℕ) → Nodes → ℕ → ℕ
square n v j = cond (ltb j n) (cond (v j) 0x23 0x2E) 0x20

-- The 60 squares of a set, and the line feed.
unfoldable pub squares : (n : ℕ) → Nodes → List ℕ
squares n v = chunks max_nodes 0 (λ j. square n v j ∷ []) ++ (0x0A ∷ [])

-- A line: two digits, a blank, the squares.
unfoldable pub set_line : (n x : ℕ) → Nodes → List ℕ
set_line n x v = digits 2 x ++ (0x20 ∷ squares n v)

-- The page of an arrow kind: A, two digits of the kind; then one line for each node.
unfoldable pub row_lines : Graph → ℕ → List ℕ
row_lines g a = chunks g.n 0 (λ i. set_line g.n i (g.joined a i))

unfoldable pub arrow_page_def : Graph → ℕ → List ℕ
arrow_page_def g a = head_line 0x41 a ++ row_lines g a

-- The label page: L, two digits of n; then 48 lines, one for each label, and a last line, 48, for the nodes in use.
abbrev pub label_page_lines : ℕ
label_page_lines = label_count + 1

unfoldable pub label_lines : Graph → List ℕ
label_lines g = chunks label_page_lines 0 (λ k. set_line g.n k (line_of g k))

unfoldable pub label_page_def : Graph → List ℕ
label_page_def g = head_line 0x4C g.n ++ label_lines g
