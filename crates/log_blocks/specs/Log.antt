-- A log of edits (document 02, item 4): its blocks of 512 bytes, the questions about each, and the edits that they hold.
use Rattle.std.specs.Prelude.{Bool, true, ◌&&◌, ◌||◌, not, cond, List, [], ◌∷◌, ◌++◌, ℕ, zero, suc, ◌+◌, ◌-◌, ◌*◌, eqb, leb, ltb, length, get_or, take, drop}
use Rattle.answer.specs.Asked.{Asked, passed, refused, ◌>>◌, is}
use Rattle.logic.specs.Graph.{implies}
use Rattle.seal.specs.Seal.{block_bytes, modulo257, seal_right_def}

-- A block's fields fill its first four bytes; edit bytes and zeros fill the rest of its body, bytes 4 to 507. Item 2's sums follow.
abbrev pub field_bytes : ℕ
field_bytes = 4

abbrev pub content_bytes : ℕ
content_bytes = modulo257.body_bytes - field_bytes

-- Byte 1 is 1 in an edit's first block, 2 in its last, 3 where one block is both, else 0. An edit is begun after its first block.
unfoldable pub is_last : List ℕ → Bool
is_last k = eqb (get_or k 1 0) 2 || eqb (get_or k 1 0) 3

unfoldable pub mark_right_def : (begun : Bool) → ℕ → Bool
mark_right_def begun mark = cond begun (eqb mark 0 || eqb mark 2) (eqb mark 1 || eqb mark 3)

-- Bytes 2 and 3 count its edit bytes, little-endian, 1 to 504; only an edit's last block may hold fewer than 504.
unfoldable pub count : List ℕ → ℕ
count k = get_or k 2 0 + 256 * get_or k 3 0

unfoldable pub count_right_def : (last : Bool) → ℕ → Bool
count_right_def last c = leb 1 c && (leb c content_bytes && (eqb c content_bytes || last))

-- Bytes 4 to 507 hold them, then zeros.
unfoldable pub content : List ℕ → List ℕ
content k = take (count k) (drop field_bytes k)

unfoldable pub all_zero : List ℕ → Bool
all_zero [] = true
all_zero (b ∷ bs) = eqb b 0 && all_zero bs

unfoldable pub zeros_behind : List ℕ → Bool
zeros_behind k = all_zero (drop (field_bytes + count k) (take modulo257.body_bytes k))

-- A block's fields are right: byte 0 is 3, and byte 1, the count and the zeros are right.
unfoldable pub fields_right_def : (begun : Bool) → List ℕ → Bool
fields_right_def begun k = eqb (get_or k 0 0) 3 && (mark_right_def begun (get_or k 1 0) && (count_right_def (is_last k) (count k) && zeros_behind k))

-- The largest number of a block. Blocks are numbered from 0.
abbrev pub last_number : ℕ
last_number = 65534

-- A block that is not cut short.
abbrev pub is_whole : List ℕ → Bool
is_whole k = eqb (length k) block_bytes

-- 52 when a whole block's sums are wrong; 53 when its fields are, when its number passes 65,534, when it is cut short.
unfoldable pub ask_log_block : (begun : Bool) (number : ℕ) → List ℕ → Asked (Unit {0})
ask_log_block begun number k = do
  is (implies (is_whole k) (seal_right_def modulo257 k)) 52 number
  is (is_whole k && (leb number last_number && fields_right_def begun k)) 53 number

-- 53 when the log ends inside an edit, place then the count of blocks.
unfoldable pub ask_log_end : (begun : Bool) (blocks : ℕ) → Asked (Unit {0})
ask_log_end begun blocks = is (not begun) 53 blocks

-- The bytes gathered of an edit are those in its blocks so far: none when no edit is begun, since each block holds at least one.
abbrev pub is_begun : List ℕ → Bool
is_begun gathered = ltb 0 (length gathered)

-- The edits of a log up to its first bad block, an unfinished one left out; and its end, or the number and place of that block.
pub record Recorded : Type 0 where
  pub edits : List (List ℕ)
  pub ending : Asked (Unit {0})

abbrev pub ends : Asked (Unit {0}) → Recorded
ends q = record { edits = []; ending = q }

abbrev pub follows : List ℕ → Recorded → Recorded
follows edit r = record { edits = edit ∷ r.edits; ending = r.ending }

-- After a bad block nothing is read.
unfoldable pub unless_bad : Asked (Unit {0}) → Recorded → Recorded
unless_bad (passed u) r = r
unless_bad (refused q p) r = ends (refused q p)

-- Blocks of which the first has this number, after blocks that left these bytes gathered.
unfoldable pub recorded : (number : ℕ) (gathered : List ℕ) → List (List ℕ) → Recorded
recorded number gathered [] = ends (ask_log_end (is_begun gathered) number)
recorded number gathered (k ∷ ks) =
    unless_bad (ask_log_block (is_begun gathered) number k)
    (cond (is_last k) (follows (gathered ++ content k) (recorded (suc number) [] ks)) (recorded (suc number) (gathered ++ content k) ks))

-- The blocks of a log's bytes; the last may be cut short. There are no more blocks than bytes.
unfoldable pub cut : (most : ℕ) → List ℕ → List (List ℕ)
cut zero bytes = []
cut (suc most) [] = []
cut (suc most) (b ∷ bytes) = take block_bytes (b ∷ bytes) ∷ cut most (drop block_bytes (b ∷ bytes))

unfoldable pub blocks_of : List ℕ → List (List ℕ)
blocks_of log = cut (length log) log

-- The edits of a log, and how it ends.
abbrev pub read_log : List ℕ → Recorded
read_log log = recorded 0 [] (blocks_of log)
