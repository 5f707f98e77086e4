-- What the program `replay` prints for a whole input (document 02, item 4).
use Rattle.std.specs.Prelude.{cond, List, [], ◌∷◌, ◌++◌, ℕ, ◌+◌, ◌*◌, leb, length, get_or, take, drop}
use Rattle.answer.specs.Asked.{Asked, passed, refused}
use Rattle.sheet.specs.Sheet.{sheet_bytes}
use Rattle.printed.specs.AnswerLine.{answer_line, early_line}
use Rattle.printed.specs.Printed.{printed_line, printed_sheet}
use Rattle.log_blocks.specs.Log.{read_log}

-- For each edit the line that `enter` would print on the sheet then held.
unfoldable pub edit_lines : (sheet book : List ℕ) → List (List ℕ) → List ℕ
edit_lines sheet book [] = []
edit_lines sheet book (edit ∷ edits) = printed_line sheet book edit ++ edit_lines (printed_sheet sheet book edit) book edits

-- The sheet held after them.
unfoldable pub sheet_held : (sheet book : List ℕ) → List (List ℕ) → List ℕ
sheet_held sheet book [] = sheet
sheet_held sheet book (edit ∷ edits) = sheet_held (printed_sheet sheet book edit) book edits

-- It stops with such a line at the first bad block.
unfoldable pub stop_line : Asked (Unit {0}) → List ℕ
stop_line (passed u) = []
stop_line (refused q p) = answer_line q p

-- The lines of a log replayed on a sheet under a book, and the sheet that it ends in.
unfoldable pub replay_lines : (sheet book log : List ℕ) → List ℕ
replay_lines sheet book log = edit_lines sheet book (read_log log).edits ++ stop_line (read_log log).ending

unfoldable pub replay_sheet : (sheet book log : List ℕ) → List ℕ
replay_sheet sheet book log = sheet_held sheet book (read_log log).edits

-- The input: a sheet, the book's length in two bytes, little-endian, the book, the log.
abbrev pub book_start : ℕ
book_start = sheet_bytes + 2

abbrev pub book_length : List ℕ → ℕ
book_length input = get_or input sheet_bytes 0 + 256 * get_or input (sheet_bytes + 1) 0

abbrev pub log_start : List ℕ → ℕ
log_start input = book_start + book_length input

abbrev pub sheet_in : List ℕ → List ℕ
sheet_in input = take sheet_bytes input

abbrev pub book_in : List ℕ → List ℕ
book_in input = take (book_length input) (drop book_start input)

abbrev pub log_in : List ℕ → List ℕ
log_in input = drop (log_start input) input

-- All that is printed: the lines, and last the sheet. Where the input ends before the log, only a line that says so.
unfoldable pub replayed : List ℕ → List ℕ
replayed input =
    cond (leb (log_start input) (length input))
    (replay_lines (sheet_in input) (book_in input) (log_in input) ++ replay_sheet (sheet_in input) (book_in input) (log_in input))
    early_line
