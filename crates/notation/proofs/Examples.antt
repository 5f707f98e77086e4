-- Worked examples, computed: a table, a book and an edit printed byte for byte, and texts that are read or refused.
use mathlib.Core.Path.{◌≡◌, refl}
use mathlib.Core.List.{List, [], ◌∷◌, ◌++◌}
use Prim.Native.Nat.{ℕ, zero, suc}
use Rattle.answer.specs.Asked.{Asked, passed, refused, ◌>>=◌, ◌>>◌, is}
use Rattle.decimal.specs.Digits.{digits}
use Rattle.names.specs.Token.{ascii, same, first_below}
use Rattle.names.specs.Scan.{class_of, scan, is_letter_def, letters, is_word_def}
use Rattle.names.specs.Names.{Entry, width, plain, given, given_or_plain, name_in, notation_words, among, begins_with, begins_plain_def, name_bytes, taken, free_name_def, unnamed, kind_of, ask_kind, ask_number, ask_entries, ask_names}
use Rattle.notation.specs.Grammar.{phrases, goals, bracketed, after_comma}
use Rattle.notation.specs.Spell.{phrase_of_def, bare, opens, spell}
use Rattle.notation.specs.Parse.{prefixed, number_of, phrase_for_def, by_name_def, bare_start, start, parse}
use Rattle.notation.specs.Layout.{is_mark_def, brackets, ifs, margin, gap, after_token, lay}
use Rattle.notation.specs.Words.{book_words, edit_words, ask_words, read_book, read_edit}

table : List ℕ
table = ascii "label 0 train # trains\nlabel 1 track arrow 0 stands-at\n\tnode 34 4711 node 2 08:15#slot"

abbrev entries_of : Asked (List Entry) → List Entry
entries_of (passed es) = es
entries_of (refused q p) = []

abbrev names : List Entry
names = entries_of (ask_names table)

book : List ℕ
book = 0x21 ∷ 0x03 ∷ 0 ∷ 0x08 ∷ 0x11 ∷ 0 ∷ 0x03 ∷ 1 ∷ 0x24 ∷ 34 ∷ 2 ∷ 0x15 ∷ 0x11 ∷ 0 ∷ 0x11 ∷ 2 ∷ []

edit : List ℕ
edit = 0x35 ∷ 0x23 ∷ 34 ∷ 0x0A ∷ 2 ∷ 0x11 ∷ 0 ∷ 0x01 ∷ 0x33 ∷ 0 ∷ 0x17 ∷ 34 ∷ 7 ∷ 0x30 ∷ 0x32 ∷ 3 ∷ 0x01 ∷ 0x30 ∷ 0x31 ∷ 1 ∷ 0x04 ∷ 2 ∷ 0x30 ∷ []

-- A text repeated a number of times.
unfoldable times : ℕ → List ℕ → List ℕ
times zero text = []
times (suc n) text = text ++ times n text

abbrev Tables : Type 0
Tables =
    (ask_names [] ≡ passed [])
    -- the first wrong token, from left to right
    × (ask_names (ascii "train 0") ≡ refused 63 0)
    × (ask_names (ascii "label 0") ≡ refused 63 7)
    × (ask_names (ascii "label 48 train") ≡ refused 63 6)
    × (ask_names (ascii "label 0 and") ≡ refused 63 8)
    × (ask_names (ascii "label 0 node:7") ≡ refused 63 8)
    × (ask_names (ascii "label 0 train label 0 track") ≡ refused 63 20)
    × (ask_names (ascii "label 0 train node 0 train") ≡ refused 63 21)

tables : Tables
unfolding ascii same first_below class_of scan is_letter_def letters is_word_def width digits given notation_words among begins_with begins_plain_def name_bytes taken free_name_def unnamed kind_of ask_kind ask_number ask_entries ask_names ◌>>=◌ ◌>>◌ is
tables = (refl, refl, refl, refl, refl, refl, refl, refl)

abbrev Prints : Type 0
Prints =
    (book_words (name_in names) book ≡ ascii "each(train, some(stands-at, track))\njoined(4711, 08:15, without(stands-at, arrow:2))\n")
    × (edit_words (name_in names) edit ≡ ascii "if(is(4711, at-least(2, stands-at, all)))\n  add(stands-at, pair(4711, node:7))\nelse\n  unmark(label:3, all)\nend\nmark(track, 08:15)\n")
    × (book_words (name_in names) [] ≡ [])
    × (edit_words (name_in names) (0x30 ∷ []) ≡ [])

prints : Prints
unfolding table book edit ascii same first_below class_of scan is_letter_def letters is_word_def width digits plain given given_or_plain name_in notation_words among begins_with begins_plain_def name_bytes taken free_name_def unnamed kind_of ask_kind ask_number ask_entries ask_names phrases goals bracketed after_comma phrase_of_def bare opens spell is_mark_def brackets ifs margin gap after_token lay ◌>>=◌ ◌>>◌ is
prints = (refl, refl, refl, refl)

abbrev Reads : Type 0
Reads =
    -- any layout, and comments
    (read_book (name_in names) (ascii "# a\n each ( train ,some(stands-at,track) ) joined(4711,08:15,without(stands-at,arrow:2))# b") ≡ passed book)
    × (read_edit (name_in names) (ascii "if(is(4711,at-least(2,stands-at,all)))add(stands-at,pair(4711,node:7))else unmark(label:3,all)end mark(track,08:15)") ≡ passed edit)
    -- an `end` is missing; a name of another sort; a number with a name cannot be written otherwise; an `end` too many
    × (read_edit (name_in names) (ascii "if(is(4711, all)) else mark(track, all)") ≡ refused 64 39)
    × (read_book (name_in names) (ascii "each(train, some(track, all))") ≡ refused 65 17)
    × (read_book (name_in names) (ascii "each(label:0, all)") ≡ refused 65 5)
    × (read_edit (name_in names) (ascii "mark(train, all) end") ≡ refused 65 17)
    -- no comma; a count out of range; a label where an arrow is wanted
    × (read_book (name_in names) (ascii "joined(4711 08:15") ≡ refused 66 12)
    × (read_book (name_in names) (ascii "each(at-least(0, stands-at, all), all)") ≡ refused 67 14)
    × (read_edit (name_in names) (ascii "add(train, stands-at)") ≡ refused 67 4)
    -- level 33; the 33rd rule
    × (read_book (name_in names) (ascii "each(" ++ (times 31 (ascii "not(") ++ ascii "all")) ≡ refused 68 129)
    × (read_book (name_in names) (times 33 (ascii "each(all,all)")) ≡ refused 69 416)

reads : Reads
unfolding table book edit ascii same first_below class_of scan is_letter_def letters is_word_def width digits plain given given_or_plain name_in notation_words among begins_with begins_plain_def name_bytes taken free_name_def unnamed kind_of ask_kind ask_number ask_entries ask_names phrases goals bracketed after_comma prefixed number_of phrase_for_def by_name_def bare_start start parse ask_words times ◌>>=◌ ◌>>◌ is
reads = (refl, refl, refl, refl, refl, refl, refl, refl, refl, refl, refl)
