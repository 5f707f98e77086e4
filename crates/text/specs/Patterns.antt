-- The codes as a table of patterns, one number for each code, and how the code's turns follow the formats of a reading.
use Rattle.std.specs.Prelude.{Bool, true, ◌&&◌, cond, List, [], ◌∷◌, ℕ, suc, ◌+◌, ◌-◌, ◌/◌, ◌%◌, leb, ltb, eqb, length, get_or, drop, Result, Ok, Err}
use Rattle.answer.specs.Asked.{Asked, refused}
use Rattle.logic.specs.Syntax.{node, arrow, rule}
use Rattle.logic.specs.Limits.{Kind, label_number, arrow_number, node_number, least_count, most_count, Ranges, fits}
use Rattle.text.specs.declared.Limits as declared
use Rattle.text.specs.declared.Stop.{Stop}
use Rattle.text.specs.declared.Stop.TheVariants.{Missing, WrongSort, TooDeep, OutOfRange}
use Rattle.text.specs.Questions.{fault_number}
use Rattle.text.specs.Reading.{Limits, Want, expr, edit, Format, done, number, operand, Fault, missing, wrong_sort, too_deep, out_of_range, Read, got, fault, follow}

-- What can follow a code: nothing, which ends its pattern; a number of a kind; a thing one level deeper; a thing at the code's own level,
-- which also ends its pattern.
pub data Item : Type 0 where
  nothing : Item
  takes : Kind → Item
  deeper : Want → Item
  here : Want → Item

-- The items, by their digit.
unfoldable pub items : List Item
items =
    nothing ∷ nothing ∷ nothing
    ∷ takes label_number ∷ takes arrow_number ∷ takes node_number ∷ takes least_count ∷ takes most_count
    ∷ deeper (expr node) ∷ deeper (expr arrow) ∷ deeper (expr rule) ∷ deeper edit
    ∷ here (expr node) ∷ here (expr arrow) ∷ here (expr rule) ∷ here edit
    ∷ []

unfoldable pub item_of : ℕ → Item
item_of x = get_or items x nothing

-- The pattern of each code: its items as hexadecimal digits, the first item in the last digit.
unfoldable pub node_patterns : List ℕ
node_patterns =
    0x0000 ∷  -- 01 all
    0x0000 ∷  -- 02 none
    0x0003 ∷  -- 03 k
    0x0005 ∷  -- 04 i
    0x0008 ∷  -- 05 E
    0x0088 ∷  -- 06 E F
    0x0088 ∷  -- 07 E F
    0x0089 ∷  -- 08 R E
    0x0089 ∷  -- 09 R E
    0x0896 ∷  -- 0A m R E
    0x0897 ∷  -- 0B m R E
    []

unfoldable pub arrow_patterns : List ℕ
arrow_patterns =
    0x0004 ∷  -- 11 a
    0x0009 ∷  -- 12 R
    0x0099 ∷  -- 13 R S
    0x0099 ∷  -- 14 R S
    0x0099 ∷  -- 15 R S
    0x0089 ∷  -- 16 R E
    0x0055 ∷  -- 17 i j
    []

unfoldable pub rule_patterns : List ℕ
rule_patterns =
    0x0088 ∷  -- 21 E F
    0x0099 ∷  -- 22 R S
    0x0085 ∷  -- 23 i E
    0x0955 ∷  -- 24 i j R
    0x00AA ∷  -- 25 K L
    0x00AA ∷  -- 26 K L
    0x000A ∷  -- 27 K
    []

unfoldable pub edit_patterns : List ℕ
edit_patterns =
    0x0000 ∷  -- 30 end
    0x0F83 ∷  -- 31 k E Z
    0x0F83 ∷  -- 32 k E Z
    0x0F94 ∷  -- 33 a R Z
    0x0F94 ∷  -- 34 a R Z
    0xFBBA ∷  -- 35 K P Q Z
    []

-- The sort of a code byte.
pub data CodeSort : Type 0 where
  nodes arrows rules edits no_code_def : CodeSort

unfoldable pub code_sort : ℕ → CodeSort
code_sort c =
    cond (leb 0x01 c && leb c 0x0B) nodes
    (cond (leb 0x11 c && leb c 0x17) arrows
    (cond (leb 0x21 c && leb c 0x27) rules
    (cond (leb 0x30 c && leb c 0x35) edits no_code_def)))

-- The pattern of a code of a sort; the sort as the digit of an item at the code's own level. Both are 0 if the byte is not a code.
unfoldable pub pattern_in : CodeSort → ℕ → ℕ
pattern_in nodes c = get_or node_patterns (c - 0x01) 0
pattern_in arrows c = get_or arrow_patterns (c - 0x11) 0
pattern_in rules c = get_or rule_patterns (c - 0x21) 0
pattern_in edits c = get_or edit_patterns (c - 0x30) 0
pattern_in no_code_def c = 0

unfoldable pub sort_digit : CodeSort → ℕ
sort_digit nodes = 0xC
sort_digit arrows = 0xD
sort_digit rules = 0xE
sort_digit edits = 0xF
sort_digit no_code_def = 0

abbrev pub pattern_of_def : ℕ → ℕ
pattern_of_def c = pattern_in (code_sort c) c

abbrev pub sort_of_def : ℕ → ℕ
sort_of_def c = sort_digit (code_sort c)

-- Nothing more is wanted.
abbrev pub finished : Format (Unit {0})
finished = done tt

-- What an item, and a pattern of at most four items, want from the bytes that follow a code at level d.
unfoldable pub item_format : Item → ℕ → Format (Unit {0}) → Format (Unit {0})
item_format nothing d rest = finished
item_format (takes k) d rest = number k (λ x. rest)
item_format (deeper w) d rest = operand w (suc d) (λ e. rest)
item_format (here w) d rest = operand w d (λ e. finished)

unfoldable pub pattern_format : (pattern d : ℕ) → Format (Unit {0})
pattern_format pattern d = item_format (item_of (pattern % 16)) d (item_format (item_of (pattern / 16 % 16)) d (item_format (item_of (pattern / 256 % 16)) d (item_format (item_of (pattern / 4096 % 16)) d finished)))

-- The limits of a reading, from the code's.
abbrev pub limits_of : declared.Limits → Limits
limits_of x = record { longest = x.longest; deepest = x.deepest; numbers = record { nodes = x.nodes; least_from = x.from; least_to = x.to; most_to = x.most } }

-- Whether a number is in the range that an item gives it.
unfoldable pub number_fits : Ranges → Item → ℕ → Bool
number_fits r nothing x = true
number_fits r (takes k) x = fits r k x
number_fits r (deeper w) x = true
number_fits r (here w) x = true

-- The code's view of a reading: the place where it goes on, or the fault and its place.
abbrev pub Turn : Type 0
Turn = Result ℕ Stop

unfoldable pub stop_of : Fault → ℕ → Stop
stop_of missing p = Missing p
stop_of wrong_sort p = WrongSort p
stop_of too_deep p = TooDeep p
stop_of out_of_range p = OutOfRange p

unfoldable pub turn_of : {A : Type 0} → Read A → Turn
turn_of (got a rest p) = Ok p
turn_of (fault why p) = Err (stop_of why p)

-- The answer when a reading stops: 12 to 15 for a book (base 10), 22 to 25 for an edit (base 20).
abbrev pub stop_answer : ℕ → Stop → Asked (Unit {0})
stop_answer base (Missing p) = refused (fault_number base missing) p
stop_answer base (WrongSort p) = refused (fault_number base wrong_sort) p
stop_answer base (TooDeep p) = refused (fault_number base too_deep) p
stop_answer base (OutOfRange p) = refused (fault_number base out_of_range) p

-- The turn that a format gives when followed from a place of a text.
unfoldable pub turn_at : {A : Type 0} → List ℕ → Limits → Format A → ℕ → Turn
turn_at text l format at = turn_of (follow l (drop at text) format at)

-- The questions at a code byte: is it there, is it of the sort wanted, is its level within the limit?
unfoldable pub head_at : List ℕ → (deepest sort d at : ℕ) → Turn
head_at text deepest sort d at =
    cond (ltb at (length text))
    (cond (eqb (sort_of_def (get_or text at 0)) sort) (cond (leb d deepest) (Ok (at + 1)) (Err (TooDeep at))) (Err (WrongSort at)))
    (Err (Missing at))
