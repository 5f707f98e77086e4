-- The notation: which words stand for which codes. The position tells the sort, so sorts share words. Operands are in the order of the codes.
use Rattle.std.specs.Prelude.{List, [], ◌∷◌, ◌++◌, ℕ, suc}
use Prim.Native.String.{String}
use Rattle.logic.specs.Syntax.{Sort, node, arrow, rule}
use Rattle.logic.specs.Limits.{Kind, label_number, arrow_number, node_number, least_count, most_count}
use Rattle.names.specs.Token.{Token, ascii}

-- Where the steps of an edit end: at `else`, at `end`, or with the text. Each of these ends is a 30.
pub data Closing : Type 0 where
  at_else at_end text_end : Closing

-- What can be wanted: an expression of a sort; steps up to their end.
pub data Slot : Type 0 where
  expr : Sort → Slot
  steps : Closing → Slot

-- What follows a word: a mark; a number, written as a name or a count; a thing one level deeper; the steps after a step, at its level.
pub data Item : Type 0 where
  mark : Token → Item
  number : Kind → Item
  deeper : Slot → Item
  more : Item

-- A phrase: its code, its word, and what follows the word.
pub record Phrase : Type 0 where
  pub byte : ℕ
  pub word : Token
  pub items : List Item

-- Operands in brackets, separated by commas.
unfoldable pub after_comma : List Item → List Item
after_comma [] = mark (ascii ")") ∷ []
after_comma (x ∷ xs) = mark (ascii ",") ∷ x ∷ after_comma xs

unfoldable pub bracketed : List Item → List Item
bracketed [] = []
bracketed (x ∷ xs) = mark (ascii "(") ∷ x ∷ after_comma xs

abbrev pub phrase : ℕ → String → List Item → Phrase
phrase c word operands = record { byte = c; word = ascii word; items = bracketed operands }

-- A step: its operands, its branches, and the steps after it.
abbrev pub step : ℕ → String → (operands branches : List Item) → Phrase
step c word operands branches = record { byte = c; word = ascii word; items = bracketed operands ++ (branches ++ more ∷ []) }

abbrev E : Item
E = deeper (expr node)

abbrev R : Item
R = deeper (expr arrow)

abbrev K : Item
K = deeper (expr rule)

abbrev label_name : Item
label_name = number label_number

abbrev arrow_name : Item
arrow_name = number arrow_number

abbrev node_name : Item
node_name = number node_number

abbrev pub else_word : Token
else_word = ascii "else"

abbrev pub end_word : Token
end_word = ascii "end"

-- THE NOTATION. 03, 04 and 11 are just a name; 30 is the end of steps.
unfoldable pub phrases : Slot → List Phrase
phrases (expr node) =
    phrase 0x01 "all" []
    ∷ phrase 0x02 "none" []
    ∷ phrase 0x05 "not" (E ∷ [])
    ∷ phrase 0x06 "and" (E ∷ E ∷ [])
    ∷ phrase 0x07 "or" (E ∷ E ∷ [])
    ∷ phrase 0x08 "some" (R ∷ E ∷ [])
    ∷ phrase 0x09 "every" (R ∷ E ∷ [])
    ∷ phrase 0x0A "at-least" (number least_count ∷ R ∷ E ∷ [])
    ∷ phrase 0x0B "at-most" (number most_count ∷ R ∷ E ∷ [])
    ∷ []
phrases (expr arrow) =
    phrase 0x12 "reversed" (R ∷ [])
    ∷ phrase 0x13 "or" (R ∷ R ∷ [])
    ∷ phrase 0x14 "and" (R ∷ R ∷ [])
    ∷ phrase 0x15 "without" (R ∷ R ∷ [])
    ∷ phrase 0x16 "to" (R ∷ E ∷ [])
    ∷ phrase 0x17 "pair" (node_name ∷ node_name ∷ [])
    ∷ []
phrases (expr rule) =
    phrase 0x21 "each" (E ∷ E ∷ [])
    ∷ phrase 0x22 "each-arrow" (R ∷ R ∷ [])
    ∷ phrase 0x23 "is" (node_name ∷ E ∷ [])
    ∷ phrase 0x24 "joined" (node_name ∷ node_name ∷ R ∷ [])
    ∷ phrase 0x25 "and" (K ∷ K ∷ [])
    ∷ phrase 0x26 "or" (K ∷ K ∷ [])
    ∷ phrase 0x27 "not" (K ∷ [])
    ∷ []
phrases (steps c) =
    step 0x31 "mark" (label_name ∷ E ∷ []) []
    ∷ step 0x32 "unmark" (label_name ∷ E ∷ []) []
    ∷ step 0x33 "add" (arrow_name ∷ R ∷ []) []
    ∷ step 0x34 "take" (arrow_name ∷ R ∷ []) []
    ∷ step 0x35 "if" (K ∷ []) (deeper (steps at_else) ∷ deeper (steps at_end) ∷ [])
    ∷ []

-- What the next tokens must be: a mark, a number, a thing at a level.
pub data Goal : Type 0 where
  mark : Token → Goal
  number : Kind → Goal
  thing : Slot → (level : ℕ) → Goal

-- The goals of a phrase's items, for a phrase in a slot at a level.
unfoldable pub goals : Slot → ℕ → List Item → List Goal
goals s d [] = []
goals s d (mark t ∷ is) = mark t ∷ goals s d is
goals s d (number k ∷ is) = number k ∷ goals s d is
goals s d (deeper w ∷ is) = thing w (suc d) ∷ goals s d is
goals s d (more ∷ is) = thing s d ∷ goals s d is
