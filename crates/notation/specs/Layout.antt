-- The layout of tokens: a word outside brackets begins a line, indented by two blanks for each `if` around it; inside brackets a word has a blank before it,
-- except after `(`. The last line ends with a line feed too.
use Rattle.std.specs.Prelude.{Bool, ◌||◌, cond, List, [], ◌∷◌, ◌++◌, ℕ, zero, suc, ◌+◌, ◌*◌, ◌-◌, replicate}
use Rattle.names.specs.Token.{Token, ascii, same}
use Rattle.notation.specs.Grammar.{else_word, end_word}

-- What comes before a token: nothing, `(`, or another token.
pub data Before : Type 0 where
  at_start opened other : Before

unfoldable pub is_mark_def : Token → Bool
is_mark_def t = same t (ascii "(") || (same t (ascii ",") || same t (ascii ")"))

-- After a token: how many brackets, and how many `if`s, are open.
unfoldable pub brackets : ℕ → Token → ℕ
brackets b t = cond (same t (ascii "(")) (b + 1) (cond (same t (ascii ")")) (b - 1) b)

unfoldable pub ifs : (b i : ℕ) → Token → ℕ
ifs zero i t = cond (same t (ascii "if")) (i + 1) (cond (same t end_word) (i - 1) i)
ifs (suc b) i t = i

-- The blanks at the start of a word's line: `else` and `end` are aligned with their `if`.
unfoldable pub margin : ℕ → Token → List ℕ
margin i t = replicate (2 * cond (same t else_word || same t end_word) (i - 1) i) 0x20

-- The bytes before a word.
unfoldable pub gap : Before → (b i : ℕ) → Token → List ℕ
gap at_start b i t = []
gap opened zero i t = 0x0A ∷ margin i t
gap opened (suc b) i t = []
gap other zero i t = 0x0A ∷ margin i t
gap other (suc b) i t = 0x20 ∷ []

unfoldable pub after_token : Token → Before
after_token t = cond (same t (ascii "(")) opened other

unfoldable pub lay : Before → (b i : ℕ) → List Token → List ℕ
lay at_start b i [] = []
lay opened b i [] = 0x0A ∷ []
lay other b i [] = 0x0A ∷ []
lay p b i (t ∷ ts) = cond (is_mark_def t) [] (gap p b i t) ++ (t ++ lay (after_token t) (brackets b t) (ifs b i t) ts)

-- The text of tokens.
abbrev pub laid : List Token → List ℕ
laid ts = lay at_start 0 0 ts
