-- The layout of tokens, token by token.
use Rattle.std.specs.Prelude.{◌≡◌, cond, List, [], ◌++◌, ℕ, ◌+◌, length}
use Rattle.names.specs.Token.{Token}
use Rattle.notation.specs.Layout.{Before, at_start, opened, other, is_mark_def, gap, after_token, brackets, ifs, lay}
use Rattle.lay_words.specs.declared.Laid as declared
use Rattle.lay_words.specs.declared.Before as declared_before
use Rattle.lay_words.specs.declared.Before.TheVariants.{Start, Opened, Other}

-- What comes before a token, as the layout has it.
unfoldable pub before_of : declared_before.Before → Before
before_of Start = at_start
before_of Opened = opened
before_of Other = other

-- The bytes before a token; those and the token.
abbrev pub lead : declared.Laid → Token → List ℕ
lead s t = cond (is_mark_def t) [] (gap (before_of s.before) s.brackets s.ifs t)

unfoldable pub piece : declared.Laid → Token → List ℕ
piece s t = lead s t ++ t

-- The layout of the tokens that follow.
abbrev pub laid_from : declared.Laid → List Token → List ℕ
laid_from s ts = lay (before_of s.before) s.brackets s.ifs ts

-- r is the state after the token t is laid out.
pub record After (s : declared.Laid) (t : Token) (r : declared.Laid) : Type 0 where
  pub size : r.size ≡ s.size + length (piece s t)
  pub before : before_of r.before ≡ after_token t
  pub brackets_are : r.brackets ≡ brackets s.brackets t
  pub ifs_are : r.ifs ≡ ifs s.brackets s.ifs t
