-- Tokens added to a text that is being laid out.
use Rattle.std.specs.Prelude.{◌≡◌, List, ◌++◌, ℕ, ◌+◌, ◌*◌, ◌^◌, ◌≤◌, ◌<◌, length}
use Rattle.names.specs.Token.{Token}
use Rattle.names.specs.Names.{longest_name}
use Rattle.buffers.specs.Filled.{filled_from}
use Rattle.lay_words.specs.Laying.{laid_from}
use Rattle.lay_words.specs.declared.Laid.{Laid}

-- One more token does not overflow the state's numbers.
pub record Room (s : Laid) : Type 0 where
  pub sizes : s.size + 2 * s.ifs + 2 + longest_name < 2 ^ 64
  pub brackets : s.brackets + 1 < 2 ^ 64
  pub ifs : s.ifs + 1 < 2 ^ 64

-- At most one token is added to the text, and its bytes to the buffer that holds the text.
pub record Added (s : Laid) (ts : List Token) (r : Laid) (buffer after : List ℕ) : Type 0 where
  pub bytes : List ℕ
  pub lays : (us : List Token) → laid_from s (ts ++ us) ≡ bytes ++ laid_from r us
  pub size : r.size ≡ s.size + length bytes
  pub written : after ≡ filled_from s.size bytes buffer
  pub short : length bytes ≤ 2 * s.ifs + 1 + longest_name
  pub brackets_most : r.brackets ≤ s.brackets + 1
  pub ifs_most : r.ifs ≤ s.ifs + 1
