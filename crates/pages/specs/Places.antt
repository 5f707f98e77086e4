-- What the place of 51 says about a page.
use Rattle.std.specs.Prelude.{◌≡◌, List, ℕ, suc, ◌<◌, length}
use Rattle.answer.specs.Asked.{passed}
use Rattle.logic.specs.Graph.{Graph}
use Rattle.logic.specs.Limits.{Within}
use Rattle.pages.specs.Typed.{page_line, Block, lines_of, ask_head}
use Rattle.pages.specs.Prints.{page_of, HasBlock, Alike, IsLine}

-- No graph within the limits that is like this one has a page of this length with this head.
abbrev pub NoHead : Graph → List ℕ → Type 0
NoHead g page = (h : Graph) → Within h → Alike g h → (b : Block) → HasBlock b → length page ≡ length (page_of h b) → page_line page 0 ≡ page_line (page_of h b) 0 → ⊥

-- The page has the head of block b, and its line of number x is the first that no such graph has there.
pub record FirstWrong (g : Graph) (page : List ℕ) (b : Block) (x : ℕ) : Type 0 where
  pub head : ask_head g.n page ≡ passed b
  pub there : x < lines_of g.n b
  pub before : (y : ℕ) → y < x → IsLine g b y (page_line page (suc y))
  pub wrong : IsLine g b x (page_line page (suc x)) → ⊥

-- The place: 0 for the length or the head; else the line, from 0. The line of number x is line x + 1.
pub data Place (g : Graph) (page : List ℕ) (p : ℕ) : Type 0 where
  at_head : p ≡ 0 → NoHead g page → Place g page p
  at_line : (b : Block) (x : ℕ) → p ≡ suc x → FirstWrong g page b x → Place g page p
