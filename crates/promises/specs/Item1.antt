-- Item 1 of document 02: the squared sheet on paper. proofs/Item1 proves it.
use Rattle.std.specs.Prelude.{◌≢◌, ◌≡◌, List, ℕ, suc, ◌<◌}
use Rattle.answer.specs.Asked.{passed}
use Rattle.sheet.specs.Sheet.{block_count, graph_of}
use Rattle.sheet.specs.Questions.{block_of, Sound}
use Rattle.pages.specs.Print.{ask_print_arrow, ask_print_labels}
use Rattle.pages.specs.Typed.{Block, arrows, labels, ask_type, typed_sheet}
use Rattle.pages.specs.Prints.{Alike}
use Rattle.bitset.specs.Words.{Bytes}

-- Two sheets with the same n and nodes in use: one from which a page is printed, and a sound one into which it is typed.
pub record TwoSheets (first second : List ℕ) : Type 0 where
  pub first_bytes : Bytes first
  pub second_bytes : Bytes second
  pub sound : Sound second
  pub alike : Alike (graph_of second) (graph_of first)

-- The page is accepted as that of the block with this number, which becomes the block of the first sheet, byte for byte; every other block is as it was.
pub record BecomesBlock (first second page : List ℕ) (b : Block) (number : ℕ) : Type 0 where
  pub accepted : ask_type second page ≡ passed b
  pub sound : Sound (typed_sheet second page)
  pub becomes : block_of (typed_sheet second page) number ≡ block_of first number
  pub others : (c : ℕ) → c < block_count → c ≢ number → block_of (typed_sheet second page) c ≡ block_of second c

pub record Item1 : Type 0 where
  -- "A page typed back into a sheet of that n becomes that block, and every page printed reads to the block it came from": the page that printing one
  -- sheet gives, typed into another, of an arrow kind
  pub arrow_page : (first second page : List ℕ) (a room : ℕ) → TwoSheets first second → ask_print_arrow first a room ≡ passed page → BecomesBlock first second page (arrows a) (suc a)
  -- and of the labels.
  pub label_page : (first second page : List ℕ) (room : ℕ) → TwoSheets first second → ask_print_labels first room ≡ passed page → BecomesBlock first second page labels 0
