-- Closing and then opening a node gives the sheet back, byte for byte, when both are done; so does opening and then closing it. proofs/Back proves it.
use Rattle.std.specs.Prelude.{◌≡◌, true, false, List, ℕ}
use Rattle.bitset.specs.Words.{Bytes}
use Rattle.answer.specs.Asked.{passed}
use Rattle.sheet.specs.Sheet.{graph_of}
use Rattle.close_node.specs.Questions.{ask_close, ask_open, closed_sheet, opened_sheet}

pub record GivesBack : Type 0 where
  pub closed_opened : (sheet book book' : List ℕ) (node : ℕ) → Bytes sheet → (graph_of sheet).in_use node ≡ true
      → ask_close sheet book node ≡ passed tt → ask_open (closed_sheet sheet book node) book' node ≡ passed tt
      → opened_sheet (closed_sheet sheet book node) book' node ≡ sheet
  pub opened_closed : (sheet book book' : List ℕ) (node : ℕ) → Bytes sheet → (graph_of sheet).in_use node ≡ false
      → ask_open sheet book node ≡ passed tt → ask_close (opened_sheet sheet book node) book' node ≡ passed tt
      → closed_sheet (opened_sheet sheet book node) book' node ≡ sheet
