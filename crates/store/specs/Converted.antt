-- Old cards converted to current sheets (items 2 and 6 of document 02): cards with the sums of a given form and without the nodes in use.
use Rattle.std.specs.Prelude.{List, ℕ}
use Rattle.answer.specs.Asked.{Asked, after}
use Rattle.seal.specs.Seal.{Form}
use Rattle.sheet.specs.Sheet.{former, store, graph_in}
use Rattle.sheet.specs.Questions.{ask_sheet_in}

-- Questions 1 to 4 of the old form.
abbrev pub ask_convert : Form → List ℕ → Asked (Unit {0})
ask_convert f card = ask_sheet_in (former f) card

-- The card after the call: the current sheet of the same graph, with all n nodes in use, or unchanged.
unfoldable pub converted : Form → List ℕ → List ℕ
converted f card = after (ask_convert f card) (λ u. store (graph_in (former f) card)) card
