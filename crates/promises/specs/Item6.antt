-- Item 6 of document 02: closed platforms. Sheets and books are lists of bytes; `Bytes` says that each is below 256. proofs/Item6 proves it.
use Rattle.std.specs.Prelude.{◌≡◌, true, false, List, ◌⊎◌, ℕ, suc, ◌≤◌, ◌<◌, ltb, length, get_or}
use Rattle.answer.specs.Asked.{passed, refused}
use Rattle.logic.specs.Syntax.{Expr, node, arrow, rule, nominal, pair, node_in, pair_in, Edit}
use Rattle.logic.specs.Graph.{Graph, is_node, any_below}
use Rattle.logic.specs.Meaning.{value}
use Rattle.logic.specs.Steps.{run}
use Rattle.logic.specs.Carry.{carry}
use Rattle.logic.specs.Limits.{max_nodes}
use Rattle.logic.specs.Closing.{can_close_def}
use Rattle.seal.specs.Seal.{Form, seal_right_def}
use Rattle.sheet.specs.Sheet.{present, former, sheet_bytes, bit_in, store, blank, graph_of}
use Rattle.sheet.specs.Questions.{block_of, head_right_def, ask_block_def, ask_sheet, SoundIn, Sound}
use Rattle.store.specs.Converted.{converted}
use Rattle.apply.specs.Apply.{applied_sheet}
use Rattle.runs.specs.Enter.{enter_sheet}
use Rattle.bitset.specs.Words.{Bytes}
use Rattle.runs.specs.Run.{Keeps}
use Rattle.close_node.specs.Questions.{ask_node, ask_close, ask_open, closed_sheet, opened_sheet}
use Rattle.promises.specs.Events.{Event, EventsRight}

-- A node is closed when it is not in use.
abbrev pub Closed : Graph → ℕ → Type 0
Closed g i = g.in_use i ≡ false

-- Of a sheet's questions only 4 of block b is still to be asked.
pub record UpTo4 (sheet : List ℕ) (b : ℕ) : Type 0 where
  pub long : length sheet ≡ sheet_bytes
  pub before : (j : ℕ) → j < b → ask_block_def present (get_or sheet 2 0) (is_node (graph_of sheet)) j (block_of sheet j) ≡ passed tt
  pub check : seal_right_def present.sums (block_of sheet b) ≡ true
  pub head : head_right_def present b (block_of sheet b) ≡ true

pub record Item6 : Type 0 where
  -- "Block 0 bytes 400 to 407 now hold the nodes in use, in label form"
  pub in_use_at_400 : (sheet : List ℕ) (i : ℕ) → (graph_of sheet).in_use i ≡ bit_in sheet 400 i
  -- "they are part of the graph": two sound sheets of one graph are the same bytes
  pub part_of_the_graph : (s t : List ℕ) → Bytes s → Bytes t → Sound s → Sound t → graph_of s ≡ graph_of t → s ≡ t
  -- "and no step of an edit changes them": nor does any call that makes steps, whatever it answers
  pub steps_keep_them : (Z : Edit) (g : Graph) → (run Z g).in_use ≡ g.in_use
  pub apply_keeps_them : (sheet edit : List ℕ) → Bytes sheet → (graph_of (applied_sheet sheet edit)).in_use ≡ (graph_of sheet).in_use
  pub enter_keeps_them : (sheet book edit : List ℕ) (room : ℕ) → Bytes sheet → (graph_of (enter_sheet sheet book edit room)).in_use ≡ (graph_of sheet).in_use
  -- "Every node expression has only nodes in use as its value, 01 and 05 included"
  pub only_in_use : (sheet : List ℕ) → Bytes sheet → Sound sheet → (E : Expr node) (i : ℕ) → Closed (graph_of sheet) i → value (graph_of sheet) E i ≡ false
  -- "04 and 17 on a closed node are empty"
  pub nominal_empty : (g : Graph) (k : ℕ) → Closed g k → (i : ℕ) → value g (nominal k) i ≡ false
  pub pair_empty : (g : Graph) (k l : ℕ) → Closed g k ⊎ Closed g l → (i j : ℕ) → value g (pair k l) i j ≡ false
  -- "23 and 24 are false there"
  pub node_in_false : (sheet : List ℕ) → Bytes sheet → Sound sheet → (k : ℕ) (E : Expr node) → Closed (graph_of sheet) k → value (graph_of sheet) (node_in k E) ≡ false
  pub pair_in_false : (sheet : List ℕ) → Bytes sheet → Sound sheet → (k l : ℕ) (R : Expr arrow) → Closed (graph_of sheet) k ⊎ Closed (graph_of sheet) l → value (graph_of sheet) (pair_in k l R) ≡ false
  -- "Closed nodes have no labels and no arrows, else 4."
  pub no_label : (sheet : List ℕ) → Bytes sheet → Sound sheet → (i : ℕ) → Closed (graph_of sheet) i → (k : ℕ) → (graph_of sheet).labelled k i ≡ false
  pub no_arrow : (sheet : List ℕ) → Bytes sheet → Sound sheet → (i j : ℕ) → Closed (graph_of sheet) i ⊎ Closed (graph_of sheet) j → (a : ℕ) → (graph_of sheet).joined a i j ≡ false
  pub label_else_4 : (sheet : List ℕ) → UpTo4 sheet 0 → (k i : ℕ) → Closed (graph_of sheet) i → (graph_of sheet).labelled k i ≡ true → ask_sheet sheet ≡ refused 4 0
  pub arrow_else_4 : (sheet : List ℕ) (a : ℕ) → UpTo4 sheet (suc a) → (i j : ℕ) → Closed (graph_of sheet) i ⊎ Closed (graph_of sheet) j → (graph_of sheet).joined a i j ≡ true → ask_sheet sheet ≡ refused 4 (suc a)
  -- "A blank sheet has all n in use"
  pub blank_in_use : (n i : ℕ) → 1 ≤ n → n ≤ max_nodes → (graph_of (store (blank n))).in_use i ≡ ltb i n
  -- "Stored sheets get bits 0 to n minus 1 from the converter", from cards of either form
  pub converted_in_use : (f : Form) (card : List ℕ) → Bytes card → SoundIn (former f) card → (i : ℕ) → (graph_of (converted f card)).in_use i ≡ ltb i (graph_of (converted f card)).n
  -- "called with a run's sheet and book, each, when done, ends that run, and its sheet opens the next under that book; so that the book is kept
  -- through all of them"
  pub histories : (book sheet : List ℕ) (events : List Event) → Bytes sheet → Keeps book sheet → EventsRight book sheet events
  -- "Carrying back is unchanged and still exact for a sheet with any set of nodes in use."
  pub still_exact : (Z : Edit) (K : Expr rule) (g : Graph) → value g (carry Z K) ≡ value (run Z g) K
  -- "Closing a closed node or opening an open one is done unjudged and changes nothing", once sheet, book and range have passed
  pub close_closed : (sheet book : List ℕ) (i : ℕ) (rules : List (Expr rule)) → Bytes sheet → ask_node sheet book i ≡ passed rules → Closed (graph_of sheet) i
      → (ask_close sheet book i ≡ passed tt) × (closed_sheet sheet book i ≡ sheet)
  pub open_open : (sheet book : List ℕ) (i : ℕ) (rules : List (Expr rule)) → Bytes sheet → ask_node sheet book i ≡ passed rules → (graph_of sheet).in_use i ≡ true
      → (ask_open sheet book i ≡ passed tt) × (opened_sheet sheet book i ≡ sheet)
  -- "3 also when no node below n is in use, whatever the bits above"
  pub none_in_use_3 : (sheet : List ℕ) → length sheet ≡ sheet_bytes → seal_right_def present.sums (block_of sheet 0) ≡ true → any_below (graph_of sheet).n (graph_of sheet).in_use ≡ false
      → ask_sheet sheet ≡ refused 3 0
  -- "54 when the node to be closed has a label or an arrow or is the only one in use, place the node", whatever the rules say
  pub close_54 : (sheet book : List ℕ) (i : ℕ) (rules : List (Expr rule)) → ask_node sheet book i ≡ passed rules → (graph_of sheet).in_use i ≡ true → can_close_def (graph_of sheet) i ≡ false
      → (ask_close sheet book i ≡ refused 54 i) × (closed_sheet sheet book i ≡ sheet)
