-- Demand 1: every input gets its answer. That each call answers these questions, and leaves these bytes, is its contract; proofs/Demand1 proves the rest.
use Rattle.std.specs.Prelude.{◌≡◌, true, List, ℕ, length}
use Rattle.answer.specs.Asked.{refused}
use Rattle.sheet.specs.Questions.{ask_sheet, Sound, ask_label_bit, ask_arrow_bit}
use Rattle.sheet.specs.Noticed.{AsksSheetFirst}
use Rattle.node_sets.specs.NodeSets.{ask_nodes, ask_label_set, ask_row_set}
use Rattle.pages.specs.Print.{ask_print_arrow, ask_print_labels}
use Rattle.pages.specs.Typed.{ask_type}
use Rattle.join_sheets.specs.Joined.{ask_join}
use Rattle.judge.specs.Questions.{ask_judge}
use Rattle.witness.specs.Witnessed.{ask_witness}
use Rattle.apply.specs.Apply.{ask_apply, applied_sheet}
use Rattle.carry.specs.Carrying.{carry_answer, carry_output}
use Rattle.runs.specs.Enter.{enter_answer}
use Rattle.runs.specs.Leaves.{Leaves}
use Rattle.close_node.specs.Questions.{ask_close, ask_open}
use Rattle.plan_store.specs.Questions.{ask_keep, ask_return}
use Rattle.play.specs.Questions.{lists_right_def, ask_play}
use Rattle.promises.specs.Lines.{Lines}

-- "Sheet, then book, then edit, then scratch": each call that takes a sheet checks it first.
pub record SheetFirst : Type 0 where
  pub check : AsksSheetFirst ask_sheet
  pub label_bit : (k i : ℕ) → AsksSheetFirst (λ sheet. ask_label_bit sheet k i)
  pub arrow_bit : (a i j : ℕ) → AsksSheetFirst (λ sheet. ask_arrow_bit sheet a i j)
  pub nodes : AsksSheetFirst ask_nodes
  pub label_set : (k : ℕ) → AsksSheetFirst (λ sheet. ask_label_set sheet k)
  pub row_set : (a i : ℕ) → AsksSheetFirst (λ sheet. ask_row_set sheet a i)
  pub judge : (book : List ℕ) → AsksSheetFirst (λ sheet. ask_judge sheet book)
  pub witness : (text : List ℕ) → AsksSheetFirst (λ sheet. ask_witness sheet text)
  pub apply : (edit : List ℕ) → AsksSheetFirst (λ sheet. ask_apply sheet edit)
  pub enter : (book edit : List ℕ) (room : ℕ) → AsksSheetFirst (λ sheet. enter_answer sheet book edit room)
  pub print_arrow : (a room : ℕ) → AsksSheetFirst (λ sheet. ask_print_arrow sheet a room)
  pub print_labels : (room : ℕ) → AsksSheetFirst (λ sheet. ask_print_labels sheet room)
  pub type_page : (page : List ℕ) → AsksSheetFirst (λ sheet. ask_type sheet page)
  pub close_node : (book : List ℕ) (node : ℕ) → AsksSheetFirst (λ sheet. ask_close sheet book node)
  pub open_node : (book : List ℕ) (node : ℕ) → AsksSheetFirst (λ sheet. ask_open sheet book node)
  pub keep : (store : List ℕ) (name : ℕ) → AsksSheetFirst (λ sheet. ask_keep sheet store name)
  pub return : (store : List ℕ) (name : ℕ) (book : List ℕ) → AsksSheetFirst (λ sheet. ask_return sheet store name book)
  -- Of two sheets the first; the second where the first is sound.
  pub join_first : (second : List ℕ) → AsksSheetFirst (λ sheet. ask_join sheet second)
  pub join_second : (first : List ℕ) → Sound first → AsksSheetFirst (λ sheet. ask_join first sheet)
  -- Play asks 62 before it.
  pub play : (book goal edits lengths : List ℕ) (dispatchers moves : ℕ) → lists_right_def edits lengths dispatchers moves ≡ true → AsksSheetFirst (λ sheet. ask_play sheet book goal edits lengths dispatchers moves)

pub record Demand1 : Type 0 where
  -- "Every other input .. gets the first number that applies in document 01's questions"
  pub sheet_first : SheetFirst
  -- "and the sheet, scratch and output bytes stay unchanged, but that an edit refused only for a broken rule leaves the carried-back rules in the scratch":
  -- for enter,
  pub enter_leaves : Leaves
  -- for an edit carried out without a book,
  pub apply_stays : (sheet edit : List ℕ) (q p : ℕ) → ask_apply sheet edit ≡ refused q p → applied_sheet sheet edit ≡ sheet
  -- and for carry back.
  pub carry_back_stays : (book edit output : List ℕ) (q p : ℕ) → carry_answer book edit (length output) ≡ refused q p → carry_output book edit output ≡ output
  -- "with its place": the line that a program prints gives number and place in full.
  pub lines : Lines
