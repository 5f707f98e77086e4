-- Each call that takes a sheet checks it first (blank, a blank store and drop take none), so what `Noticed` of `sheet` says about every caller holds for it.
use Rattle.answer.specs.Asked.{◌>>=◌, ◌>>◌, is, outcome}
use Rattle.sheet.specs.Questions.{ask_sheet, ask_label_bit, ask_arrow_bit}
use Rattle.sheet.specs.Noticed.{AsksSheetFirst}
use Rattle.node_sets.specs.NodeSets.{ask_nodes, ask_label_set, ask_row_set}
use Rattle.judge.specs.Questions.{ask_sheet_and_book, ask_judge}
use Rattle.witness.specs.Witnessed.{ask_witness}
use Rattle.apply.specs.Apply.{ask_apply}
use Rattle.runs.specs.Enter.{ask_before41, ask_enter}
use Rattle.close_node.specs.Questions.{ask_node, ask_close, ask_open}
use Rattle.plan_store.specs.Questions.{ask_keep, ask_return}
use Rattle.join_sheets.specs.Joined.{ask_join}
use Rattle.pages.specs.Print.{ask_print_arrow, ask_print_labels}
use Rattle.pages.specs.Typed.{ask_type}
use Rattle.play.specs.Questions.{ask_aims, ask_game, ask_play}
use Rattle.promises.specs.Demand1.{SheetFirst}

pub check_first : AsksSheetFirst ask_sheet
check_first = record { first = λ sheet q p e. e }

pub sheet_first : SheetFirst
unfolding ask_label_bit ask_arrow_bit ask_nodes ask_label_set ask_row_set ask_judge ask_witness ask_apply ask_enter ask_before41 ask_print_arrow ask_print_labels ask_type ask_close ask_open ask_node ask_keep ask_return ask_join ask_play ask_game ask_aims ask_sheet_and_book outcome is ◌>>◌ ◌>>=◌
sheet_first = record {
  check = check_first;
  label_bit = λ k i. record { first = λ sheet q p e. rw e };
  arrow_bit = λ a i j. record { first = λ sheet q p e. rw e };
  nodes = record { first = λ sheet q p e. rw e };
  label_set = λ k. record { first = λ sheet q p e. rw e };
  row_set = λ a i. record { first = λ sheet q p e. rw e };
  judge = λ book. record { first = λ sheet q p e. rw e };
  witness = λ text. record { first = λ sheet q p e. rw e };
  apply = λ edit. record { first = λ sheet q p e. rw e };
  enter = λ book edit room. record { first = λ sheet q p e. rw e };
  print_arrow = λ a room. record { first = λ sheet q p e. rw e };
  print_labels = λ room. record { first = λ sheet q p e. rw e };
  type_page = λ page. record { first = λ sheet q p e. rw e };
  close_node = λ book node. record { first = λ sheet q p e. rw e };
  open_node = λ book node. record { first = λ sheet q p e. rw e };
  keep = λ store name. record { first = λ sheet q p e. rw e };
  return = λ store name book. record { first = λ sheet q p e. rw e };
  join_first = λ second. record { first = λ sheet q p e. rw e };
  join_second = λ first sound. record { first = λ sheet q p e. rw (sound, e) };
  play = λ book goal edits lengths dispatchers moves ok. record { first = λ sheet q p e. rw (ok, e) };
}
