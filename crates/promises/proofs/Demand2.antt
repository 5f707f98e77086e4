-- Demand 2 is kept.
use Rattle.logic.proofs.Dual.{every_is_no_other, at_least_none, at_least_one_more, at_least_only, at_least_one_is_some, at_most_is_not_at_least}
use Rattle.logic.proofs.Inside.{taken_label, taken_arrow, run_within}
use Rattle.logic.proofs.Theorem.{carry_choose}
use Rattle.sheet.specs.Sheet.{present}
use Rattle.store.proofs.StoredPasses.{stored-passes}
use Rattle.store.proofs.StoredReads.{read_back}
use Rattle.sheet.proofs.SoundSheets.{one_sheet}
use Rattle.text.proofs.TextSpelling.{one_text_of_a_book, one_text_of_an_edit}
use Rattle.text.proofs.Marked.{marked, faults}
use Rattle.runs.proofs.Judged.{judge_says_kept}
use Rattle.runs.proofs.Examples.{examples}
use Rattle.promises.specs.Demand2.{Demand2}

pub demand_2 : Demand2
demand_2 = record {
  judge_says_kept = judge_says_kept;
  every_is_no_other = every_is_no_other;
  at_least_none = at_least_none;
  at_least_one_more = at_least_one_more;
  at_least_only = at_least_only;
  at_least_one_is_some = at_least_one_is_some;
  at_most_is_not_at_least = at_most_is_not_at_least;
  taken_label = taken_label;
  taken_arrow = taken_arrow;
  run_within = run_within;
  carry_choose = carry_choose;
  one_text_of_a_book = one_text_of_a_book;
  one_text_of_an_edit = one_text_of_an_edit;
  stored_is_sound = stored-passes;
  one_sheet = one_sheet present;
  reads_back = read_back;
  marked = marked;
  faults = faults;
  entered = examples;
}
