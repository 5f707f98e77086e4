-- All promises are kept.
use Rattle.runs.proofs.Demand3.{demand_3}
use Rattle.promises.specs.Promises.{Promises}
use Rattle.promises.proofs.Demand1.{demand_1}
use Rattle.promises.proofs.Demand2.{demand_2}
use Rattle.promises.proofs.Item1.{item_1}
use Rattle.promises.proofs.Item2.{item_2}
use Rattle.promises.proofs.Item3.{item_3}
use Rattle.promises.proofs.Item4.{item_4}
use Rattle.promises.proofs.Item5.{item_5}
use Rattle.promises.proofs.Item6.{item_6}
use Rattle.promises.proofs.Item7.{item_7}
use Rattle.promises.proofs.Item8.{item_8}
use Rattle.promises.proofs.Item9.{item_9}
use Rattle.promises.proofs.Item10.{item_10}
use Rattle.promises.proofs.Item11.{item_11}
use Rattle.promises.proofs.Item12.{item_12}
use Rattle.promises.proofs.Item13.{item_13}
use Rattle.log_edit.proofs.LoggedEdits.{logged_edits}
use Rattle.promises.proofs.Witnesses.{witnesses}
use Rattle.promises.proofs.Words.{word-promises}

pub promises : Promises
promises = record {
  demand_1 = demand_1;
  demand_2 = demand_2;
  demand_3 = demand_3;
  item_1 = item_1;
  item_2 = item_2;
  item_3 = item_3;
  item_4 = item_4;
  item_5 = item_5;
  item_6 = item_6;
  item_7 = item_7;
  item_8 = item_8;
  item_9 = item_9;
  item_10 = item_10;
  item_11 = item_11;
  item_12 = item_12;
  item_13 = item_13;
  witnesses = witnesses;
  logged_edits = logged_edits;
  words = word-promises;
}
