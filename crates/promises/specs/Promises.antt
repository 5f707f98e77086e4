-- What we promise: the buyer's three demands, the thirteen requests of document 02, what a witness says, what an edit's blocks of a log hold, and books
-- and edits in words: each a record with a field for each sentence that is more than a definition. The other sentences are definitions, which the
-- contracts cite: questions, numbers, forms of bytes. proofs/Promises proves the records, by citation; every call meets its contract, and these records
-- speak of the definitions that the contracts cite.
use Rattle.runs.specs.Demand3.{Demand3}
use Rattle.promises.specs.Demand1.{Demand1}
use Rattle.promises.specs.Demand2.{Demand2}
use Rattle.promises.specs.Item1.{Item1}
use Rattle.promises.specs.Item2.{Item2}
use Rattle.promises.specs.Item3.{Item3}
use Rattle.promises.specs.Item4.{Item4}
use Rattle.promises.specs.Item5.{Item5}
use Rattle.promises.specs.Item6.{Item6}
use Rattle.promises.specs.Item7.{Item7}
use Rattle.promises.specs.Item8.{Item8}
use Rattle.promises.specs.Item9.{Item9}
use Rattle.promises.specs.Item10.{Item10}
use Rattle.promises.specs.Item11.{Item11}
use Rattle.promises.specs.Item12.{Item12}
use Rattle.promises.specs.Item13.{Item13}
use Rattle.log_edit.specs.LoggedEdits.{LoggedEdits}
use Rattle.promises.specs.Witnesses.{Witnesses}
use Rattle.promises.specs.Words.{WordPromises}

pub record Promises : Type 1 where
  -- Every input gets its answer.
  pub demand_1 : Demand1
  -- Truth, sheets and carried rules are those of the definitions.
  pub demand_2 : Demand2
  -- The carried rules decide; runs of enter calls.
  pub demand_3 : Demand3
  -- The squared sheet on paper.
  pub item_1 : Item1
  -- Check bytes that miss 00 against FF.
  pub item_2 : Item2
  -- Counts that say nothing.
  pub item_3 : Item3
  -- Run last week's edits again.
  pub item_4 : Item4
  -- Loading a region's sheets.
  pub item_5 : Item5
  -- Closed platforms.
  pub item_6 : Item6
  -- Plans to come back to.
  pub item_7 : Item7
  -- Two stations under one roof.
  pub item_8 : Item8
  -- Edits sent as a chain.
  pub item_9 : Item9
  -- A shorter scratch.
  pub item_10 : Item10
  -- Shorter conditions from a partner's tool.
  pub item_11 : Item11
  -- How many small sheets survive.
  pub item_12 : Item12
  -- Dispatcher against disruption.
  pub item_13 : Item13
  -- What breaks a rule.
  pub witnesses : Witnesses
  -- An edit cut into the blocks of a log.
  pub logged_edits : LoggedEdits
  -- Books and edits in words.
  pub words : WordPromises
