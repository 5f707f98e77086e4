-- Item 7 of document 02: plans to come back to. proofs/Item7 proves it.
use Rattle.std.specs.Prelude.{◌≡◌, List, ◌∷◌, ℕ}
use Rattle.answer.specs.Asked.{passed}
use Rattle.plan_store.specs.Questions.{ask_return}
use Rattle.plan_store.specs.Calls.{returned_sheet}
use Rattle.bitset.specs.Words.{Bytes}
use Rattle.runs.specs.Run.{Keeps, Call}
use Rattle.runs.specs.Demand3.{RunRight}
use Rattle.logic.specs.Lists.{All}
use Rattle.promises.specs.Plans.{PlanEvent, State, PlannedRight}
use Rattle.promises.specs.StoreCalls.{StoreCall, blank, KeepsBytes, nothing, held_in, GivesBack}

pub record Item7 : Type 0 where
  -- "While only these calls write the store, a return that is done gives back, byte for byte, the sheet last kept under that name, whatever was entered
  -- since": from a buffer of any contents and length that is made blank,
  pub gives_back : (buffer : List ℕ) (calls : List StoreCall) → All KeepsBytes calls → (name : ℕ) → GivesBack nothing buffer (blank ∷ calls) name
  -- and from a store that comes from elsewhere, whose sheets count as kept.
  pub gives_back_from : (store : List ℕ) → Bytes store → (calls : List StoreCall) → All KeepsBytes calls → (name : ℕ) → GivesBack (held_in store name) store calls name
  -- "and a new run opens there": the sheet keeps the book passed to the return, whatever the sheet before, and demand 3 holds for every run from it.
  pub run_opens : (sheet store : List ℕ) (name : ℕ) (book : List ℕ) → Bytes store → ask_return sheet store name book ≡ passed tt
      → Keeps book (returned_sheet sheet store name book) × ((calls : List Call) → RunRight (returned_sheet sheet store name book) book calls)
  -- "A planner tries three variants of a holiday weekend and returns to the best": over every list of enter, close, open, keep, return and drop calls under one book,
  -- from a sheet that keeps it and a store of any bytes, the sheet keeps the book after each call; "a new run opens there" after each return that is done, and each run
  -- has what demand 3 says.
  pub planned : (book : List ℕ) (x : State) (calls : List PlanEvent) → Bytes x.sheet → Bytes x.store → Keeps book x.sheet → PlannedRight book x calls
