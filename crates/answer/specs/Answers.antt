-- The papers' number and place of each answer. A contract that gives an `Answer` cites `asked`; that of a call with a value, as a bit read or one that
-- writes an output, cites `result_asked`, with the same numbers and places for refusals.
use Rattle.std.specs.Prelude.{ℕ, Result, Ok, Err}
use Rattle.answer.specs.declared.Refusal.{Refusal}
use Rattle.answer.specs.declared.Refusal.TheVariants.{SheetLength, CheckBytes, BlockHead, NotZero, NodeCount, BitRange, BookLength, BookEnds, BookCode, BookLevel, BookNumber, BookRules, EditLength, EditEnds, EditCode, EditLevel, EditNumber, EditExtra, CarriedLength, CarriedLevels, OutputLength, RuleBroken, PageLine, LogSums, LogBlock, NodeTaken, StoreBytes, PlanName, PlanUnfilled, NodesTotal, LawStep, TextSent, SmallSheets, GameRange, NameTable, WordsEnd, WordsStart, WordsMark, WordsNumber, WordsLevel, WordsRules, WordsLength}
use Rattle.answer.specs.declared.Answer.{Answer}
use Rattle.answer.specs.declared.Answer.TheVariants.{Done, Refused}
use Rattle.answer.specs.Asked.{Asked, passed, refused}

abbrev pub refusal_number_def : Refusal → ℕ
refusal_number_def (SheetLength p) = 1
refusal_number_def (CheckBytes p) = 2
refusal_number_def (BlockHead p) = 3
refusal_number_def (NotZero p) = 4
refusal_number_def (NodeCount p) = 5
refusal_number_def (BitRange p) = 7
refusal_number_def (BookLength p) = 11
refusal_number_def (BookEnds p) = 12
refusal_number_def (BookCode p) = 13
refusal_number_def (BookLevel p) = 14
refusal_number_def (BookNumber p) = 15
refusal_number_def (BookRules p) = 16
refusal_number_def (EditLength p) = 21
refusal_number_def (EditEnds p) = 22
refusal_number_def (EditCode p) = 23
refusal_number_def (EditLevel p) = 24
refusal_number_def (EditNumber p) = 25
refusal_number_def (EditExtra p) = 26
refusal_number_def (CarriedLength p) = 31
refusal_number_def (CarriedLevels p) = 32
refusal_number_def (OutputLength p) = 33
refusal_number_def (RuleBroken p) = 41
refusal_number_def (PageLine p) = 51
refusal_number_def (LogSums p) = 52
refusal_number_def (LogBlock p) = 53
refusal_number_def (NodeTaken p) = 54
refusal_number_def (StoreBytes p) = 55
refusal_number_def (PlanName p) = 56
refusal_number_def (PlanUnfilled p) = 57
refusal_number_def (NodesTotal p) = 58
refusal_number_def (LawStep p) = 59
refusal_number_def (TextSent p) = 60
refusal_number_def (SmallSheets p) = 61
refusal_number_def (GameRange p) = 62
refusal_number_def (NameTable p) = 63
refusal_number_def (WordsEnd p) = 64
refusal_number_def (WordsStart p) = 65
refusal_number_def (WordsMark p) = 66
refusal_number_def (WordsNumber p) = 67
refusal_number_def (WordsLevel p) = 68
refusal_number_def (WordsRules p) = 69
refusal_number_def (WordsLength p) = 70

abbrev pub refusal_place_def : Refusal → ℕ
refusal_place_def (SheetLength p) = p
refusal_place_def (CheckBytes p) = p
refusal_place_def (BlockHead p) = p
refusal_place_def (NotZero p) = p
refusal_place_def (NodeCount p) = p
refusal_place_def (BitRange p) = p
refusal_place_def (BookLength p) = p
refusal_place_def (BookEnds p) = p
refusal_place_def (BookCode p) = p
refusal_place_def (BookLevel p) = p
refusal_place_def (BookNumber p) = p
refusal_place_def (BookRules p) = p
refusal_place_def (EditLength p) = p
refusal_place_def (EditEnds p) = p
refusal_place_def (EditCode p) = p
refusal_place_def (EditLevel p) = p
refusal_place_def (EditNumber p) = p
refusal_place_def (EditExtra p) = p
refusal_place_def (CarriedLength p) = p
refusal_place_def (CarriedLevels p) = p
refusal_place_def (OutputLength p) = p
refusal_place_def (RuleBroken p) = p
refusal_place_def (PageLine p) = p
refusal_place_def (LogSums p) = p
refusal_place_def (LogBlock p) = p
refusal_place_def (NodeTaken p) = p
refusal_place_def (StoreBytes p) = p
refusal_place_def (PlanName p) = p
refusal_place_def (PlanUnfilled p) = p
refusal_place_def (NodesTotal p) = p
refusal_place_def (LawStep p) = p
refusal_place_def (TextSent p) = p
refusal_place_def (SmallSheets p) = p
refusal_place_def (GameRange p) = p
refusal_place_def (NameTable p) = p
refusal_place_def (WordsEnd p) = p
refusal_place_def (WordsStart p) = p
refusal_place_def (WordsMark p) = p
refusal_place_def (WordsNumber p) = p
refusal_place_def (WordsLevel p) = p
refusal_place_def (WordsRules p) = p
refusal_place_def (WordsLength p) = p

abbrev pub answer_number : Answer → ℕ
answer_number Done = 0
answer_number (Refused r) = refusal_number_def r

abbrev pub answer_place : Answer → ℕ
answer_place Done = 0
answer_place (Refused r) = refusal_place_def r

-- What an answer says about the questions: all passed, or the first that failed.
abbrev pub asked : Answer → Asked (Unit {0})
asked Done = passed tt
asked (Refused r) = refused (refusal_number_def r) (refusal_place_def r)

-- The same for a call that gives a value when all pass.
abbrev pub result_asked : {A : Type 0} → Result A Refusal → Asked A
result_asked (Ok a) = passed a
result_asked (Err r) = refused (refusal_number_def r) (refusal_place_def r)
