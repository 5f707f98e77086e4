use mathlib.Core.List.{List}
use Prim.Native.Nat.{ℕ}
use Rattle.seal.specs.Seal.{reseal}
use Rattle.sheet.specs.Sheet.{present}
use Rattle.sheet.specs.Questions.{block_of}
use Rattle.sheet.proofs.ReplacedBlocks.{Upto}
use Rattle.store.proofs.Store.convert.Given as goal

-- what a block becomes
abbrev pub resealed : List ℕ → ℕ → List ℕ
resealed t j = reseal present.sums (block_of t j)

abbrev pub invariant-loop-b : goal.invariant-loop-b
invariant-loop-b l = Upto (resealed l.initial.card) l.initial.card l.card l.b
