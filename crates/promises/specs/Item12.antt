-- Item 12 of document 02: how many small sheets survive. proofs/Item12 proves it.
use Rattle.std.specs.Prelude.{◌≡◌, List, [], ◌∷◌, ℕ}
use Rattle.answer.specs.Asked.{passed}
use Rattle.logic.specs.Syntax.{Edit}
use Rattle.sheet.specs.Sheet.{graph_of}
use Rattle.sheet.specs.Questions.{Sound}
use Rattle.apply.specs.Apply.{after_steps}
use Rattle.bitset.specs.Words.{Bytes}
use Rattle.runs.specs.Run.{Keeps}
use Rattle.count_small.specs.declared.Four.{Four}
use Rattle.count_small.specs.Small.{Small, total}
use Rattle.count_small.specs.Exactly.{Exactly}
use Rattle.count_small.specs.Questions.{Texts, ask_count, counts_of}

-- "all nodes in use, only label 0 and arrow 0 in sheet": a sound sheet of n nodes like that.
pub record SmallSheet (n : ℕ) (sheet : List ℕ) : Type 0 where
  pub are_bytes : Bytes sheet
  pub sound : Sound sheet
  pub small : Small n (graph_of sheet)

-- "in this order: book kept before and after, kept then broken, broken then kept, broken twice": each is the number of the small sheets of that kind.
pub record Counted (n : ℕ) (book : List ℕ) (Z : Edit) (f : Four) : Type 0 where
  pub kept_twice : Exactly (λ sheet. SmallSheet n sheet × Keeps book sheet × Keeps book (after_steps Z sheet)) f.kept
  pub kept_then_broken : Exactly (λ sheet. SmallSheet n sheet × Keeps book sheet × (¬ Keeps book (after_steps Z sheet))) f.lost
  pub broken_then_kept : Exactly (λ sheet. SmallSheet n sheet × (¬ Keeps book sheet) × Keeps book (after_steps Z sheet)) f.repaired
  pub broken_twice : Exactly (λ sheet. SmallSheet n sheet × (¬ Keeps book sheet) × (¬ Keeps book (after_steps Z sheet))) f.broken

pub record Item12 : Type 0 where
  -- "give four counts over every such sheet [..] and each is the exact number by the definitions."
  pub counted : (n : ℕ) (book edit : List ℕ) (t : Texts) → ask_count n book edit ≡ passed t → Counted n book t.edit (counts_of n book edit)
  -- "They total 4, 64 or 4,096"
  pub total_of_one : (book edit : List ℕ) (t : Texts) → ask_count 1 book edit ≡ passed t → total (counts_of 1 book edit) ≡ 4
  pub total_of_two : (book edit : List ℕ) (t : Texts) → ask_count 2 book edit ≡ passed t → total (counts_of 2 book edit) ≡ 64
  pub total_of_three : (book edit : List ℕ) (t : Texts) → ask_count 3 book edit ≡ passed t → total (counts_of 3 book edit) ≡ 4096
  -- "For n = 1, book 21 01 03 00 and edit 30 they are 2 kept twice, 0, 0 and 2 broken twice."
  pub marked : counts_of 1 (0x21 ∷ 0x01 ∷ 0x03 ∷ 0x00 ∷ []) (0x30 ∷ []) ≡ record { kept = 2; lost = 0; repaired = 0; broken = 2 }
