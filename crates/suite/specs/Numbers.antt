-- The numbers that a C function answers: number and place, 0 and 0 for done, and the result, 0 after a refusal.
use Rattle.std.specs.Prelude.{Bool, List, ℕ, length}
use Rattle.answer.specs.Asked.{Asked, passed, refused, asked_number, asked_place, ◌>>=◌}
use Rattle.bitset.specs.Words.{digit}
use Rattle.text.specs.Code.{code}
use Rattle.text.specs.Part.{Part}
use Rattle.text.specs.Questions.{ask_rule_end}
use Rattle.suite.specs.declared.Numbers.{Numbers}
use Rattle.suite.specs.declared.BitNumbers.{BitNumbers}
use Rattle.suite.specs.declared.LengthNumbers.{LengthNumbers}
use Rattle.suite.specs.declared.PartNumbers.{PartNumbers}

abbrev pub numbers : {A : Type 0} → Asked A → Numbers
numbers q = record { number = asked_number q; place = asked_place q }

abbrev pub bit_numbers_def : Asked Bool → BitNumbers
bit_numbers_def (passed b) = record { number = 0; place = 0; bit = digit b }
bit_numbers_def (refused q p) = record { number = q; place = p; bit = 0 }

abbrev pub length_numbers : Asked ℕ → LengthNumbers
length_numbers (passed n) = record { number = 0; place = 0; length = n }
length_numbers (refused q p) = record { number = q; place = p; length = 0 }

abbrev pub part_numbers : {A : Type 0} → Asked A → Part → PartNumbers
part_numbers q part = record { number = asked_number q; place = asked_place q; start = part.start; length = part.size }

-- Rule end: the length of the first rule.
unfoldable pub rule_end : List ℕ → Asked ℕ
rule_end t = do
  K ← ask_rule_end t
  passed (length (code K))
