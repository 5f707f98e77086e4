-- The numbers that counting answers: number and place, and the four counts.
use Rattle.answer.specs.Asked.{Asked, passed, refused, asked_number, asked_place}
use Rattle.count_small.specs.declared.Four.{Four}
use Rattle.suite.specs.declared.CountNumbers.{CountNumbers}

abbrev pub count_numbers : {A : Type 0} → Asked A → Four → CountNumbers
count_numbers q f = record { number = asked_number q; place = asked_place q; kept = f.kept; lost = f.lost; repaired = f.repaired; broken = f.broken }

-- The same from the questions that result in the counts: 0 each after a refusal.
abbrev pub four_numbers : Asked Four → CountNumbers
four_numbers (passed f) = record { number = 0; place = 0; kept = f.kept; lost = f.lost; repaired = f.repaired; broken = f.broken }
four_numbers (refused q p) = record { number = q; place = p; kept = 0; lost = 0; repaired = 0; broken = 0 }
