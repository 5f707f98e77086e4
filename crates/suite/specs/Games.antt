-- The numbers that zamiathen_play answers.
use Rattle.std.specs.Prelude.{ℕ, Result, Ok, Err}
use Rattle.answer.specs.Asked.{Asked, asked_number, asked_place, after}
use Rattle.game.specs.Game.{Outcome}
use Rattle.answer.specs.Answers.{refusal_number_def, refusal_place_def}
use Rattle.play.specs.declared.questions.AtEdit.{AtEdit}
use Rattle.play.specs.declared.search.Found.{Found}
use Rattle.play.specs.Standing.{outcome_of}
use Rattle.play.specs.Questions.{outcome_number, no_outcome, outcome_edit}
use Rattle.suite.specs.declared.games.PlayNumbers.{PlayNumbers}

-- From its questions and the edit that a refusal is about.
abbrev pub play_numbers : Asked Outcome → ℕ → PlayNumbers
play_numbers q faulty = record { number = asked_number q; place = asked_place q; outcome = after q outcome_number no_outcome; edit = after q outcome_edit faulty }

-- From what the call found.
abbrev pub found_numbers : Result Found AtEdit → PlayNumbers
found_numbers (Ok f) = record { number = 0; place = 0; outcome = outcome_number (outcome_of f); edit = outcome_edit (outcome_of f) }
found_numbers (Err e) = record { number = refusal_number_def e.refusal; place = refusal_place_def e.refusal; outcome = no_outcome; edit = e.edit }
