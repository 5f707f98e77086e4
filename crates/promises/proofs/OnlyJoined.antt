-- The joined edit is entered where its first part is not: by the computed examples of enter.
use mathlib.Core.Path.{◌≡◌, refl, ap}
use mathlib.Core.List.{List, [], ◌∷◌}
use Rattle.answer.specs.Asked.{Asked, passed, ◌>>=◌, ◌>>◌, is}
use Rattle.logic.specs.Carry.{followed_by}
use Rattle.text.specs.Code.{code, edit_code}
use Rattle.text.specs.Reading.{codes, choice, follow}
use Rattle.text.specs.Reading as reading
use Rattle.text.specs.Questions.{whole, ask_one}
use Rattle.runs.specs.Examples.{Result, entered_on_t, calls, results}
use Rattle.runs.proofs.Examples.{examples}
use Rattle.join_edits.specs.Chain.{ask_joined}
use Rattle.promises.specs.OnlyJoined.{takes, adds, takes_then_adds, OnlyJoined}

-- the answers of the first two calls
first_two : List Result → List (Asked (Unit {0}))
first_two [] = []
first_two (a ∷ []) = []
first_two (a ∷ b ∷ rest) = a.answer ∷ b.answer ∷ []

joined-so : ask_joined takes adds ≡ passed takes_then_adds
joined-so = unfold ask_joined ask_one whole codes choice follow reading.◌>>=◌ ◌>>=◌ ◌>>◌ is followed_by code edit_code in refl

pub only_joined : OnlyJoined
only_joined = unfold calls results entered_on_t first_two in let e = ap first_two examples in record { joins = joined-so; joined_entered = cc; first_refused = cc }
