-- The examples of joining, by computation.
use mathlib.Core.Path.{◌≡◌, refl}
use Rattle.answer.specs.Asked.{◌>>=◌, ◌>>◌, is}
use Rattle.answer.specs.Outputs.{ask_room}
use Rattle.logic.specs.Carry.{followed_by}
use Rattle.text.specs.Code.{code, edit_code}
use Rattle.text.specs.Reading.{codes, choice, follow}
use Rattle.text.specs.Reading as reading
use Rattle.text.specs.Questions.{whole, ask_one}
use Rattle.join_edits.specs.Chain.{ask_joined, ask_join_edits}
use Rattle.join_edits.specs.Examples.{calls, results}

pub examples : calls ask_join_edits ≡ results
examples = unfold calls results ask_join_edits ask_joined ask_room ask_one whole codes choice follow reading.◌>>=◌ ◌>>=◌ ◌>>◌ is followed_by code edit_code in refl
