-- The marked examples and the faults, each table by one fact.
use mathlib.Core.Path.{refl}
use Rattle.answer.specs.Asked.{◌>>=◌, ◌>>◌, is}
use Rattle.logic.specs.Graph.{is_node, any_below, all_below, count_below}
use Rattle.logic.specs.Meaning.{value}
use Rattle.logic.specs.Steps.{update, run}
use Rattle.logic.specs.Carry.{substitute, put_label, put_arrow, carry}
use Rattle.text.specs.Code.{code}
use Rattle.text.specs.Reading.{codes, choice, follow}
use Rattle.text.specs.Reading as reading
use Rattle.text.specs.Questions.{first, whole, read_rules, ask_book, ask_first, ask_one}
use Rattle.text.specs.Marked.{sheet_t, members, read_on_t, judged_on_t, through_on_t, Right, examples, times, found, texts}

-- Examples 1 to 10: from the printed bytes to the printed results.
pub marked : Right examples
unfolding examples read_on_t judged_on_t through_on_t sheet_t members value is_node any_below all_below count_below update run substitute put_label put_arrow carry code first whole ask_first ask_one ◌>>=◌ ◌>>◌ is codes choice follow reading.◌>>=◌
marked = refl

-- The faults and their places.
pub faults : Right texts
faults = unfold texts times found first whole read_rules ask_book ask_first ask_one ◌>>=◌ ◌>>◌ is codes choice follow reading.◌>>=◌ in refl
