-- Item 13 of document 02 is kept.
use Rattle.play.proofs.Right.{play-right}
use Rattle.promises.proofs.Played.{played-by-calls}
use Rattle.promises.proofs.Course.{course-by-calls, stated-by-calls}
use Rattle.promises.specs.Item13.{Item13}

pub item_13 : Item13
item_13 = record { moves = played-by-calls; courses = course-by-calls; stated = stated-by-calls; right = play-right }
