use mathlib.Core.Path.{ap, sym, ◌∙◌}
use mathlib.Core.Bool.{◌&&◌}
use lib.Dec.{leb}
use Rattle.logic.proofs.Below.{one-or-more}
use Rattle.rows.specs.declared.counting.Wanted.{Wanted}
use Rattle.rows.specs.Operations.{number, enough}
use Rattle.rows.proofs.OperationLaws.{some-common, count-common}
use Rattle.rows.proofs.counting.enough.Goals as goal

pub returns-in-One : goal.returns-in-One
returns-in-One c n v w h p q = some-common n v w _ _ h p q _ c.both.ensures ∙ sym (one-or-more n (λ j. v j && w j)) ∙ ap (λ (k : Wanted). enough (number k) n v w) (sym c.in-One.is)

pub returns-in-Count : goal.returns-in-Count
returns-in-Count c n v w h p q = ap (leb _) (count-common n v w _ _ h p q _ c.count_common.ensures) ∙ ap (λ (k : Wanted). enough (number k) n v w) (sym c.in-Count.is)
