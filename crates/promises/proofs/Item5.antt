-- Item 5 of document 02 is kept.
use Rattle.seal.proofs.TotalLaws.{sums-total, sums-weighed, plain_totals}
use Rattle.promises.specs.Item5.{Item5}
use Rattle.promises.proofs.SheetFirst.{check_first}

pub item_5 : Item5
item_5 = record { s_of_total = sums-total; t_of_weighed = sums-weighed; plain_totals = plain_totals; check_first = check_first }
