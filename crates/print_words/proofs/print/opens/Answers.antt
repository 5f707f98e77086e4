use Rattle.print_words.proofs.OpeningLaws.{opening-phrase, opening-bare}
use Rattle.print_words.proofs.print.opens.Goals as goal

pub returns-in_default : goal.returns-in_default
returns-in_default c = opening-bare _ _ c.in_default.ensures c.bare.ensures

pub row_of-requires : goal.row_of-requires
row_of-requires c = c.in-Some.ensures.1

pub returns : goal.returns
returns c = opening-phrase _ _ c.in-Some.ensures _ c.row_of.ensures
