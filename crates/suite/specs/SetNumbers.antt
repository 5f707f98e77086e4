-- The numbers that the calls for a set of nodes answer: number and place, the count and the set.
use Rattle.answer.specs.Asked.{Asked, passed, refused}
use Rattle.node_sets.specs.declared.NodeSet.{NodeSet}
use Rattle.suite.specs.declared.sets.NodeSetNumbers.{NodeSetNumbers}

abbrev pub set_numbers_def : Asked NodeSet → NodeSetNumbers
set_numbers_def (passed s) = record { number = 0; place = 0; count = s.count; set = s.set }
set_numbers_def (refused q p) = record { number = q; place = p; count = 0; set = 0 }
