-- The numbers that zamiathen_witness answers.
use Rattle.answer.specs.Asked.{Asked, passed, refused}
use Rattle.witness.specs.declared.Witness.{Witness}
use Rattle.witness.specs.Witnessed.{witness_kind, witness_first, witness_second, witness_nodes}
use Rattle.suite.specs.declared.witnesses.WitnessNumbers.{WitnessNumbers}

-- After done the witness, else 0.
abbrev pub witness_numbers_def : Asked Witness → WitnessNumbers
witness_numbers_def (passed w) = record { number = 0; place = 0; kind = witness_kind w; first = witness_first w; second = witness_second w; nodes = witness_nodes w }
witness_numbers_def (refused q p) = record { number = q; place = p; kind = 0; first = 0; second = 0; nodes = 0 }
