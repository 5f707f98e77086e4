use mathlib.Core.Path.{refl, ◌∙◌, ap}
use mathlib.Core.Logic.{inr}
use native.Mathlib.Omega.{arith}
use Rattle.answer.specs.Outputs.{written_length, written_output}
use Rattle.read_words.proofs.FromLaws.{edit-is}
use Rattle.read_words.proofs.edit_from_words.Goals as goal

pub from_words-requires : goal.from_words-requires
from_words-requires c = (inr refl, omega arith)

pub returns : goal.returns
returns c =
    let e = c.from_words.ensures in
    let q = edit-is c.args.names.now c.args.words.now _ in
    record { result_value = e.result_value ∙ ap written_length q; output_after = e.output_after ∙ ap (λ q. written_output q c.args.output.now) q }
