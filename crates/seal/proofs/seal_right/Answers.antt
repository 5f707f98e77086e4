use mathlib.Core.Path.{sym, ap, ◌∙◌}
use Rattle.seal.specs.Seal.{seal_right_def}
use Rattle.seal.specs.Forms.{form_of}
use Rattle.seal.proofs.seal_right.Goals as goal

pub returns-in-M255 : goal.returns-in-M255
returns-in-M255 c = c.right_255.ensures ∙ ap (λ m. seal_right_def (form_of m) c.args.block.now) (sym c.in-M255.is)
