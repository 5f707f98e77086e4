-- The form of check bytes that the code's argument names.
use Rattle.seal.specs.declared.Modulo.{Modulo}
use Rattle.seal.specs.declared.Modulo.TheVariants.{M257, M255}
use Rattle.seal.specs.Seal.{Form, modulo257, modulo255}

abbrev pub form_of : Modulo → Form
form_of M257 = modulo257
form_of M255 = modulo255
