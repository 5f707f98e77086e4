-- The form of sheets that the code's arguments name: the check bytes, and whether block 0 holds the nodes in use.
use Rattle.std.specs.Prelude.{Bool}
use Rattle.seal.specs.declared.Modulo.{Modulo}
use Rattle.seal.specs.Forms.{form_of}
use Rattle.sheet.specs.Sheet.{SheetForm}

abbrev pub form_in : Modulo → Bool → SheetForm
form_in sums held = record { sums = form_of sums; holds_use = held }
