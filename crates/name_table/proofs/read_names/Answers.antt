use mathlib.Core.Path.{refl, ◌∙◌}
use native.Mathlib.Omega.{arith}
use Rattle.names.specs.Token.{ascii}
use Rattle.name_table.specs.NameSlots.{table_bytes}
use Rattle.name_table.proofs.TableLaws.{zero-slots, begun, held-refused, read-slots, held-done}
use Rattle.name_table.proofs.read_names.Goals as goal

pub fill-requires : goal.fill-requires
fill-requires c = (zero-slots table_bytes c.requires (omega arith), omega arith, omega arith, omega arith)

pub read_entries-requires : goal.read_entries-requires
read_entries-requires c = begun table_bytes c.requires (omega arith) c.fill.ensures refl

pub returns-in_err-read_entries-clause-held : goal.returns-in_err-read_entries-clause-held
returns-in_err-read_entries-clause-held c =
    held-refused _ _ c.in_err-read_entries.ensures.result_value (c.read_entries.auto.table ∙ (begun table_bytes c.requires (omega arith) c.fill.ensures refl).size)

pub fill-requires-2 : goal.fill-requires-2
fill-requires-2 c = let r = c.in_ok-read_entries.ensures in (read-slots _ r.result_value r.read, omega arith, omega arith, omega arith)

pub returns-clause-held : goal.returns-clause-held
unfolding ascii
returns-clause-held c = let r = c.in_ok-read_entries.ensures in held-done _ r.result_value r.read c.fill-2.ensures c.fill-3.ensures c.fill-4.ensures
