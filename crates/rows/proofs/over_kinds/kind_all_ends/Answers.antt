use Rattle.std.proofs.Common.{rules}
use Rattle.sheet.specs.Sheet.{graph_of}
use Rattle.rows.proofs.over_kinds.kind_all_ends.Goals as goal

pub returns : goal.returns
returns c = c.all_ends.ensures ((graph_of c.args.sheet.now).joined c.args.a.0) (record { row = λ i r l e. search rules })
