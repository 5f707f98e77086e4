use Rattle.join_sheets.proofs.Shifts.{shifted}
use Rattle.join_sheets.proofs.raised.Goals as goal

pub returns : goal.returns
returns c = shifted c.args.x c.args.n
