use Rattle.write.proofs.Laying.{wrote-again}
use Rattle.write.proofs.ways.open_second.Goals as goal

pub returns : goal.returns
returns c = let s = c in wrote-again s.args.out.now s.args.from s.args.n s.args.pos 0x26 s.requires.0 c.again.ensures
