use Rattle.std.proofs.Common.{length, ◌-◌}
use Rattle.write.proofs.ways.+write_way.Given as goal

-- the room left
abbrev pub decreases-write_way : goal.decreases-write_way
decreases-write_way l = length l.out.now - l.place.pos
