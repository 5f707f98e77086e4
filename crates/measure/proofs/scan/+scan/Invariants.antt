use Rattle.std.proofs.Common.{◌≡◌, length, ◌-◌, get_or}
use Rattle.ends.specs.Shapes.{shape_of}
use Rattle.measure.proofs.Scans.{Scanning}
use Rattle.measure.proofs.scan.+scan.Given as goal

abbrev pub decreases-scan : goal.decreases-scan
decreases-scan l = length l.text.now - l.at

abbrev pub invariant-loop-s : goal.invariant-loop-s
invariant-loop-s l = (l.s ≡ shape_of (get_or l.text l.p 0)) × Scanning l.text l.at l.w l.v l.initial.state l.p l.level l.state

abbrev pub decreases-loop-s : goal.decreases-loop-s
decreases-loop-s l = length l.text - l.p
