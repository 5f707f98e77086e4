use mathlib.Core.Path.{refl}
use native.Mathlib.Omega.{arith}
use Rattle.sheet.specs.Sheet.{present, graph_in}
use Rattle.sheet.proofs.SoundWords.{sound-length, sound-n}
use Rattle.sheet.proofs.Sheet.node_count.Goals as goal

pub bounds-sheet-2 : goal.bounds-sheet-2
bounds-sheet-2 c = omega (arith, sound-length present c.args.sheet.now c.requires)

pub returns : goal.returns
unfolding graph_in
returns c = let n = sound-n present c.args.sheet.now (λ p. omega (arith, c.type_inv.sheet p)) c.requires in (refl, n.0, n.1)
