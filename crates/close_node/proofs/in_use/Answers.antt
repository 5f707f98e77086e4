use mathlib.Core.Path.{◌∙◌}
use native.Mathlib.Omega.{arith}
use Rattle.sheet.specs.Sheet.{present, graph_of}
use Rattle.sheet.proofs.SoundWords.{sound-n}
use Rattle.close_node.proofs.NodeTaken.{bit-in-use}
use Rattle.close_node.proofs.in_use.Goals as goal

pub member-requires : goal.member-requires
member-requires c =
    let s = c in
    omega (arith, s.requires.1, (sound-n present s.args.sheet.now (λ p. omega (arith, c.type_inv.sheet p)) s.requires.0).1)

pub returns : goal.returns
returns c = let s = c in c.member.ensures ∙ bit-in-use (graph_of s.args.sheet.now) _ _ s.requires.1 c.all_nodes.ensures
