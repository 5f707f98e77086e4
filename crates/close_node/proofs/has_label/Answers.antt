use Rattle.std.proofs.Common.{◌∙◌, below_more, arith}
use Rattle.sheet.specs.Sheet.{present}
use Rattle.sheet.proofs.SoundWords.{sound-n}
use Rattle.close_node.proofs.NodeTaken.{bit-of, label-found, label-none}
use Rattle.close_node.proofs.has_label.Goals as goal

pub member-requires : goal.member-requires
member-requires c = omega (arith, c.requires.1, (sound-n present c.args.sheet.now (λ p. omega (arith, c.type_inv.sheet p)) c.requires.0).1)

-- the bit of a label, as it was read
pub returns-then-member : goal.returns-then-member
returns-then-member c =
    let bit = bit-of _ _ _ _ _ c.requires.1 c.label_word.ensures c.member.ensures in
    label-found _ _ _ c.loop-k-test.true (bit ∙ c.if-member.true)

pub loop-k-preserved : goal.loop-k-preserved
loop-k-preserved c =
    let bit = bit-of _ _ _ _ _ c.requires.1 c.label_word.ensures c.member.ensures in
    below_more _ _ c.loop-k.invariant (bit ∙ c.if-member.false)

pub returns : goal.returns
returns c = label-none _ _ (λ k l. c.loop-k.invariant k (omega (arith, c.loop-k-test.false)))
