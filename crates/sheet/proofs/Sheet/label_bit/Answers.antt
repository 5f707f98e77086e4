use Rattle.std.proofs.Common.{rules, ap, ◌≡◌, ◌∙◌, ◌<◌, arith}
use Rattle.answer.specs.Asked.{◌>>◌, is}
use Rattle.bitset.specs.Words.{member}
use Rattle.bitset.proofs.SetLaws.{member-set_of}
use Rattle.sheet.specs.Sheet.{graph_of}
use Rattle.sheet.specs.Questions.{ask_label_bit}
use Rattle.sheet.proofs.Sheet.label_bit.Goals as goal

pub returns-in_err-passed : goal.returns-in_err-passed
returns-in_err-passed c = unfold ask_label_bit ◌>>◌ in search rules

pub returns-then-i-node_count : goal.returns-then-i-node_count
unfolding ask_label_bit ◌>>◌ is
returns-then-i-node_count c =
    let i = c.args.i.0 in
    let node_in : i < (graph_of c.args.sheet.now).n = omega (arith, c.if-i-node_count.true, c.node_count.ensures.0) in
    let bit : c.member.result ≡ (graph_of c.args.sheet.now).labelled c.args.k.0 i = c.member.ensures ∙ ap (λ w. member w i) c.label_word.ensures ∙ member-set_of _ _ _ node_in in
    search rules

pub returns : goal.returns
returns c = unfold ask_label_bit ◌>>◌ is in search rules
