use Rattle.std.proofs.Common.{rules, ap, ◌≡◌, ◌∙◌, ◌<◌, arith}
use Rattle.answer.specs.Asked.{◌>>◌, is}
use Rattle.bitset.specs.Words.{member}
use Rattle.bitset.proofs.SetLaws.{member-set_of}
use Rattle.sheet.specs.Sheet.{graph_of}
use Rattle.sheet.specs.Questions.{ask_arrow_bit}
use Rattle.sheet.proofs.Sheet.arrow_bit.Goals as goal

pub returns-in_err-passed : goal.returns-in_err-passed
returns-in_err-passed c = unfold ask_arrow_bit ◌>>◌ in search rules

pub returns-then-j-n : goal.returns-then-j-n
unfolding ask_arrow_bit ◌>>◌ is
returns-then-j-n c =
    let j = c.args.j.0 in
    let to_in : j < (graph_of c.args.sheet.now).n = omega (arith, c.if-j-n.true, c.node_count-n.ensures.0) in
    let bit : c.member.result ≡ (graph_of c.args.sheet.now).joined c.args.a.0 c.args.i.0 j = c.member.ensures ∙ ap (λ w. member w j) c.row_word.ensures ∙ member-set_of _ _ _ to_in in
    search rules

pub returns : goal.returns
returns c = unfold ask_arrow_bit ◌>>◌ is in search rules
