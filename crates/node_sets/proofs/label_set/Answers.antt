use Rattle.std.proofs.Common.{rules, ◌≤◌, arith}
use Rattle.answer.specs.Asked.{◌>>◌, is}
use Rattle.sheet.specs.Sheet.{present, graph_of}
use Rattle.sheet.specs.Questions.{Sound}
use Rattle.sheet.proofs.SoundWords.{sound-n}
use Rattle.node_sets.specs.NodeSets.{ask_label_set}
use Rattle.node_sets.proofs.label_set.Goals as goal

pub returns-in_err-passed : goal.returns-in_err-passed
returns-in_err-passed c = unfold ask_label_set ◌>>◌ in search rules

pub returns-then-k-lt-LABELS : goal.returns-then-k-lt-LABELS
unfolding ask_label_set ◌>>◌ is
returns-then-k-lt-LABELS c =
    let t = c.args.sheet.now in
    let sound : Sound t = search rules in
    let few : (graph_of t).n ≤ 64 = omega (arith, (sound-n present t (λ i. omega (arith, c.type_inv.sheet i)) sound).1) in
    let read = c.counted.ensures _ _ few c.label_word.ensures in
    search rules

pub returns : goal.returns
unfolding ask_label_set ◌>>◌ is
returns c = search rules
