use Rattle.std.proofs.Common.{◌&&◌, ltb}
use Rattle.logic.specs.Graph.{is_node}
use Rattle.logic.specs.Limits.{label_count}
use Rattle.sheet.specs.Sheet.{graph_of}
use Rattle.pages.specs.Typed.{marked, typed}
use Rattle.pages.proofs.TypeLaws.{marked-labels}
use Rattle.pages.proofs.RightLines.{marked-in}
use Rattle.pages.proofs.typed.put_sets.Goals as goal

pub returns-in-Arrows : goal.returns-in-Arrows
unfolding typed
returns-in-Arrows c =
    let g = graph_of c.args.sheet.now in
    rw c.in-Arrows.is (λ page read. c.put_rows.ensures (λ i j. is_node g i && marked g page i j) (marked-in g page) (record { row = read }))

pub returns-in-Labels : goal.returns-in-Labels
unfolding typed
returns-in-Labels c =
    let s = c.args in
    let g = graph_of s.sheet.now in
    rw c.in-Labels.is (λ page read. c.put_labels.ensures (λ k i. ltb k label_count && marked g page k i) (marked-labels g page s.sets read))
