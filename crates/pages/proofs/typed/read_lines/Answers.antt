use Rattle.std.proofs.Common.{sym, ◌∙◌}
use Rattle.std.proofs.Common.{arith}
use Rattle.answer.proofs.AskedLaws.{refused-not-passed}
use Rattle.sheet.specs.Sheet.{graph_of}
use Rattle.pages.specs.Typed.{block_shown}
use Rattle.pages.proofs.TypeLaws.{line_set, line-asked, line-wrong, line_read, all_read}
use Rattle.pages.proofs.typed.read_lines.Goals as goal

-- the line's set, and whether the line is right
pub returns-then-not-line_is : goal.returns-then-not-line_is
returns-then-not-line_is c =
    let g = graph_of c.args.sheet.now in
    let b = block_shown c.args.shown in
    let page = c.args.page.now in
    let l = c.loop-x in
    let n = c.node_count-n in
    let set_is = line_set g b page n.result n.ensures.0 l.x _ _ _ n.ensures.2 c.all_nodes-used.ensures c.marks_of.ensures c.set_shown-set.ensures in
    let is_right = line-asked g b page n.result n.ensures.0 l.x _ set_is c.line_is.ensures in
    record {
      result_value = line-wrong g b page c.args.m l.sets l.x c.loop-x-test.true l.invariant (sym is_right ∙ c.if-not-line_is.true);
      sets_read = λ e. refused-not-passed e;
    }

pub loop-x-preserved : goal.loop-x-preserved
loop-x-preserved c =
    let g = graph_of c.args.sheet.now in
    let b = block_shown c.args.shown in
    let page = c.args.page.now in
    let l = c.loop-x in
    let n = c.node_count-n in
    let set_is = line_set g b page n.result n.ensures.0 l.x _ _ _ n.ensures.2 c.all_nodes-used.ensures c.marks_of.ensures c.set_shown-set.ensures in
    let is_right = line-asked g b page n.result n.ensures.0 l.x _ set_is c.line_is.ensures in
    line_read g b page c.args.m l.sets l.x _ c.loop-x-test.true c.requires.1 l.invariant (sym is_right ∙ c.if-not-line_is.false) set_is

pub returns : goal.returns
returns c =
    let g = graph_of c.args.sheet.now in
    let b = block_shown c.args.shown in
    let l = c.loop-x in
    record {
      result_value = all_read g b c.args.page.now c.args.m l.sets l.x c.loop-x-test.false l.invariant;
      sets_read = λ e i k. l.invariant.read i (omega (arith, c.loop-x-test.false));
    }
