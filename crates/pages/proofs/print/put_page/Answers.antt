use Rattle.std.proofs.Common.{◌≡◌, sym, ◌∙◌, ap, ◌++◌, ◌+◌, ◌*◌, arith, length, rules}
use Rattle.answer.specs.Asked.{after, is, ◌>>◌, ◌>>=◌}
use Rattle.answer.specs.Outputs.{ask_room, written_length, written_output, written_at_start}
use Rattle.answer.proofs.OutputLaws.{room-enough, is-written}
use Rattle.sheet.specs.Sheet.{graph_of}
use Rattle.pages.specs.Typed.{block_shown, head_of, lines_of}
use Rattle.pages.specs.Prints.{page_lines, page_of}
use Rattle.pages.proofs.PageLaws.{length-head_of}
use Rattle.pages.proofs.PageParts.{page-is, length-page}
use Rattle.pages.proofs.PrintLaws.{page-put}
use Rattle.pages.proofs.print.put_page.Goals as goal

pub returns-then-out-size : goal.returns-then-out-size
unfolding ask_room written_length written_output after is ◌>>◌ ◌>>=◌
returns-then-out-size c =
    let g = graph_of c.args.sheet.now in
    let b = block_shown c.args.shown in
    let m : c.lines_of-m.result ≡ lines_of g.n b = c.lines_of-m.ensures.0 ∙ ap (λ n. lines_of n b) c.node_count-n.ensures.0 in
    let size : 64 * c.lines_of-m.result + 64 ≡ length (page_of g b) = omega (arith, m, length-page g b) in
    search rules

pub returns : goal.returns
returns c =
    let g = graph_of c.args.sheet.now in
    let b = block_shown c.args.shown in
    let out = c.args.out.now in
    let m : c.lines_of-m.result ≡ lines_of g.n b = c.lines_of-m.ensures.0 ∙ ap (λ n. lines_of n b) c.node_count-n.ensures.0 in
    let size : 64 * c.lines_of-m.result + 64 ≡ length (page_of g b) = omega (arith, m, length-page g b) in
    let head : length c.put_head_of.new.line ≡ 64 = ap length c.put_head_of.ensures ∙ length-head_of c.node_count-n.result b in
    let page = page_of g b in
    let enough = c.if-out-size.false in
    let w = is-written (ask_room page (length out)) out page _ (room-enough page (length out) _ size enough) size in
    let whole = ap (◌++ page_lines g b) (c.put_head_of.ensures ∙ ap (λ n. head_of n b) c.node_count-n.ensures.0) ∙ sym (page-is g b) in
    record {
      result_value = w.0;
      out_after = page-put out c.put_head_of.new.line head (omega (arith, enough)) (page_lines g b) _ c.put_lines.ensures ∙ ap (λ p. written_at_start p out) whole ∙ w.1;
    }
