use Rattle.std.proofs.Common.{sym, ap, ◌∙◌, ◌+◌, ◌*◌, ◌≤◌, arith, length}
use Rattle.answer.specs.Outputs.{written_at_start}
use Rattle.sheet.specs.Sheet.{graph_of, chunks}
use Rattle.bitset.specs.Words.{set_of}
use Rattle.pages.specs.Page.{set_line}
use Rattle.pages.specs.Typed.{block_shown, lines_of}
use Rattle.pages.specs.Prints.{set_at, page_lines}
use Rattle.pages.proofs.LineLaws.{set_line-word}
use Rattle.pages.proofs.PageLaws.{grown-first, grown-next, grown-last}
use Rattle.pages.proofs.print.put_lines.Goals as goal

pub loop-x-init : goal.loop-x-init
loop-x-init c = grown-first

pub loop-x-preserved : goal.loop-x-preserved
loop-x-preserved c =
    let set = set_at (graph_of c.args.sheet.now) (block_shown c.args.shown) c.loop-x.x in
    let room : 64 * c.loop-x.x + 64 ≤ length c.args.out.now = omega (arith, c.requires, c.loop-x-test.true) in
    let line : _ = c.put_line.ensures ∙ set_line-word c.args.n c.loop-x.x set _ (c.line_word.ensures ∙ ap (λ m. set_of m set) (sym c.requires.1)) in
    grown-next c.loop-x.invariant room line

pub returns : goal.returns
unfolding page_lines
returns c =
    let s = c.args in
    let l = c.loop-x in
    let set = set_at (graph_of s.sheet.now) (block_shown s.shown) in
    grown-last l.invariant s.m l.auto.x-end c.loop-x-test.false
    ∙ ap (λ m. written_at_start (chunks m 0 (λ j. set_line s.n j (set j))) s.out.now) c.requires.3
    ∙ ap (λ n. written_at_start (chunks (lines_of n (block_shown s.shown)) 0 (λ j. set_line n j (set j))) s.out.now) c.requires.1
