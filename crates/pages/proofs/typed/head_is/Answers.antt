use Rattle.std.proofs.Common.{rules, sym, ◌∙◌, ap, ◌+◌, ◌*◌, take}
use Rattle.seal.specs.Seal.{same_bytes}
use Rattle.pages.specs.Typed.{block_shown, head_is_def}
use Rattle.pages.proofs.LineLaws.{equal_bytes}
use Rattle.pages.proofs.TypeLaws.{head-same}
use Rattle.pages.proofs.typed.head_is.Goals as goal

pub returns-then-page-lines_of : goal.returns-then-page-lines_of
unfolding head_is_def
returns-then-page-lines_of c = search rules

pub returns : goal.returns
returns c =
    let s = c.args in
    let size = ap (λ m. 64 * m + 64) c.lines_of.ensures.0 in
    c.eq.ensures ∙ equal_bytes _ _ ∙ ap (same_bytes (take 64 s.page.now)) (c.as_slice.ensures ∙ c.put_head_of.ensures)
    ∙ sym (head-same s.n s.page.now (block_shown s.shown) (c.if-page-lines_of.false ∙ size))
