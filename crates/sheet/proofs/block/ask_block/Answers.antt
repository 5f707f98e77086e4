use mathlib.Core.Path.{sym, ◌∙◌}
use native.Mathlib.Omega.{arith}
use borrow.Author.Rules.{rules}
use Rattle.answer.specs.Asked.{is, ◌>>◌}
use Rattle.sheet.specs.Questions.{ask_block_def}
use Rattle.sheet.proofs.BareBlocks.{blank-passes}
use Rattle.sheet.proofs.block.ask_block.Goals as goal

pub returns-then-blank_arrow : goal.returns-then-blank_arrow
returns-then-blank_arrow c = λ nodes told.
    let pre = c.requires in
    sym (blank-passes _ (λ p. omega (arith, c.type_inv.block p)) pre.0 _ pre.3 _ (sym c.blank_arrow.ensures ∙ c.if-blank_arrow.true) _ _ nodes)

pub returns-then-not-seal_right : goal.returns-then-not-seal_right
unfolding ask_block_def is ◌>>◌
returns-then-not-seal_right c = λ nodes told. search rules

pub returns-then-not-head_right : goal.returns-then-not-head_right
unfolding ask_block_def is ◌>>◌
returns-then-not-head_right c = λ nodes told. let headed = c.head_right.ensures _ _ nodes told in search rules

pub returns-then-not-zero_right : goal.returns-then-not-zero_right
unfolding ask_block_def is ◌>>◌
returns-then-not-zero_right c = λ nodes told.
    let headed = c.head_right.ensures _ _ nodes told in
    let all = told.word (c.requires.1 (sym headed ∙ c.if-not-head_right.false)) in
    let zeros = c.zero_right.ensures nodes told.below all in
    search rules

pub returns : goal.returns
unfolding ask_block_def is ◌>>◌
returns c = λ nodes told.
    let headed = c.head_right.ensures _ _ nodes told in
    let all = told.word (c.requires.1 (sym headed ∙ c.if-not-head_right.false)) in
    let zeros = c.zero_right.ensures nodes told.below all in
    search rules
