use mathlib.Core.Path.{sym, ◌∙◌}
use native.Mathlib.Omega.{arith}
use Rattle.names.proofs.ScannerLaws.{next-ended, next-mark, next-letter, next_word}
use Rattle.names.proofs.next.Goals as goal

pub returns-then-from-text : goal.returns-then-from-text
returns-then-from-text c = next-ended c.skip-from.ensures (omega arith)

pub returns-then-is_mark : goal.returns-then-is_mark
returns-then-is_mark c = next-mark c.skip-from.ensures (omega arith) (sym c.is_mark.ensures ∙ c.if-is_mark.true)

pub word_end-requires : goal.word_end-requires
word_end-requires c = (omega arith, next-letter c.skip-from.ensures (omega arith) (sym c.is_mark.ensures ∙ c.if-is_mark.false))

pub returns : goal.returns
returns c = next_word c.skip-from.ensures c.word_end.ensures
