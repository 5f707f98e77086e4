use mathlib.Core.Path.{sym, ap, ◌∙◌}
use borrow.Author.Tests.{eq-eqb, ne_eqb}
use Rattle.std.specs.Prelude.{Ok}
use Rattle.read_words.proofs.end_of_text.Goals as goal

pub returns-then-item : goal.returns-then-item
returns-then-item c = record { value = sym (rw (ne_eqb _ _ c.if-item.true)); codes_after = λ e. absurd (c.if-item.true e) }

pub returns : goal.returns
returns c = record { value = ap Ok c.put.ensures.value ∙ sym (rw (eq-eqb _ _ c.if-item.false)); codes_after = λ i. c.put.ensures.output_after }
