use borrow.Author.Rules.{rules}
use Rattle.notation.specs.Grammar.{phrases}
use Rattle.keywords.specs.Phrases.{all_phrases, first_of, count_of}
use Rattle.keywords.proofs.PickLaws.{part, code-picked, code-absent}
use Rattle.keywords.proofs.phrase_of.Goals as goal

pub overflow_add-end : goal.overflow_add-end
unfolding first_of count_of
overflow_add-end c = let ends = (part c.args.item c.requires.0 c.requires.1).ends in search rules

pub returns-in_err-p : goal.returns-in_err-p
unfolding first_of count_of all_phrases phrases
returns-in_err-p c = rw c.from_residual.ensures (code-absent c.args.item c.requires.0 c.requires.1 c.args.code c.in_err-p.ensures)

pub returns : goal.returns
unfolding first_of count_of all_phrases phrases
returns c = code-picked c.args.item c.requires.0 c.requires.1 c.args.code c.in_ok-p.ensures
