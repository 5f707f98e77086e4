use borrow.Author.Rules.{rules}
use Rattle.names.specs.Token.{ascii}
use Rattle.notation.specs.Grammar.{phrases}
use Rattle.buffers.proofs.FoundLaws.{found-below}
use Rattle.keywords.specs.Phrases.{all_phrases, first_of, count_of, words, in_slots, word_table}
use Rattle.keywords.proofs.PickLaws.{part, part-slots, word-picked, word-absent}
use Rattle.keywords.proofs.phrase_for.Goals as goal

pub find-requires : goal.find-requires
unfolding first_of count_of all_phrases phrases words in_slots word_table ascii
find-requires c = part-slots c.args.item c.requires.0 c.requires.1

pub returns-in_err-x : goal.returns-in_err-x
unfolding first_of count_of all_phrases phrases words in_slots word_table ascii
returns-in_err-x c = rw c.from_residual.ensures (word-absent c.args.item c.requires.0 c.requires.1 c.args.word.now c.in_err-x.ensures)

pub overflow_add-result : goal.overflow_add-result
unfolding first_of count_of
overflow_add-result c =
    let ends = (part c.args.item c.requires.0 c.requires.1).ends in
    let below = found-below _ _ _ c.in_ok-x.ensures in
    search rules

pub returns : goal.returns
unfolding first_of count_of all_phrases phrases words in_slots word_table ascii
returns c = word-picked c.args.item c.requires.0 c.requires.1 c.args.word.now c.in_ok-x.ensures
