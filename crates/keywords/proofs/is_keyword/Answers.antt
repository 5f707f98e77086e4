use mathlib.Core.Path.{◌∙◌, ap}
use Rattle.std.specs.Prelude.{is_some}
use Rattle.names.specs.Token.{ascii}
use Rattle.notation.specs.Grammar.{phrases}
use Rattle.keywords.specs.Phrases.{all_phrases, words, in_slots, word_table}
use Rattle.keywords.proofs.WordSlots.{word-slots}
use Rattle.keywords.proofs.KeywordLaws.{keyword-found}
use Rattle.keywords.proofs.is_keyword.Goals as goal

pub find-requires : goal.find-requires
unfolding all_phrases phrases words in_slots word_table ascii
find-requires c = word-slots

pub returns : goal.returns
unfolding all_phrases phrases words in_slots word_table ascii
returns c = c.is_some.ensures ∙ ap is_some c.find.ensures ∙ keyword-found c.args.word.now
