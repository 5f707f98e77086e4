use lib.ListN.{get_or-map}
use Rattle.notation.specs.Grammar.{phrases}
use Rattle.keywords.specs.Phrases.{all_phrases, phrase_at, no_phrase}
use Rattle.keywords.proofs.code_at.Goals as goal

pub returns : goal.returns
unfolding all_phrases phrases phrase_at
returns c = get_or-map (λ r. r.byte) all_phrases c.args.p no_phrase
