use mathlib.Core.Path.{sym, ◌∙◌, ap, subst}
use native.Mathlib.Omega.{arith}
use Rattle.names.specs.Token.{ascii}
use Rattle.notation.specs.Grammar.{phrases}
use Rattle.keywords.specs.Phrases.{all_phrases, words, in_slots, word_table}
use Rattle.print_words.specs.Opening.{words_at, IsWord}
use Rattle.print_words.specs.Added.{Added}
use Rattle.print_words.proofs.AddedLaws.{none-added, no_word, word-there, word-short, word-added}
use Rattle.print_words.proofs.print.put_word.Goals as goal

pub returns-in_default : goal.returns-in_default
returns-in_default c = none-added _ _ _ (ap words_at c.in_default.is ∙ no_word)

pub slot-token-requires : goal.slot-token-requires
unfolding all_phrases phrases words in_slots word_table ascii
slot-token-requires c = word-there _ (subst IsWord c.in-Some.is c.requires.1)

pub put_token-requires : goal.put_token-requires
unfolding all_phrases phrases words in_slots word_table ascii
put_token-requires c =
    let q = c.requires.0 in
    let h = word-short c.in-Some.word (subst IsWord c.in-Some.is c.requires.1) c.slot-token.ensures in
    (omega (arith, h, q.sizes), q.brackets, q.ifs)

pub returns : goal.returns
unfolding all_phrases phrases words in_slots word_table ascii
returns c =
    let t = c.put_token.ensures in
    subst (λ w. Added c.args.state (words_at w) c.put_token.result c.args.output.now c.put_token.new.output) (sym c.in-Some.is)
    (word-added c.in-Some.word (subst IsWord c.in-Some.is c.requires.1) c.slot-token.ensures t.after t.output_after)
