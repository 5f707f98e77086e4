-- The table of examples, by computation from the bytes.
use mathlib.Core.Path.{◌≡◌, refl}
use Rattle.answer.specs.Asked.{◌>>=◌, ◌>>◌, is, after, outcome}
use Rattle.logic.specs.Graph.{is_node, any_below, all_below, count_below}
use Rattle.logic.specs.Meaning.{value, hold_all}
use Rattle.logic.specs.Steps.{update, run}
use Rattle.bitset.specs.Words.{member}
use Rattle.logic.specs.Arity.{by_arity}
use Rattle.text.specs.Reading.{codes, choice, follow}
use Rattle.text.specs.Reading as reading
use Rattle.text.specs.Questions.{whole, read_rules, ask_book, ask_one}
use Rattle.text.specs.Heads.{head1, head2}
use Rattle.tree.specs.Tree.{tree, bare}
use Rattle.count_small.specs.Small.{small_sheet, four_of, four_counts}
use Rattle.count_small.specs.Names.{only_first, rules_only_first, edit_only_first}
use Rattle.count_small.specs.Questions.{ask_count, counts_of}
use Rattle.count_small.specs.Examples.{cases, cases_are, case_of2, case_of2_is, answers, answers_are}

pub cases-right : cases ≡ cases_are
unfolding cases counts_of after ask_count ask_book ask_one read_rules whole ◌>>=◌ ◌>>◌ is codes choice follow reading.◌>>=◌ only_first rules_only_first edit_only_first tree by_arity bare head1 head2 four_counts four_of count_below hold_all small_sheet member value is_node any_below all_below run update
cases-right = refl

pub case-of-2 : case_of2 ≡ case_of2_is
unfolding case_of2 counts_of after ask_count ask_book ask_one read_rules whole ◌>>=◌ ◌>>◌ is codes choice follow reading.◌>>=◌ only_first rules_only_first edit_only_first tree by_arity bare head1 head2 four_counts four_of count_below hold_all small_sheet member value is_node any_below all_below run update
case-of-2 = refl

pub answers-right : answers ≡ answers_are
unfolding answers outcome ask_count ask_book ask_one read_rules whole ◌>>=◌ ◌>>◌ is codes choice follow reading.◌>>=◌ only_first rules_only_first edit_only_first tree by_arity bare head1 head2
answers-right = refl
