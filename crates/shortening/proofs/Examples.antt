-- By computation.
use mathlib.Core.Path.{◌≡◌, refl}
use Rattle.logic.specs.Arity.{numbers1, numbers2, by_arity}
use Rattle.text.specs.Code.{code}
use Rattle.text.specs.Heads.{head1, head2}
use Rattle.shortening.specs.Raw.{forget, same_term}
use Rattle.shortening.specs.Laws.{operands, laws, numbered}
use Rattle.answer.specs.Asked.{◌>>=◌}
use Rattle.shortening.specs.Questions.{ask_steps, ask_same, ask_chain}
use Rattle.shortening.specs.Checking.{map_made, by_law, at_root, in_one, in_two, make_step, make_steps}
use Rattle.shortening.specs.Examples.{shortened, results, checks, checks_are}

pub examples : shortened ≡ results
unfolding shortened results make_steps make_step at_root in_one in_two by_law map_made numbered laws operands same_term forget code native.Mathlib.Decide.ℕ_discrete by_arity head1 head2
examples = refl

pub checks-right : checks ≡ checks_are
unfolding checks checks_are ask_chain ask_steps ask_same ◌>>=◌ make_step at_root in_one in_two by_law map_made numbered laws operands same_term forget code native.Mathlib.Decide.ℕ_discrete by_arity head1 head2
checks-right = refl
