use mathlib.Core.Path.{sym, subst}
use lib.ListN.{length}
use Rattle.text.specs.Part.{Part}
use Rattle.judge.proofs.PartLaws.{EndsBy, judged-inside}
use Rattle.judge.proofs.judge.Goals as goal

pub part_of-requires : goal.part_of-requires
part_of-requires c = subst (λ (p : Part). EndsBy p (length c.args.book.now)) (sym c.decide-v.ensures.1) (judged-inside _ _)
