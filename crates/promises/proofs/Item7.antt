-- Item 7 of document 02 is kept.
use mathlib.Core.Path.{sym, subst}
use Rattle.promises.proofs.EventKept.{Good, good_right}
use Rattle.promises.proofs.GivenBack.{gives_back, gives_back_from, is-returned}
use Rattle.promises.proofs.Plans.{planned-right}
use Rattle.promises.proofs.Returns.{place-good}
use Rattle.promises.specs.Item7.{Item7}

pub item_7 : Item7
item_7 = record {
  gives_back = gives_back;
  gives_back_from = gives_back_from;
  run_opens = λ sheet store name book b e.
      let g = subst (Good book) (sym (is-returned sheet store book name e)) (place-good book sheet store name b e) in
      (g.keeps, λ calls. good_right book _ calls g);
  planned = planned-right;
}
