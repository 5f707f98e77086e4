-- Item 1 of document 02 is kept.
use mathlib.Core.List.{List}
use Prim.Native.Nat.{ℕ}
use Rattle.pages.specs.Typed.{Block, arrows, labels}
use Rattle.pages.proofs.ComesBack.{Printed, arrow-printed, labels-printed}
use Rattle.pages.proofs.AfterTyping.{block_number, sound-after, others-after}
use Rattle.pages.proofs.FromAnother.{accepted, becomes}
use Rattle.promises.specs.Item1.{TwoSheets, BecomesBlock, Item1}

becomes-block : (first second page : List ℕ) → TwoSheets first second → (b : Block) → Printed first page b → BecomesBlock first second page b (block_number b)
becomes-block first second page w b p =
    let done = accepted first second page w.first_bytes w.second_bytes w.sound w.alike b p in
    record {
      accepted = done;
      sound = sound-after second page w.second_bytes b done;
      becomes = becomes first second page w.first_bytes w.second_bytes w.sound w.alike b p;
      others = others-after second page w.second_bytes b done;
    }

pub item_1 : Item1
item_1 = record {
  arrow_page = λ first second page a room w e. becomes-block first second page w (arrows a) (arrow-printed first room page a e);
  label_page = λ first second page room w e. becomes-block first second page w labels (labels-printed first room page e);
}
