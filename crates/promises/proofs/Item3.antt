-- Item 3 of document 02 is kept.
use Rattle.sheet.specs.Sheet.{present, graph_of}
use Rattle.sheet.proofs.SoundSheets.{sound-is-stored}
use Rattle.rewrite_counts.proofs.RewrittenTwice.{rewritten-again}
use Rattle.rewrite_counts.proofs.LeftAlone.{left_alone}
use Rattle.rewrite_counts.proofs.NoLonger.{text-no-longer}
use Rattle.rewrite_counts.proofs.RewrittenTruth.{on_every_sheet}
use Rattle.promises.specs.Item3.{Item3}

pub item_3 : Item3
item_3 = record {
  once = rewritten-again;
  left_alone = left_alone;
  no_longer = λ book bytes e. (text-no-longer book bytes e).0;
  on_every_sheet = λ sheet bytes sound. on_every_sheet (graph_of sheet) (sound-is-stored present sheet bytes sound).within;
}
