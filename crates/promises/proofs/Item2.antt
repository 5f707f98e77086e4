-- Item 2 of document 02 is kept.
use mathlib.Core.Path.{ap, ◌∙◌}
use lib.ListN.{drop}
use Rattle.bitset.specs.Words.{bytes}
use Rattle.seal.specs.Seal.{modulo257, modulo255, sealed, stored}
use Rattle.seal.proofs.SealNoticed.{block_1, old_block_1}
use Rattle.sheet.specs.Sheet.{present, former, chunks, block}
use Rattle.sheet.proofs.BlankSheets.{block-1-without-arrows}
use Rattle.sheet.proofs.SheetNoticed.{every-caller-notices, every-caller-notices-exchange}
use Rattle.store.proofs.ConvertedLaws.{converted-sound, converted-reads, refused-stays}
use Rattle.promises.specs.Item2.{Item2}

pub item_2 : Item2
unfolding block chunks bytes sealed stored
item_2 = record {
  block_1 = λ sheet w. ap (drop 508) (block-1-without-arrows present sheet w.are_bytes w.sound w.none) ∙ ap (stored modulo257) block_1;
  old_block_1 = λ card w. ap (drop 510) (block-1-without-arrows (former modulo255) card w.are_bytes w.sound w.none) ∙ ap (stored modulo255) old_block_1;
  change_noticed = λ call asks sheet bytes sound. every-caller-notices sheet bytes sound call asks;
  exchange_noticed = λ call asks sheet bytes sound. every-caller-notices-exchange sheet bytes sound call asks;
  converted_is_sound = converted-sound;
  converted_keeps_the_graph = converted-reads;
  refused_card_stays = refused-stays;
}
