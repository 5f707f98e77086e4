-- Item 4 of document 02 is kept.
use mathlib.Core.Path.{◌≡◌, sym, ◌∙◌, ap, ap₂, subst}
use mathlib.Core.Bool.{cond}
use mathlib.Core.List.{List, [], ◌++◌}
use Prim.Native.Nat.{ℕ}
use native.Mathlib.Omega.{arith}
use lib.Dec.{leb}
use lib.ListN.{length, take}
use Rattle.answer.specs.Asked.{refused}
use Rattle.printed.specs.AnswerLine.{answer_line, early_line}
use Rattle.log_blocks.specs.Log.{recorded, blocks_of, read_log}
use Rattle.log_blocks.specs.Faults.{edits_in}
use Rattle.log_blocks.specs.Replay.{edit_lines, sheet_held, stop_line, replay_lines, replay_sheet, log_start, sheet_in, book_in, log_in, replayed}
use Rattle.log_blocks.specs.Replays.{written}
use Rattle.log_blocks.proofs.CutLaws.{blocks-take}
use Rattle.log_blocks.proofs.Logs.{logs}
use Rattle.log_blocks.proofs.Answering.{kept_line, kept-sheet}
use Rattle.log_blocks.proofs.RoundLaws.{no_further}
use Rattle.log_blocks.proofs.FaultLaws.{Bad, Somewhere, after, ends_badly, first_bad, ends_well}
use Rattle.log_blocks.proofs.Replays.{replays}
use Rattle.promises.specs.Item4.{Faulty, Item4}

by_rounds : (input : List ℕ) → replayed input ≡ cond (leb (log_start input) (length input)) (written 0 [] (sheet_in input) (book_in input) (blocks_of (log_in input))) early_line
unfolding replayed
by_rounds input = ap (λ x. cond (leb (log_start input) (length input)) x early_line) (sym (replays.block_by_block (sheet_in input) (book_in input) (log_in input)))

module _ (bytes : List ℕ) (q p : ℕ) where
  of-bad : Bad 0 [] (blocks_of bytes) q p p → Faulty bytes q p
  of-bad b = record {
    within = b.within;
    before = b.before;
    there = b.at;
    counted = b.edits;
    cut_off = ap (λ ks. (recorded 0 [] ks).edits) (blocks-take p bytes) ∙ b.part;
  }

  faulty : (read_log bytes).ending ≡ refused q p → Faulty bytes q p
  faulty e = go (ends_badly 0 [] (blocks_of bytes) q p e) where
    go : Somewhere 0 [] (blocks_of bytes) q p → Faulty bytes q p
    go (after m b) = let d : m ≡ p = omega (arith, b.place) in of-bad (subst (Bad 0 [] (blocks_of bytes) q p) d b)

  module _ (sheet book : List ℕ) (e : (read_log bytes).ending ≡ refused q p) where
    bad_lines : replay_lines sheet book bytes ≡ edit_lines sheet book (edits_in (take p (blocks_of bytes))) ++ answer_line q p
    bad_lines = unfold replay_lines stop_line in ap₂ (λ x y. edit_lines sheet book x ++ stop_line y) (faulty e).counted e

    bad_sheet : replay_sheet sheet book bytes ≡ sheet_held sheet book (edits_in (take p (blocks_of bytes)))
    bad_sheet = unfold replay_sheet in ap (sheet_held sheet book) (faulty e).counted

pub item_4 : Item4
item_4 = record {
  logs = logs;
  replays = replays;
  by_rounds = by_rounds;
  no_further = λ number part sheet book block h. no_further number part sheet book block h;
  whole_line = kept_line;
  whole_sheet = kept-sheet;
  ends_badly = faulty;
  first_bad = λ bytes q p b e. first_bad 0 [] (blocks_of bytes) q p p b e;
  bad_lines = λ sheet book bytes q p e. bad_lines bytes q p sheet book e;
  bad_sheet = λ sheet book bytes q p e. bad_sheet bytes q p sheet book e;
  ends_well = λ bytes e. ends_well 0 [] (blocks_of bytes) e;
}
