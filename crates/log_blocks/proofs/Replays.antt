-- A replay is the run of its edits; stopping and going on; block by block.
use mathlib.Core.Path.{◌≡◌, refl, sym, ◌∙◌, ap, ap₂, subst}
use mathlib.Core.Bool.{cond}
use mathlib.Core.List.{List, [], ◌∷◌, ◌++◌, append_assoc}
use Prim.Native.Nat.{ℕ, suc, ◌≤◌, ◌/◌}
use lib.ListN.{length, take, drop, length-replicate, take-append-drop}
use Rattle.answer.specs.Asked.{Asked, passed, refused}
use Rattle.printed.specs.AnswerLine.{asked_line}
use Rattle.runs.specs.Clerk.{Line}
use Rattle.runs.specs.Enter.{enter_answer, enter_sheet}
use Rattle.bitset.specs.Words.{Bytes}
use Rattle.runs.specs.Run.{Keeps, Call, log}
use Rattle.logic.specs.Lists.{All}
use Rattle.runs.proofs.Demand3.{demand_3}
use Rattle.printed.specs.Printed.{scratch_bytes, printed_line, printed_sheet}
use Rattle.log_blocks.specs.Log.{content, is_begun, ask_log_block, ask_log_end, Recorded, follows, recorded, blocks_of, read_log}
use Rattle.log_blocks.specs.Stops.{part_of, rest_of}
use Rattle.log_blocks.specs.Taken.{kept, kept_behind}
use Rattle.log_blocks.specs.Replay.{edit_lines, sheet_held, stop_line, replay_lines, replay_sheet}
use Rattle.log_blocks.specs.Round.{Round, due, stopped, replay_round}
use Rattle.log_blocks.specs.Replays.{program_scratch, calls, printed_log, last_sheet, written, Replays}
use Rattle.log_blocks.proofs.ReadLaws.{read-bad, read-last, read_more, each-log}
use Rattle.log_blocks.proofs.CutLaws.{Filled, blocks-filled}
use Rattle.log_blocks.proofs.RoundLaws.{round-bad, round-last, round-more}
use Rattle.log_blocks.proofs.KeptLaws.{kept-begun, kept_append}
use Rattle.log_blocks.proofs.Answering.{kept_line, kept-sheet}
use Rattle.log_blocks.proofs.Logs.{logs}

-- the program's scratch has the room that the lines assume
room : length program_scratch ≡ scratch_bytes
room = unfold program_scratch in length-replicate {A = ℕ} scratch_bytes 0

abbrev call : List ℕ → Call
call edit = record { edit = edit; scratch = program_scratch }

pub lines-of : (sheet book : List ℕ) (edits : List (List ℕ)) → edit_lines sheet book edits ≡ printed_log (log book sheet (calls edits))
unfolding edit_lines printed_log log
lines-of sheet book [] = refl
lines-of sheet book (edit ∷ edits) =
    ap (printed_line sheet book edit ++◌) (lines-of (printed_sheet sheet book edit) book edits)
    ∙ ap (λ n. asked_line (enter_answer sheet book edit n) ++ printed_log (log book (enter_sheet sheet book edit n) (calls edits))) (sym room)

pub held-is : (sheet book : List ℕ) (edits : List (List ℕ)) → sheet_held sheet book edits ≡ last_sheet sheet (log book sheet (calls edits))
unfolding sheet_held last_sheet log
held-is sheet book [] = refl
held-is sheet book (edit ∷ edits) =
    held-is (printed_sheet sheet book edit) book edits ∙ ap (λ n. last_sheet (enter_sheet sheet book edit n) (log book (enter_sheet sheet book edit n) (calls edits))) (sym room)

-- the last of sheets that all keep the book
last-keeps : (book sheet : List ℕ) (ls : List Line) → Keeps book sheet → All (λ l. Keeps book l.sheet) ls → Keeps book (last_sheet sheet ls)
unfolding last_sheet
last-keeps book sheet [] k e = k
last-keeps book sheet (l ∷ ls) k e = last-keeps book l.sheet ls e.0 e.1

-- edits in two parts
held-parts : (sheet book : List ℕ) (a b : List (List ℕ)) → sheet_held (sheet_held sheet book a) book b ≡ sheet_held sheet book (a ++ b)
unfolding sheet_held
held-parts sheet book [] b = refl
held-parts sheet book (edit ∷ a) b = held-parts (printed_sheet sheet book edit) book a b

stop-and-go : (sheet book bytes : List ℕ) (i : ℕ) → i ≤ length (read_log bytes).edits → length bytes / 512 ≤ 65535
    → replay_sheet (replay_sheet sheet book (part_of i bytes)) book (rest_of i bytes) ≡ replay_sheet sheet book bytes
unfolding replay_sheet
stop-and-go sheet book bytes i h few =
    ap₂ (λ a b. sheet_held (sheet_held sheet book a) book b)
    (ap (λ (r : Recorded). r.edits) (logs.part_read bytes i h))
    (ap (λ (r : Recorded). r.edits) (logs.rest_read bytes i h few))
    ∙ held-parts sheet book (take i (read_log bytes).edits) (drop i (read_log bytes).edits)
    ∙ ap (sheet_held sheet book) (take-append-drop i (read_log bytes).edits)

-- block by block
module _ (book : List ℕ) where
  all : List ℕ → Recorded → List ℕ
  all sheet r = edit_lines sheet book r.edits ++ stop_line r.ending ++ sheet_held sheet book r.edits

  follows-all : (sheet edit : List ℕ) (r : Recorded) → all sheet (follows edit r) ≡ printed_line sheet book edit ++ all (printed_sheet sheet book edit) r
  follows-all sheet edit r = unfold all edit_lines sheet_held in simp append_assoc

  -- a stop writes its line and the sheet
  stop-writes : (x : Asked (Unit {0})) (number : ℕ) (part sheet : List ℕ) → due (stopped x number part sheet) ++ (stopped x number part sheet).sheet ≡ stop_line x ++ sheet
  unfolding due stopped stop_line
  stop-writes (passed u) number part sheet = refl
  stop-writes (refused q p) number part sheet = refl

  -- a round writes its line and goes on, or writes the sheet
  abbrev onward : List (List ℕ) → Round → List ℕ
  onward ks s = due s ++ cond s.goes_on_def (written s.number s.part s.sheet book ks) s.sheet

  module _ (number : ℕ) (g k : List ℕ) where
    asked-alike : ask_log_block (is_begun (kept g)) number k ≡ ask_log_block (is_begun g) number k
    asked-alike = ap (λ b. ask_log_block b number k) (kept-begun g)

    kept-alike : kept_behind (kept g) k ≡ kept (g ++ content k)
    kept-alike = unfold kept_behind in kept_append g (content k)

  block_by_block : (number : ℕ) (g : List ℕ) (ks : List (List ℕ)) (sheet : List ℕ) → Filled ks → written number (kept g) sheet book ks ≡ all sheet (recorded number g ks)
  unfolding written recorded all edit_lines sheet_held kept replay_round due stopped stop_line
  block_by_block = each-log (λ number g ks. (sheet : List ℕ) → Filled ks → written number (kept g) sheet book ks ≡ all sheet (recorded number g ks))
      (λ number g sheet h. stop-writes (ask_log_end (is_begun (kept g)) number) number (kept g) sheet ∙ ap (λ b. stop_line (ask_log_end b number) ++ sheet) (kept-begun g))
      (λ number g k ks q p e sheet h. ap (onward ks) (round-bad number (kept g) sheet book k h.0 q p (asked-alike number g k ∙ e)) ∙ ap (all sheet) (sym (read-bad number g k ks q p e)))
      (λ number g k ks e l on sheet h.
      let edit : List ℕ = g ++ content k in
      ap (onward ks) (round-last number (kept g) sheet book k h.0 (asked-alike number g k ∙ e) l)
      ∙ ap (λ x. printed_line sheet book x ++ written (suc number) [] (printed_sheet sheet book x) book ks) (kept-alike number g k)
      ∙ ap₂ (λ x y. x ++ written (suc number) [] y book ks) (kept_line sheet book edit) (kept-sheet sheet book edit)
      ∙ ap (printed_line sheet book edit ++◌) (on (printed_sheet sheet book edit) h.1)
      ∙ sym (follows-all sheet edit (recorded (suc number) [] ks)) ∙ ap (all sheet) (sym (read-last number g k ks e l)))
      (λ number g k ks e l on sheet h.
      ap (onward ks) (round-more number (kept g) sheet book k h.0 (asked-alike number g k ∙ e) l) ∙ ap (λ x. written (suc number) x sheet book ks) (kept-alike number g k)
      ∙ on sheet h.1 ∙ ap (all sheet) (sym (read_more number g k ks e l)))

module _ (sheet book bytes : List ℕ) where
  lines_run : replay_lines sheet book bytes ≡ printed_log (log book sheet (calls (read_log bytes).edits)) ++ stop_line (read_log bytes).ending
  lines_run = unfold replay_lines in ap (◌++ stop_line (read_log bytes).ending) (lines-of sheet book (read_log bytes).edits)

  sheet_run : replay_sheet sheet book bytes ≡ last_sheet sheet (log book sheet (calls (read_log bytes).edits))
  sheet_run = unfold replay_sheet in held-is sheet book (read_log bytes).edits

  sheet_keeps : Bytes sheet → Keeps book sheet → Keeps book (replay_sheet sheet book bytes)
  sheet_keeps b k =
      subst (Keeps book) (sym sheet_run)
      (last-keeps book sheet (log book sheet (calls (read_log bytes).edits)) k (demand_3.every_run sheet book (calls (read_log bytes).edits) b k).kept)

  in_blocks : written 0 [] sheet book (blocks_of bytes) ≡ replay_lines sheet book bytes ++ replay_sheet sheet book bytes
  in_blocks = unfold replay_lines replay_sheet all kept in block_by_block book 0 [] (blocks_of bytes) sheet (blocks-filled bytes)

pub replays : Replays
replays = record {
  lines_run = lines_run;
  sheet_run = sheet_run;
  run_right = λ sheet book bytes b k. demand_3.every_run sheet book (calls (read_log bytes).edits) b k;
  sheet_keeps = sheet_keeps;
  stop_and_go_on = stop-and-go;
  block_by_block = in_blocks;
}
