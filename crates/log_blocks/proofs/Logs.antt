-- Logs by their bytes.
use mathlib.Core.Path.{◌≡◌, refl, sym, ◌∙◌, ap}
use mathlib.Core.Bool.{Bool, true, false}
use mathlib.Core.List.{List, [], ◌∷◌, ◌++◌}
use Prim.Native.Nat.{ℕ, zero, suc, ◌+◌, ◌≤◌, ◌<◌, ◌*◌, ◌/◌}
use native.Mathlib.Omega.{arith}
use native.Mathlib.Decide.{dec_lt}
use borrow.Author.Tests.{leb-true, leb-false}
use lib.Dec.{leb}
use lib.ListN.{length, take, drop, length-take, length-drop, drop_of_length-le}
use lib.Seq.{get_or-drop}
use Rattle.answer.specs.Asked.{passed}
use Rattle.logic.specs.Lists.{All}
use Rattle.bitset.specs.Words.{Bytes}
use Rattle.bitset.proofs.WordLaws.{part_small}
use Rattle.log_blocks.specs.Log.{recorded, cut, blocks_of, read_log}
use Rattle.log_blocks.specs.Making.{edit_blocks, log_blocks, joined, CanHold, log_of}
use Rattle.log_blocks.specs.Stops.{blocks_to, rest_of, renumbered}
use Rattle.log_blocks.specs.Logs.{Logs}
use Rattle.log_blocks.proofs.CutLaws.{blocks-nil, blocks_at, blocks-drop, blocks-take, joined-blocks}
use Rattle.log_blocks.proofs.MakeLaws.{block-whole}
use Rattle.log_blocks.proofs.ReadLaws.{Few, few-behind, further}
use Rattle.log_blocks.proofs.StopLaws.{stops}
use Rattle.log_blocks.proofs.LogReadBack.{one_block, more-blocks, log-read}
use Rattle.log_blocks.proofs.OneLog.{log_is}

-- blocks that are made are whole
abbrev Whole : List (List ℕ) → Type 0
Whole = All (λ k. length k ≡ 512)

whole-cut : (ks : List (List ℕ)) → Whole ks → blocks_of (joined ks) ≡ ks
unfolding joined
whole-cut [] w = blocks-nil
whole-cut (k ∷ ks) w = blocks_at k (joined ks) w.0 ∙ ap (k ∷◌) (whole-cut ks w.1)

both-whole : (a b : List (List ℕ)) → Whole a → Whole b → Whole (a ++ b)
both-whole [] b w v = v
both-whole (k ∷ a) b w v = (w.0, both-whole a b w.1 v)

edit-whole : (most mark : ℕ) (edit : List ℕ) → Whole (edit_blocks most mark edit)
unfolding edit_blocks
edit-whole zero mark edit = tt
edit-whole (suc most) mark edit = go (leb (length edit) 504) refl (edit-whole most 0 (drop 504 edit)) where
  go : (y : Bool) → leb (length edit) 504 ≡ y → Whole (edit_blocks most 0 (drop 504 edit)) → Whole (edit_blocks (suc most) mark edit)
  go true y on = rw (one_block most mark edit (leb-true (length edit) 504 y)) (block-whole (mark + 2) edit (leb-true (length edit) 504 y), tt)
  go false y on = rw (more-blocks most mark edit (leb-false (length edit) 504 y)) (block-whole mark (take 504 edit) (omega (arith, length-take 504 edit)), on)

log-whole : (edits : List (List ℕ)) → Whole (log_blocks edits)
unfolding log_blocks
log-whole [] = tt
log-whole (edit ∷ edits) = both-whole (edit_blocks (length edit) 1 edit) (log_blocks edits) (edit-whole (length edit) 1 edit) (log-whole edits)

-- blocks of bytes are cut from bytes
cut-bytes : (f : ℕ) (l : List ℕ) → Bytes l → All Bytes (cut f l)
unfolding cut
cut-bytes zero l b = tt
cut-bytes (suc f) [] b = tt
cut-bytes (suc f) (x ∷ l) b = (part_small (x ∷ l) 512 0 b, cut-bytes f (drop 512 (x ∷ l)) (λ p. rw (get_or-drop 512 (x ∷ l) p 0) (b (512 + p))))

one_log : (log : List ℕ) → Bytes log → (read_log log).ending ≡ passed tt → (log ≡ log_of (read_log log).edits) × CanHold (read_log log).edits
unfolding blocks_of
one_log log b e =
    let r = log_is 0 (blocks_of log) (cut-bytes (length log) log b) e in
    (sym (joined-blocks log) ∙ ap joined r.0, r.1)

-- the rest of a log, read by itself
few-cut : (f n : ℕ) (l : List ℕ) → 512 * n + length l < 512 * 65536 → Few n (cut f l)
unfolding Few cut
few-cut zero n l h = tt
few-cut (suc f) n [] h = tt
few-cut (suc f) n (x ∷ l) h = (λ e. omega (arith, length-take 512 (x ∷ l)), go (dec_lt (length (x ∷ l)) 512) (λ d. few-cut f (suc n) (drop 512 (x ∷ l)) d)) where
  none : (f : ℕ) → Few (suc n) (cut f [])
  none zero = tt
  none (suc f) = tt

  go : Dec (length (x ∷ l) < 512) → (512 * suc n + length (drop 512 (x ∷ l)) < 512 * 65536 → Few (suc n) (cut f (drop 512 (x ∷ l)))) → Few (suc n) (cut f (drop 512 (x ∷ l)))
  go (yes d) on = rw (drop_of_length-le (x ∷ l) {i = 512} (omega arith)) (none f)
  go (no d) on = on (omega (arith, length-drop 512 (x ∷ l)))

rest_read : (log : List ℕ) (i : ℕ) → i ≤ length (read_log log).edits → length log / 512 ≤ 65535
    → renumbered (blocks_to i (blocks_of log)) (read_log (rest_of i log)) ≡ record { edits = drop i (read_log log).edits; ending = (read_log log).ending }
unfolding blocks_of
rest_read log i h few =
    let ks : List (List ℕ) = blocks_of log in
    let m : ℕ = blocks_to i ks in
    let z : m + 0 ≡ 0 + m = omega arith in
    ap (λ x. renumbered m (recorded 0 [] x)) (blocks-drop m log)
    ∙ sym (further m 0 [] (drop m ks) (few-behind m 0 ks (few-cut (length log) 0 log (omega arith))))
    ∙ ap (λ n. recorded n [] (drop m ks)) z ∙ (stops 0 ks i h).rest

pub logs : Logs
logs = record {
  read_back = λ edits c h. ap (recorded 0 []) (whole-cut (log_blocks edits) (log-whole edits)) ∙ log-read 0 edits c (omega arith);
  one_log = one_log;
  part_read = λ log i h. ap (recorded 0 []) (blocks-take (blocks_to i (blocks_of log)) log) ∙ (stops 0 (blocks_of log) i h).part;
  rest_read = rest_read;
}
