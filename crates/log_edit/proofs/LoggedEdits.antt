-- What is read from the blocks of an edit, alone or after a log.
use mathlib.Core.Path.{◌≡◌, refl, sym, ◌∙◌, ap, ap₂}
use mathlib.Core.List.{List, [], ◌∷◌, ◌++◌, append_assoc}
use Prim.Native.Nat.{ℕ, suc, ◌*◌, ◌≤◌, ◌<◌}
use native.Mathlib.Omega.{arith}
use borrow.Author.Tests.{ltb-true, leb-true}
use lib.ListN.{length, length-append}
use Rattle.answer.specs.Asked.{passed}
use Rattle.answer.specs.Outputs.{ask_room}
use Rattle.answer.proofs.AskedLaws.{passed-same, is-then}
use Rattle.bitset.specs.Words.{Bytes}
use Rattle.seal.specs.Seal.{block_bytes}
use Rattle.text.specs.Reading.{longest_text}
use Rattle.log_blocks.specs.Log.{last_number, read_log}
use Rattle.log_blocks.specs.Making.{edit_blocks, log_blocks, joined, log_of, CanHold}
use Rattle.log_blocks.proofs.Logs.{logs}
use Rattle.log_edit.specs.LogEdit.{ask_log_edit}
use Rattle.log_edit.specs.LoggedEdits.{LoggedEdits}
use Rattle.log_edit.proofs.EditBlocks.{blocks-sized, log-length}

-- what passing means
record Passed (edit bytes : List ℕ) : Type 0 where
  some : 0 < length edit
  short : length edit ≤ longest_text
  bytes-are : bytes ≡ log_of (edit ∷ [])

passes : (edit : List ℕ) (room : ℕ) (bytes : List ℕ) → ask_log_edit edit room ≡ passed bytes → Passed edit bytes
unfolding ask_log_edit ask_room
passes edit room bytes h =
    let (some, e) = is-then _ _ _ _ h in
    let (short, f) = is-then _ _ _ _ e in
    let (fits, same) = is-then _ _ _ _ f in
    record { some = ltb-true 0 (length edit) some; short = leb-true (length edit) longest_text short; bytes-are = sym (passed-same same) }

-- logs one after the other
joined-both : (a b : List (List ℕ)) → joined (a ++ b) ≡ joined a ++ joined b
unfolding joined
joined-both [] b = refl
joined-both (k ∷ a) b = ap (k ++◌) (joined-both a b) ∙ sym (append_assoc k (joined a) (joined b))

blocks-both : (a b : List (List ℕ)) → log_blocks (a ++ b) ≡ log_blocks a ++ log_blocks b
unfolding log_blocks
blocks-both [] b = refl
blocks-both (edit ∷ a) b = ap (edit_blocks (length edit) 1 edit ++◌) (blocks-both a b) ∙ sym (append_assoc (edit_blocks (length edit) 1 edit) (log_blocks a) (log_blocks b))

log-both : (a b : List (List ℕ)) → log_of (a ++ b) ≡ log_of a ++ log_of b
log-both a b = ap joined (blocks-both a b) ∙ joined-both (log_blocks a) (log_blocks b)

hold-both : (a b : List (List ℕ)) → CanHold a → CanHold b → CanHold (a ++ b)
hold-both [] b h k = k
hold-both (edit ∷ a) b h k = (h.0, hold-both a b h.1 k)

-- 512 bytes to a block
log-size : (edits : List (List ℕ)) → CanHold edits → length (log_of edits) ≡ 512 * length (log_blocks edits)
unfolding log_blocks joined
log-size [] h = refl
log-size (edit ∷ edits) h =
    let ks : List (List ℕ) = edit_blocks (length edit) 1 edit in
    ap length (joined-both ks (log_blocks edits)) ∙ length-append (joined ks) (joined (log_blocks edits))
    ∙ omega (arith, length-append ks (log_blocks edits), (blocks-sized (length edit) 1 edit h.0 (omega arith)).size, log-size edits h.1)

module _ (edit : List ℕ) (room : ℕ) (bytes : List ℕ) (h : ask_log_edit edit room ≡ passed bytes) where
  held : CanHold (edit ∷ [])
  held = ((passes edit room bytes h).some, tt)

  read_back : read_log bytes ≡ record { edits = edit ∷ []; ending = passed tt }
  read_back =
      let p = passes edit room bytes h in
      let few : length (log_blocks (edit ∷ [])) ≤ suc last_number = omega (arith, log-size (edit ∷ []) held, log-length edit p.some, p.short) in
      ap read_log p.bytes-are ∙ logs.read_back (edit ∷ []) held few

  appended : (log : List ℕ) → Bytes log → (read_log log).ending ≡ passed tt → length (log ++ bytes) ≤ block_bytes * suc last_number
      → read_log (log ++ bytes) ≡ record { edits = (read_log log).edits ++ (edit ∷ []); ending = passed tt }
  appended log b e fits =
      let (same, all) = logs.one_log log b e in
      let edits : List (List ℕ) = (read_log log).edits in
      let one : log ++ bytes ≡ log_of (edits ++ (edit ∷ [])) = ap₂ ◌++◌ same (passes edit room bytes h).bytes-are ∙ sym (log-both edits (edit ∷ [])) in
      let hold = hold-both edits (edit ∷ []) all held in
      let few : length (log_blocks (edits ++ (edit ∷ []))) ≤ suc last_number = omega (arith, log-size (edits ++ (edit ∷ [])) hold, ap length one, fits) in
      ap read_log one ∙ logs.read_back (edits ++ (edit ∷ [])) hold few

pub logged_edits : LoggedEdits
logged_edits = record { read_back = read_back; appended = appended }
