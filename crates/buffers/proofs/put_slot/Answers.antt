use mathlib.Core.Path.{◌≡◌, ◌∙◌, ap}
use mathlib.Core.List.{List, ◌∷◌, ◌++◌, append_assoc}
use Prim.Native.Nat.{ℕ, suc, ◌+◌, ◌≤◌}
use native.Mathlib.Omega.{arith}
use native.Mathlib.Numerals.{add-one}
use lib.ListN.{length, set, take, drop}
use lib.Seq.{sets-eq}
use Rattle.buffers.specs.Filled.{filled_from}
use Rattle.buffers.specs.Slots.{put_slot_def}
use Rattle.buffers.proofs.put_slot.Goals as goal

-- the length byte, and the word after it
both : (head : ℕ) (word table : List ℕ) → head + suc (length word) ≤ length table
    → filled_from (head + 1) word (set table head (length word)) ≡ take head table ++ (length word ∷ (word ++ drop (head + 1 + length word) table))
unfolding filled_from
both head word table h =
    ap (λ n. filled_from n word (set table head (length word))) (add-one head)
    ∙ sets-eq (length word ∷ word) table head h
    ∙ append_assoc (take head table) (length word ∷ word) (drop (head + suc (length word)) table)
    ∙ ap (λ n. take head table ++ (length word ∷ (word ++ drop n table))) (let e : head + suc (length word) ≡ head + 1 + length word = omega arith in e)

pub returns : goal.returns
unfolding put_slot_def
returns c = c.put.ensures.output_after ∙ both _ _ _ (omega (arith, c.requires))
