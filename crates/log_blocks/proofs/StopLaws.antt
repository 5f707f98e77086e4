-- Stopping after an edit's last block: what was read before it, and what is read after it.
use mathlib.Core.Path.{◌≡◌, refl, ap}
use mathlib.Core.Bool.{true, false}
use mathlib.Core.List.{List, [], ◌∷◌, ◌++◌}
use Prim.Native.Nat.{ℕ, zero, suc, ◌+◌, ◌≤◌}
use native.Mathlib.Omega.{arith}
use lib.ListN.{length, take, drop}
use Rattle.answer.specs.Asked.{passed, is}
use Rattle.log_blocks.specs.Log.{is_last, content, is_begun, ask_log_block, ask_log_end, Recorded, recorded}
use Rattle.log_blocks.specs.Stops.{blocks_to}
use Rattle.log_blocks.proofs.ReadLaws.{read-bad, read-last, read_more, each-log}

-- The first m of these blocks hold their first i edits and end there; the others hold the rest and end as the whole does.
pub record StopsAt (number : ℕ) (g : List ℕ) (ks : List (List ℕ)) (i m : ℕ) : Type 0 where
  pub part : recorded number g (take m ks) ≡ record { edits = take i (recorded number g ks).edits; ending = passed tt }
  pub rest : recorded (number + m) [] (drop m ks) ≡ record { edits = drop i (recorded number g ks).edits; ending = (recorded number g ks).ending }

abbrev size_of : Recorded → ℕ
size_of r = length r.edits

-- nothing read, nothing begun
at_start : (number : ℕ) (ks : List (List ℕ)) → StopsAt number [] ks 0 0
unfolding recorded ask_log_end is
at_start number ks =
    let z : number + 0 ≡ number = omega arith in
    record { part = refl; rest = ap (λ n. recorded n [] ks) z }

module _ (number : ℕ) (g k : List ℕ) (ks : List (List ℕ)) (e : ask_log_block (is_begun g) number k ≡ passed tt) where
  at : (m : ℕ) → number + suc m ≡ suc number + m
  at m = omega arith

  behind-last : (i m : ℕ) → is_last k ≡ true → StopsAt (suc number) [] ks i m → StopsAt number g (k ∷ ks) (suc i) (suc m)
  behind-last i m l s =
      let whole = read-last number g k ks e l in
      record { part = cc (read-last number g k (take m ks) e l, s.part); rest = cc (at m, s.rest) }

  behind_more : (i m : ℕ) → is_last k ≡ false → StopsAt (suc number) (g ++ content k) ks (suc i) m → StopsAt number g (k ∷ ks) (suc i) (suc m)
  behind_more i m l s =
      let whole = read_more number g k ks e l in
      record { part = cc (read_more number g k (take m ks) e l, s.part); rest = cc (at m, s.rest) }

  at_last : is_last k ≡ true → ((i : ℕ) → suc i ≤ length (recorded (suc number) [] ks).edits → StopsAt (suc number) [] ks (suc i) (blocks_to (suc i) ks))
      → (i : ℕ) → suc i ≤ length (recorded number g (k ∷ ks)).edits → StopsAt number g (k ∷ ks) (suc i) (blocks_to (suc i) (k ∷ ks))
  unfolding blocks_to
  at_last l on zero h = rw l (behind-last 0 0 l (at_start (suc number) ks))
  at_last l on (suc i) h = rw l (behind-last (suc i) (blocks_to (suc i) ks) l (on i (omega (arith, ap size_of (read-last number g k ks e l)))))

within-log : (number : ℕ) (g : List ℕ) (ks : List (List ℕ)) (i : ℕ) → suc i ≤ length (recorded number g ks).edits → StopsAt number g ks (suc i) (blocks_to (suc i) ks)
unfolding recorded blocks_to
within-log = each-log (λ number g ks. (i : ℕ) → suc i ≤ length (recorded number g ks).edits → StopsAt number g ks (suc i) (blocks_to (suc i) ks))
    (λ number g i h. absurd (omega arith))
    (λ number g k ks q p e i h. absurd (omega (arith, ap size_of (read-bad number g k ks q p e))))
    (λ number g k ks e l on. at_last number g k ks e l on)
    (λ number g k ks e l on i h. rw l (behind_more number g k ks e i (blocks_to (suc i) ks) l (on i (omega (arith, ap size_of (read_more number g k ks e l))))))

pub stops : (number : ℕ) (ks : List (List ℕ)) (i : ℕ) → i ≤ length (recorded number [] ks).edits → StopsAt number [] ks i (blocks_to i ks)
unfolding blocks_to
stops number ks zero h = at_start number ks
stops number ks (suc i) h = within-log number [] ks i h
