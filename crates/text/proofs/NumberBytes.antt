-- A number byte: whether it is there and in its range.
use mathlib.Core.Path.{◌≡◌, refl, sym, ◌∙◌, ap}
use mathlib.Core.Bool.{Bool, true, false, cond}
use mathlib.Core.List.{List, [], ◌∷◌}
use Prim.Native.Nat.{ℕ, suc, ◌+◌, ◌≤◌, ◌<◌}
use native.Mathlib.Numerals.{add-one}
use lib.ListN.{length, get_or, drop, drop_of_length-le}
use lib.Seq.{drop-cons}
use Rattle.logic.specs.Limits.{Kind, fits}
use Rattle.text.specs.declared.Stop.TheVariants.{Missing, OutOfRange}
use Rattle.std.proofs.Common.{Ok, Err}
use Rattle.text.specs.Reading.{Limits, number, Read, fault, out_of_range, follow}
use Rattle.text.specs.Patterns.{takes, item_of, item_format, finished, number_fits, stop_of, turn_of, turn_at}
use Rattle.text.proofs.Items.{is_number}

module _ (text : List ℕ) (ρ : Limits) where
  -- A number of a kind.
  pub number-missing : (k : Kind) (d at : ℕ) → length text ≤ at → turn_at text ρ (item_format (takes k) d finished) at ≡ Err (Missing at)
  number-missing k d at h = unfold item_format turn_at turn_of stop_of follow in rw (drop_of_length-le text h) refl

  pub number-there : (k : Kind) (d at : ℕ) → at < length text → turn_at text ρ (item_format (takes k) d finished) at ≡ cond (fits ρ.numbers k (get_or text at 0)) (Ok (at + 1)) (Err (OutOfRange at))
  unfolding item_format turn_at turn_of stop_of follow
  number-there k d at h = ap (λ z. turn_of (follow ρ z (number k (λ x. finished)) at)) (drop-cons text at 0 h) ∙ go (fits ρ.numbers k (get_or text at 0)) (drop (suc at) text) where
    next : (t : List ℕ) → turn_of (follow ρ t finished (suc at)) ≡ Ok (at + 1)
    next [] = ap Ok (sym (add-one at))
    next (x ∷ t) = ap Ok (sym (add-one at))

    go : (b : Bool) (t : List ℕ) → turn_of {A = Unit {0}} (elim b as (λ z. Read (Unit {0})) [ true ↦ follow ρ t finished (suc at) | false ↦ fault out_of_range at ]) ≡ cond b (Ok (at + 1)) (Err (OutOfRange at))
    go true t = next t
    go false t = refl

-- An item that is a number, by its digit: it is missing, in range, or out of range.
module _ (text : List ℕ) (ρ : Limits) (x d at : ℕ) (low : 3 ≤ x) (high : x < 8) where
  pub number-ends : length text ≤ at → turn_at text ρ (item_format (item_of x) d finished) at ≡ Err (Missing at)
  number-ends h = let q = is_number x low high in ap (λ i. turn_at text ρ (item_format i d finished) at) q.item-is ∙ number-missing text ρ q.kind d at h

  pub number_is : (b : Bool) → at < length text → number_fits ρ.numbers (item_of x) (get_or text at 0) ≡ b → turn_at text ρ (item_format (item_of x) d finished) at ≡ cond b (Ok (at + 1)) (Err (OutOfRange at))
  unfolding number_fits
  number_is b h e =
      let q = is_number x low high in
      ap (λ i. turn_at text ρ (item_format i d finished) at) q.item-is
      ∙ number-there text ρ q.kind d at h
      ∙ ap (λ c. cond c (Ok (at + 1)) (Err (OutOfRange at))) (sym (ap (λ i. number_fits ρ.numbers i (get_or text at 0)) q.item-is) ∙ e)
