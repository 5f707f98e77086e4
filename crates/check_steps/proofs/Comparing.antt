-- Comparing the text with the one sent, byte by byte.
use mathlib.Core.Path.{◌≡◌, ap, ◌∙◌}
use mathlib.Core.List.{List, [], ◌∷◌}
use Prim.Native.Nat.{ℕ, suc, ◌+◌, ◌%◌, ◌≤◌, ◌<◌, min}
use native.Mathlib.Numerals.{add-one}
use native.Mathlib.Decide.{dec_lt}
use native.Mathlib.Omega.{arith}
use lib.ListN.{length, get_or, drop, length-map, drop_of_length-le, get_or-map}
use lib.Seq.{drop-cons}
use borrow.Author.Tests.{eq-eqb, ne_eqb}
use Rattle.answer.specs.Asked.{passed, refused}
use Rattle.shortening.specs.Questions.{ask_same}
use Rattle.check_steps.specs.Raised.{lowered}

-- The bytes before a place are the same.
pub record Comparing (t sent : List ℕ) (i : ℕ) : Type 0 where
  pub on : i ≤ length t
  pub on-sent : i ≤ length sent
  pub rest : ask_same (drop i (lowered t)) (drop i sent) i ≡ ask_same (lowered t) sent 0

module _ {t sent : List ℕ} {i : ℕ} (c : Comparing t sent i) where
  long : length (lowered t) ≡ length t
  long = length-map t (λ x. x % 128)

  byte : get_or (lowered t) i 0 ≡ get_or t i 0 % 128
  byte = get_or-map (λ x. x % 128) t i 0

  opened : i < length t → drop i (lowered t) ≡ get_or t i 0 % 128 ∷ drop (suc i) (lowered t)
  opened h = drop-cons (lowered t) i 0 (omega (arith, long)) ∙ ap (◌∷ drop (suc i) (lowered t)) byte

  closed : length t ≤ i → drop i (lowered t) ≡ []
  closed h = let e : length (lowered t) ≤ i = omega (arith, long) in drop_of_length-le (lowered t) e

  pub comparing-short : i < length t → length sent ≤ i → refused 60 i ≡ ask_same (lowered t) sent 0
  comparing-short h k = unfold ask_same in cc (opened h, drop_of_length-le sent k, c.rest)

  pub comparing-long : length t ≤ i → i < length sent → refused 60 i ≡ ask_same (lowered t) sent 0
  comparing-long h k = unfold ask_same in cc (closed h, drop-cons sent i 0 k, c.rest)

  pub comparing-end : length t ≤ i → length sent ≤ i → passed tt ≡ ask_same (lowered t) sent 0
  comparing-end h k = unfold ask_same in cc (closed h, drop_of_length-le sent k, c.rest)

  uneven : i ≡ min (length t) (length sent) → (length t ≡ length sent → ⊥) → refused 60 i ≡ ask_same (lowered t) sent 0
  uneven e n = elim (dec_lt (length t) (length sent)) [
    | yes h ↦ comparing-long (omega arith) (omega arith)
    | no h ↦ comparing-short (omega arith) (omega arith)
  ]

  pub comparing-uneven : (m : ℕ) → m ≡ min (length t) (length sent) → m ≤ i → (length t ≡ length sent → ⊥) → refused 60 m ≡ ask_same (lowered t) sent 0
  comparing-uneven m e h n = let f : m ≡ i = omega (arith, c.on, c.on-sent) in ap (refused 60) f ∙ uneven (omega (arith, e, f)) n

  module _ (h : i < length t) (k : i < length sent) where
    pub comparing-differs : (get_or t i 0 % 128 ≡ get_or sent i 0 → ⊥) → refused 60 i ≡ ask_same (lowered t) sent 0
    comparing-differs n = unfold ask_same in cc (c.rest, opened h, drop-cons sent i 0 k, ne_eqb (get_or t i 0 % 128) (get_or sent i 0) n)

    pub comparing-next : get_or t i 0 % 128 ≡ get_or sent i 0 → Comparing t sent (i + 1)
    unfolding ask_same
    comparing-next e = record {
      on = omega arith;
      on-sent = omega arith;
      rest = cc (c.rest, opened h, drop-cons sent i 0 k, eq-eqb (get_or t i 0 % 128) (get_or sent i 0) e, add-one i);
    }
