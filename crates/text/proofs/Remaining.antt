-- What is still to be read: what remains of the pattern of a level, and then of the patterns of the levels above.
use mathlib.Core.Path.{◌≡◌, refl, sym, ◌∙◌, ap}
use mathlib.Core.Bool.{true, false}
use mathlib.Core.List.{List, [], ◌∷◌}
use Prim.Native.Nat.{ℕ, zero, suc, ◌+◌, ◌-◌, ◌/◌, ◌%◌, ◌≤◌, ◌<◌}
use native.Mathlib.Numerals.{add-one}
use native.Mathlib.Decide.{dec_lt}
use native.Mathlib.Omega.{arith}
use lib.ListN.{length, get_or, set, replicate, length-set}
use lib.Seq.{get_or-set_same, get_or-set_other}
use Rattle.text.specs.declared.Stop.TheVariants.{Missing, WrongSort, TooDeep, OutOfRange}
use Rattle.std.proofs.Common.{Ok, Err}
use Rattle.text.specs.Reading.{Limits}
use Rattle.text.specs.Patterns.{Turn, item_of, pattern_of_def, sort_of_def, item_format, finished, pattern_format, number_fits, turn_at, head_at}
use Rattle.text.proofs.Compose.{and_then, then_next, then-then, then_same}
use Rattle.text.proofs.PatternTurns.{at_item, at_here, at-end, at-deeper}
use Rattle.text.proofs.NumberBytes.{number-ends, number_is}
use Rattle.text.proofs.HeadAt.{head-ends, head-wrong, head-deep, head-good}

-- The patterns of the levels above: 256 of them, each of at most four digits.
pub record Patterns (patterns : List ℕ) : Type 0 where
  pub all : length patterns ≡ 256
  pub small : (k : ℕ) → get_or patterns k 0 < 65536

pub no-patterns : Patterns (replicate 256 0)
no-patterns = record { all = refl; small = λ k. zeros-small 256 k } where
  zeros-small : (n k : ℕ) → get_or (replicate n 0) k 0 < 65536
  zeros-small zero k = omega arith
  zeros-small (suc n) zero = omega arith
  zeros-small (suc n) (suc k) = zeros-small n k

pub patterns-set : (patterns : List ℕ) (i x : ℕ) → Patterns patterns → x < 65536 → Patterns (set patterns i x)
patterns-set patterns i x r h = record { all = length-set patterns i x ∙ r.all; small = go patterns i r.small } where
  go : (l : List ℕ) (i : ℕ) → ((k : ℕ) → get_or l k 0 < 65536) → (k : ℕ) → get_or (set l i x) k 0 < 65536
  go [] i f k = f k
  go (y ∷ l) zero f zero = h
  go (y ∷ l) zero f (suc k) = f (suc k)
  go (y ∷ l) (suc i) f zero = f 0
  go (y ∷ l) (suc i) f (suc k) = go l i (λ j. f (suc j)) k

module _ (text : List ℕ) (ρ : Limits) where
  unfoldable pub above : (patterns : List ℕ) (level at : ℕ) → Turn
  above patterns zero at = Ok at
  above patterns (suc d) at = and_then (turn_at text ρ (pattern_format (get_or patterns d 0) d) at) (above patterns d)

  unfoldable pub remaining : (patterns : List ℕ) (pattern level at : ℕ) → Turn
  remaining patterns pattern d at = and_then (turn_at text ρ (pattern_format pattern d) at) (above patterns d)

  -- Writing a pattern does not change the levels above it.
  above_same : (patterns : List ℕ) (level x d at : ℕ) → d ≤ level → above (set patterns level x) d at ≡ above patterns d at
  unfolding above
  above_same patterns level x zero at h = refl
  above_same patterns level x (suc d) at h =
      ap (λ r. and_then (turn_at text ρ (pattern_format r d) at) (above (set patterns level x) d)) (get_or-set_other patterns level d x 0 (λ e. absurd (omega arith)))
      ∙ then_same (turn_at text ρ (pattern_format (get_or patterns d 0) d) at) (above (set patterns level x) d) (above patterns d) (λ p. above_same patterns level x d p (omega arith))

  -- A thing at level 1 is one that is wanted one level deeper than level 0.
  pub to-begin : (patterns : List ℕ) (wanted at : ℕ) → 12 ≤ wanted → wanted < 16 → remaining patterns (wanted - 4) 0 at ≡ turn_at text ρ (pattern_format wanted 1) at
  unfolding above remaining
  to-begin patterns wanted at h k =
      let pattern = wanted - 4 in
      let digit : pattern % 16 ≡ pattern = omega arith in
      let back : pattern + 4 ≡ wanted = omega arith in
      then_next (turn_at text ρ (pattern_format pattern 0) at) (above patterns 0) (λ p. refl)
      ∙ at_item text ρ pattern 0 at (omega arith) (omega arith) (omega arith)
      ∙ then_next (turn_at text ρ (item_format (item_of (pattern % 16)) 0 finished) at) (λ p. turn_at text ρ (pattern_format (pattern / 16) 0) p) (λ p. at-end text ρ (pattern / 16) 0 p (omega arith))
      ∙ ap (λ x. turn_at text ρ (item_format (item_of x) 0 finished) at) digit
      ∙ at-deeper text ρ pattern 0 at (omega arith) (omega arith)
      ∙ ap (λ x. turn_at text ρ (pattern_format x 1) at) back

  module _ (patterns : List ℕ) (pattern level at : ℕ) where
    -- The pattern has ended: nothing is above it, or the pattern above it goes on.
    pub ended : pattern % 16 < 3 → level ≡ 0 → Ok at ≡ remaining patterns pattern level at
    ended h e = unfold above remaining in sym (ap (λ d. remaining patterns pattern d at) e ∙ ap (λ s. and_then s (above patterns 0)) (at-end text ρ pattern 0 at h))

    pub pattern-above : pattern % 16 < 3 → (level ≡ 0 → ⊥) → remaining patterns (get_or patterns (level - 1) 0) (level - 1) at ≡ remaining patterns pattern level at
    unfolding above remaining
    pattern-above h n = go level n where
      go : (l : ℕ) → (l ≡ 0 → ⊥) → remaining patterns (get_or patterns (l - 1) 0) (l - 1) at ≡ remaining patterns pattern l at
      go zero k = absurd (k refl)
      go (suc d) k =
          let e : suc d - 1 ≡ d = omega arith in
          ap (λ z. remaining patterns (get_or patterns z 0) z at) e ∙ sym (ap (λ s. and_then s (above patterns (suc d))) (at-end text ρ pattern (suc d) at h))

    module _ (small : pattern < 65536) (more : 3 ≤ pattern % 16) where
      opened : pattern % 16 < 12 → remaining patterns pattern level at ≡ and_then (turn_at text ρ (item_format (item_of (pattern % 16)) level finished) at) (λ p. remaining patterns (pattern / 16) level p)
      unfolding remaining
      opened k =
          ap (λ s. and_then s (above patterns level)) (at_item text ρ pattern level at small more k)
          ∙ then-then (turn_at text ρ (item_format (item_of (pattern % 16)) level finished) at) (λ p. turn_at text ρ (pattern_format (pattern / 16) level) p) (above patterns level)

      opened-at : (s : Turn) → pattern % 16 < 12 → turn_at text ρ (item_format (item_of (pattern % 16)) level finished) at ≡ s → remaining patterns pattern level at ≡ and_then s (λ p. remaining patterns (pattern / 16) level p)
      opened-at s k e = opened k ∙ ap (λ z. and_then z (λ p. remaining patterns (pattern / 16) level p)) e

      -- a number
      pub number-bad : pattern % 16 < 8 → at < length text → number_fits ρ.numbers (item_of (pattern % 16)) (get_or text at 0) ≡ false → Err (OutOfRange at) ≡ remaining patterns pattern level at
      number-bad k i e = sym (opened-at (Err (OutOfRange at)) (omega arith) (number_is text ρ (pattern % 16) level at more k false i e))

      pub number-good : pattern % 16 < 8 → at < length text → number_fits ρ.numbers (item_of (pattern % 16)) (get_or text at 0) ≡ true → remaining patterns (pattern / 16) level (at + 1) ≡ remaining patterns pattern level at
      number-good k i e = sym (opened-at (Ok (at + 1)) (omega arith) (number_is text ρ (pattern % 16) level at more k true i e))

      -- a code at the pattern's own level, and one level deeper
      code_here : 12 ≤ pattern % 16 → remaining patterns pattern level at ≡ and_then (head_at text ρ.deepest (12 + pattern % 16 % 4) level at) (λ p. remaining patterns (pattern_of_def (get_or text at 0)) level p)
      unfolding remaining
      code_here k =
          let e : pattern % 16 ≡ 12 + pattern % 16 % 4 = omega arith in
          ap (λ s. and_then s (above patterns level)) (at_here text ρ pattern level at k)
          ∙ then-then (head_at text ρ.deepest (pattern % 16) level at) (λ p. turn_at text ρ (pattern_format (pattern_of_def (get_or text at 0)) level) p) (above patterns level)
          ∙ ap (λ x. and_then (head_at text ρ.deepest x level at) (λ p. remaining patterns (pattern_of_def (get_or text at 0)) level p)) e

      code-deeper : 8 ≤ pattern % 16 → pattern % 16 < 12 → level < length patterns → remaining patterns pattern level at ≡ and_then (head_at text ρ.deepest (12 + pattern % 16 % 4) (level + 1) at) (λ p. remaining (set patterns level (pattern / 16)) (pattern_of_def (get_or text at 0)) (level + 1) p)
      unfolding above remaining
      code-deeper l k i =
          let e : (pattern % 16 + 4) % 16 ≡ 12 + pattern % 16 % 4 = omega arith in
          let next : ℕ → Turn = λ p. turn_at text ρ (pattern_format (pattern_of_def (get_or text at 0)) (level + 1)) p in
          let left : ℕ → Turn = λ p. remaining patterns (pattern / 16) level p in
          opened-at (and_then (head_at text ρ.deepest ((pattern % 16 + 4) % 16) (level + 1) at) next) k (at-deeper text ρ (pattern % 16) level at l k ∙ at_here text ρ (pattern % 16 + 4) (level + 1) at (omega arith))
          ∙ then-then (head_at text ρ.deepest ((pattern % 16 + 4) % 16) (level + 1) at) next left
          ∙ ap (λ x. and_then (head_at text ρ.deepest x (level + 1) at) (λ p. and_then (next p) left)) e
          ∙ then_same (head_at text ρ.deepest (12 + pattern % 16 % 4) (level + 1) at) (λ p. and_then (next p) left) (λ p. remaining (set patterns level (pattern / 16)) (pattern_of_def (get_or text at 0)) (level + 1) p)
          (λ p. then_same (next p) left (above (set patterns level (pattern / 16)) (level + 1)) pushed)
        where
          pushed : (p : ℕ) → remaining patterns (pattern / 16) level p ≡ above (set patterns level (pattern / 16)) (level + 1) p
          pushed p =
              then_same (turn_at text ρ (pattern_format (pattern / 16) level) p) (above patterns level) (above (set patterns level (pattern / 16)) level) (λ q. sym (above_same patterns level (pattern / 16) level q (omega arith)))
              ∙ ap (λ r. and_then (turn_at text ρ (pattern_format r level) p) (above (set patterns level (pattern / 16)) level)) (sym (get_or-set_same patterns level (pattern / 16) 0 i))
              ∙ ap (λ d. above (set patterns level (pattern / 16)) d p) (sym (add-one level))

      -- in either case a code is wanted at a level
      record Asks : Type 0 where
        depth : ℕ
        next : ℕ → Turn
        asks : remaining patterns pattern level at ≡ and_then (head_at text ρ.deepest (12 + pattern % 16 % 4) depth at) next

      code-asks : 8 ≤ pattern % 16 → level < length patterns → Asks
      code-asks l i = elim (dec_lt (pattern % 16) 12) [
        | yes k ↦ record { depth = level + 1; next = λ p. remaining (set patterns level (pattern / 16)) (pattern_of_def (get_or text at 0)) (level + 1) p; asks = code-deeper l k i }
        | no k ↦ record { depth = level; next = λ p. remaining patterns (pattern_of_def (get_or text at 0)) level p; asks = code_here (omega arith) }
      ]

      pub missing : level < length patterns → length text ≤ at → Err (Missing at) ≡ remaining patterns pattern level at
      missing i h = elim (dec_lt (pattern % 16) 8) [
        | yes k ↦ sym (opened-at (Err (Missing at)) (omega arith) (number-ends text ρ (pattern % 16) level at more k h))
        | no k ↦ (let q = code-asks (omega arith) i in sym (q.asks ∙ ap (λ z. and_then z q.next) (sym (head-ends text ρ.deepest (12 + pattern % 16 % 4) q.depth at h))))
      ]

      module _ (code : 8 ≤ pattern % 16) (inside : at < length text) where
        pub code-wrong : level < length patterns → (sort_of_def (get_or text at 0) ≡ 12 + pattern % 16 % 4 → ⊥) → Err (WrongSort at) ≡ remaining patterns pattern level at
        code-wrong i n = let q = code-asks code i in sym (q.asks ∙ ap (λ z. and_then z q.next) (sym (head-wrong text ρ.deepest (12 + pattern % 16 % 4) q.depth at inside n)))

        module _ (sort : sort_of_def (get_or text at 0) ≡ 12 + pattern % 16 % 4) where
          pub code-on : (next : ℕ) → next ≡ pattern_of_def (get_or text at 0) → 12 ≤ pattern % 16 → level ≤ ρ.deepest → remaining patterns next level (at + 1) ≡ remaining patterns pattern level at
          code-on next next_is k l =
              ap (λ r. remaining patterns r level (at + 1)) next_is
              ∙ sym (code_here k ∙ ap (λ z. and_then z (λ p. remaining patterns (pattern_of_def (get_or text at 0)) level p)) (sym (head-good text ρ.deepest (12 + pattern % 16 % 4) level at inside sort l)))

          pub code-deep : pattern % 16 < 12 → level < length patterns → ρ.deepest ≤ level → Err (TooDeep at) ≡ remaining patterns pattern level at
          code-deep k i l = sym (code-deeper code k i ∙ ap (λ z. and_then z (λ p. remaining (set patterns level (pattern / 16)) (pattern_of_def (get_or text at 0)) (level + 1) p)) (sym (head-deep text ρ.deepest (12 + pattern % 16 % 4) (level + 1) at inside sort (omega arith))))

          pub code-down : (next : ℕ) → next ≡ pattern_of_def (get_or text at 0) → pattern % 16 < 12 → level < length patterns → level < ρ.deepest → remaining (set patterns level (pattern / 16)) next (level + 1) (at + 1) ≡ remaining patterns pattern level at
          code-down next next_is k i l =
              ap (λ r. remaining (set patterns level (pattern / 16)) r (level + 1) (at + 1)) next_is
              ∙ sym (code-deeper code k i ∙ ap (λ z. and_then z (λ p. remaining (set patterns level (pattern / 16)) (pattern_of_def (get_or text at 0)) (level + 1) p)) (sym (head-good text ρ.deepest (12 + pattern % 16 % 4) (level + 1) at inside sort (omega arith))))
