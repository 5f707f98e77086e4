-- The turns that the code makes along a pattern: at a code byte at the pattern's own level, and at any other item.
use mathlib.Core.Path.{◌≡◌, refl, sym, ◌∙◌, ap}
use mathlib.Core.Bool.{Bool, true, false, cond}
use mathlib.Core.List.{List, [], ◌∷◌}
use Prim.Native.Nat.{ℕ, suc, ◌+◌, ◌/◌, ◌%◌, ◌≤◌, ◌<◌}
use native.Mathlib.Numerals.{add-one}
use native.Mathlib.Decide.{dec_lt}
use native.Mathlib.Omega.{arith}
use lib.Dec.{leb, eqb}
use lib.ListN.{length, get_or, drop, drop_of_length-le}
use lib.Seq.{drop-cons}
use borrow.Author.Tests.{lt-ltb, le-ltb, eqb-true, eqb-false}
use Rattle.text.specs.declared.Stop.TheVariants.{Missing, WrongSort, TooDeep}
use Rattle.std.proofs.Common.{Ok, Err}
use Rattle.text.specs.Reading.{Limits, Want, Thing, Format, operand, ◌>>=◌, Read, fault, too_deep, codes, follow}
use Rattle.text.specs.Patterns.{Turn, item_of, pattern_of_def, item_format, finished, pattern_format, sort_of_def, stop_of, turn_of, turn_at, head_at}
use Rattle.text.proofs.Compose.{Alike, alike-bind, alike-turns, and_then, turn-then}
use Rattle.text.proofs.Items.{is-deeper, is-here, digit, here-pattern, end-pattern, pattern-opens, goes_on, item-then}
use Rattle.text.proofs.Entries.{codes-patterns, no-entry, an-entry, has-entry}

-- the outcome of the questions at a code byte: it is of the sort wanted, and its level is within the limit
abbrev headed : (sort level : Bool) (at : ℕ) → Turn → Turn
headed sort level at next = cond sort (cond level next (Err (TooDeep at))) (Err (WrongSort at))

headed-then : (b e : Bool) (at : ℕ) (k : ℕ → Turn) → headed b e at (k (at + 1)) ≡ and_then (headed b e at (Ok (at + 1))) k
headed-then true true at k = refl
headed-then true false at k = refl
headed-then false e at k = refl

module _ (text : List ℕ) (ρ : Limits) where
  -- a thing wanted at a place where there is a byte c and others follow
  at_byte : (w : Want) (d at c : ℕ) (t : List ℕ) → turn_of (follow ρ (c ∷ t) (operand w d (λ e. finished)) at)
      ≡ headed (eqb (sort_of_def c) (digit w)) (leb d ρ.deepest) at (turn_of (follow ρ t (pattern_format (pattern_of_def c) d) (suc at)))
  unfolding follow turn_of stop_of
  at_byte w d at c t = go (eqb (sort_of_def c) (digit w)) (eqb-true (sort_of_def c) (digit w)) (eqb-false (sort_of_def c) (digit w)) where
    opened : (b : Bool) (p : Format (Thing w)) → Alike p (pattern_format (pattern_of_def c) d)
        → turn_of {A = Unit {0}} (elim b as (λ z. Read (Unit {0})) [ true ↦ follow ρ t (p >>= (λ e. finished)) (suc at) | false ↦ fault too_deep at ])
        ≡ cond b (turn_of (follow ρ t (pattern_format (pattern_of_def c) d) (suc at))) (Err (TooDeep at))
    opened true p a = alike-turns ρ (alike-bind tt a) t (suc at)
    opened false p a = refl

    go : (b : Bool) → (b ≡ true → sort_of_def c ≡ digit w) → (b ≡ false → sort_of_def c ≡ digit w → ⊥) → turn_of (follow ρ (c ∷ t) (operand w d (λ e. finished)) at)
        ≡ headed b (leb d ρ.deepest) at (turn_of (follow ρ t (pattern_format (pattern_of_def c) d) (suc at)))
    go true f g = an-entry w d c _ _ _ (opened (leb d ρ.deepest)) (codes d w) (codes-patterns w d) (has-entry w d c (f refl))
    go false f g = ap turn_of (no-entry w d c _ _ (codes d w) (codes-patterns w d) (g refl))

  -- A code at a place: its questions, and then its pattern from the next byte on.
  pub at_code : (w : Want) (d at : ℕ) → turn_at text ρ (operand w d (λ e. finished)) at ≡ and_then (head_at text ρ.deepest (digit w) d at) (λ p. turn_at text ρ (pattern_format (pattern_of_def (get_or text at 0)) d) p)
  unfolding turn_at head_at turn_of stop_of follow
  at_code w d at = elim (dec_lt at (length text)) [ yes h ↦ there h | no h ↦ ends (omega arith) ] where
    ends : length text ≤ at → turn_at text ρ (operand w d (λ e. finished)) at ≡ and_then (head_at text ρ.deepest (digit w) d at) (λ p. turn_at text ρ (pattern_format (pattern_of_def (get_or text at 0)) d) p)
    ends h = rw (drop_of_length-le text h, le-ltb at (length text) h) refl

    there : at < length text → turn_at text ρ (operand w d (λ e. finished)) at ≡ and_then (head_at text ρ.deepest (digit w) d at) (λ p. turn_at text ρ (pattern_format (pattern_of_def (get_or text at 0)) d) p)
    there h =
        let sort : Bool = eqb (sort_of_def (get_or text at 0)) (digit w) in
        let level : Bool = leb d ρ.deepest in
        ap (λ z. turn_of (follow ρ z (operand w d (λ e. finished)) at)) (drop-cons text at 0 h)
        ∙ at_byte w d at (get_or text at 0) (drop (suc at) text)
        ∙ ap (λ m. headed sort level at (turn_at text ρ (pattern_format (pattern_of_def (get_or text at 0)) d) m)) (sym (add-one at))
        ∙ headed-then sort level at (λ p. turn_at text ρ (pattern_format (pattern_of_def (get_or text at 0)) d) p)
        ∙ ap (λ b. and_then (cond b (headed sort level at (Ok (at + 1))) (Err (Missing at))) (λ p. turn_at text ρ (pattern_format (pattern_of_def (get_or text at 0)) d) p)) (sym (lt-ltb at (length text) h))

  -- A pattern whose first item is not a thing at the code's own level: that item, and then the others.
  pub at_item : (pattern d at : ℕ) → pattern < 65536 → 3 ≤ pattern % 16 → pattern % 16 < 12 → turn_at text ρ (pattern_format pattern d) at ≡ and_then (turn_at text ρ (item_format (item_of (pattern % 16)) d finished) at) (λ p. turn_at text ρ (pattern_format (pattern / 16) d) p)
  at_item pattern d at h l k =
      ap (λ z. turn_at text ρ z at) (pattern-opens pattern d h ∙ item-then (item_of (pattern % 16)) d (pattern_format (pattern / 16) d) (goes_on (pattern % 16) l k))
      ∙ turn-then text ρ (item_format (item_of (pattern % 16)) d finished) (pattern_format (pattern / 16) d) at

  -- A pattern whose first item is one: a code, and then its pattern.
  pub at_here : (pattern d at : ℕ) → 12 ≤ pattern % 16 → turn_at text ρ (pattern_format pattern d) at ≡ and_then (head_at text ρ.deepest (pattern % 16) d at) (λ p. turn_at text ρ (pattern_format (pattern_of_def (get_or text at 0)) d) p)
  at_here pattern d at h =
      let q = is-here (pattern % 16) h (omega arith) in
      ap (λ z. turn_at text ρ z at) (here-pattern pattern d q.want q.item-is)
      ∙ at_code q.want d at
      ∙ ap (λ x. and_then (head_at text ρ.deepest x d at) (λ p. turn_at text ρ (pattern_format (pattern_of_def (get_or text at 0)) d) p)) (sym q.digit-is)

  -- A pattern that has ended has been read.
  pub at-end : (pattern d at : ℕ) → pattern % 16 < 3 → turn_at text ρ (pattern_format pattern d) at ≡ Ok at
  unfolding turn_at turn_of follow
  at-end pattern d at h = ap (λ z. turn_at text ρ z at) (end-pattern pattern d h) ∙ go (drop at text) where
    go : (t : List ℕ) → turn_of (follow ρ t finished at) ≡ Ok at
    go [] = refl
    go (x ∷ t) = refl

  -- An item one level deeper is a pattern of one item there.
  pub at-deeper : (x d at : ℕ) → 8 ≤ x → x < 12 → turn_at text ρ (item_format (item_of x) d finished) at ≡ turn_at text ρ (pattern_format (x + 4) (d + 1)) at
  unfolding item_format
  at-deeper x d at h k =
      let q = is-deeper x h k in
      let e : x + 4 ≡ (x + 4) % 16 = omega arith in
      ap (λ z. turn_at text ρ z at)
      (ap (λ j. item_format j d finished) q.item-is
      ∙ ap (λ m. operand q.want m (λ e. finished)) (sym (add-one d))
      ∙ sym (here-pattern (x + 4) (d + 1) q.want (sym (ap item_of e) ∙ q.then-here)))
