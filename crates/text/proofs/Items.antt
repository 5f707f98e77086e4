-- The items that follow a code, by their digits; and a pattern split at its first item.
use mathlib.Core.Path.{◌≡◌, refl, sym, ◌∙◌, ap, ap₂, subst}
use Prim.Native.Nat.{ℕ, zero, suc, ◌+◌, ◌-◌, ◌/◌, ◌%◌, ◌≤◌, ◌<◌}
use native.Mathlib.Decide.{dec_lt}
use native.Mathlib.Omega.{arith}
use Rattle.logic.specs.Syntax.{node, arrow, rule}
use Rattle.logic.specs.Limits.{Kind, label_number, arrow_number, node_number, least_count, most_count}
use Rattle.text.specs.Reading.{Want, expr, edit, Format, operand, ◌>>=◌}
use Rattle.text.specs.Patterns.{Item, nothing, takes, deeper, here, items, item_of, item_format, finished, pattern_format}

-- What holds for each number below m.
abbrev pub Each : (ℕ → Type 0) → ℕ → Type 0
Each P zero = Unit {0}
Each P (suc m) = Each P m × P m

pub each_below : (P : ℕ → Type 0) (m : ℕ) → Each P m → (x : ℕ) → x < m → P x
each_below P zero h x l = absurd (omega arith)
each_below P (suc m) h x l = elim (dec_lt x m) [ yes k ↦ each_below P m h.0 x k | no k ↦ (let e : m ≡ x = omega arith in subst P e h.1) ]

pub each_from : (P : ℕ → Type 0) (lo m : ℕ) → Each (λ x. P (lo + x)) m → (x : ℕ) → lo ≤ x → x < lo + m → P x
each_from P lo m e x h k = let q : lo + (x - lo) ≡ x = omega arith in subst P q (each_below (λ x. P (lo + x)) m e (x - lo) (omega arith))

-- The items by their digits: below 3 nothing, then numbers to 7, things one level deeper to B, things at the code's own level to F.
nothing-at : (x : ℕ) → x < 3 → item_of x ≡ nothing
nothing-at = unfold item_of items in each_below (λ x. item_of x ≡ nothing) 3 (((tt, refl), refl), refl)

pub record IsNumber (x : ℕ) : Type 0 where
  pub kind : Kind
  pub item-is : item_of x ≡ takes kind

pub is_number : (x : ℕ) → 3 ≤ x → x < 8 → IsNumber x
unfolding item_of items
is_number = each_from IsNumber 3 5 (((((tt, of label_number refl), of arrow_number refl), of node_number refl), of least_count refl), of most_count refl) where
  of : {x : ℕ} (k : Kind) → item_of x ≡ takes k → IsNumber x
  of k e = record { kind = k; item-is = e }

pub record IsDeeper (x : ℕ) : Type 0 where
  pub want : Want
  pub item-is : item_of x ≡ deeper want
  pub then-here : item_of (x + 4) ≡ here want

pub is-deeper : (x : ℕ) → 8 ≤ x → x < 12 → IsDeeper x
unfolding item_of items
is-deeper = each_from IsDeeper 8 4 ((((tt, of (expr node) refl refl), of (expr arrow) refl refl), of (expr rule) refl refl), of edit refl refl) where
  of : {x : ℕ} (w : Want) → item_of x ≡ deeper w → item_of (x + 4) ≡ here w → IsDeeper x
  of w e h = record { want = w; item-is = e; then-here = h }

-- the digit of a thing at the code's own level
abbrev pub digit : Want → ℕ
digit (expr node) = 0xC
digit (expr arrow) = 0xD
digit (expr rule) = 0xE
digit edit = 0xF

pub here-digit : (w : Want) → item_of (digit w % 16) ≡ here w
unfolding item_of items
here-digit (expr node) = refl
here-digit (expr arrow) = refl
here-digit (expr rule) = refl
here-digit edit = refl

pub record IsHere (x : ℕ) : Type 0 where
  pub want : Want
  pub digit-is : x ≡ digit want
  pub item-is : item_of x ≡ here want

pub is-here : (x : ℕ) → 12 ≤ x → x < 16 → IsHere x
unfolding item_of items
is-here = each_from IsHere 12 4 ((((tt, of (expr node) refl refl), of (expr arrow) refl refl), of (expr rule) refl refl), of edit refl refl) where
  of : {x : ℕ} (w : Want) → x ≡ digit w → item_of x ≡ here w → IsHere x
  of w d e = record { want = w; digit-is = d; item-is = e }

-- a pattern that begins with a thing at the code's own level ends with it
here-item : (i : Item) (d : ℕ) (w : Want) (rest : Format (Unit {0})) → i ≡ here w → item_format i d rest ≡ operand w d (λ e. finished)
here-item i d w rest e = unfold item_format in ap (λ j. item_format j d rest) e

pub here-pattern : (pattern d : ℕ) (w : Want) → item_of (pattern % 16) ≡ here w → pattern_format pattern d ≡ operand w d (λ e. finished)
here-pattern pattern d w e = unfold pattern_format in here-item (item_of (pattern % 16)) d w _ e

-- a pattern that begins with nothing ends there
end-item : (i : Item) (d : ℕ) (rest : Format (Unit {0})) → i ≡ nothing → item_format i d rest ≡ finished
end-item i d rest e = unfold item_format in ap (λ j. item_format j d rest) e

pub end-pattern : (pattern d : ℕ) → pattern % 16 < 3 → pattern_format pattern d ≡ finished
end-pattern pattern d h = unfold pattern_format in end-item (item_of (pattern % 16)) d _ (nothing-at (pattern % 16) h)

-- a pattern split at its first item
tail : (d b b' c c' z : ℕ) → b ≡ b' → c ≡ c' → z ≡ 0 → item_format (item_of b) d (item_format (item_of c) d finished) ≡ item_format (item_of b') d (item_format (item_of c') d (item_format (item_of z) d finished))
unfolding item_format item_of items
tail d b b' c c' z p q r = ap₂ (λ x y. item_format (item_of x) d (item_format (item_of y) d finished)) p q ∙ ap (λ u. item_format (item_of b') d (item_format (item_of c') d (item_format (item_of u) d finished))) (sym r)

pub pattern-opens : (pattern d : ℕ) → pattern < 65536 → pattern_format pattern d ≡ item_format (item_of (pattern % 16)) d (pattern_format (pattern / 16) d)
unfolding pattern_format
pattern-opens pattern d h = ap (λ r. item_format (item_of (pattern % 16)) d (item_format (item_of (pattern / 16 % 16)) d r)) (tail d (pattern / 256 % 16) (pattern / 16 / 16 % 16) (pattern / 4096 % 16) (pattern / 16 / 256 % 16) (pattern / 16 / 4096 % 16) (omega arith) (omega arith) (omega arith))

-- an item after which the pattern goes on
abbrev pub GoesOn : Item → Type 0
GoesOn nothing = ⊥
GoesOn (takes k) = Unit {0}
GoesOn (deeper w) = Unit {0}
GoesOn (here w) = ⊥

pub goes_on : (x : ℕ) → 3 ≤ x → x < 12 → GoesOn (item_of x)
goes_on = unfold item_of items in each_from (λ x. GoesOn (item_of x)) 3 9 (((((((((tt, tt), tt), tt), tt), tt), tt), tt), tt), tt)

pub item-then : (i : Item) (d : ℕ) (rest : Format (Unit {0})) → GoesOn i → item_format i d rest ≡ item_format i d finished >>= (λ u. rest)
unfolding item_format ◌>>=◌
item-then nothing d rest h = absurd h
item-then (takes k) d rest h = refl
item-then (deeper w) d rest h = refl
item-then (here w) d rest h = absurd h
