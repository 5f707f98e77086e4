-- The patterns of the codes compared with their formats: the format at a byte is the one that its pattern says.
use mathlib.Core.Path.{◌≡◌, refl, sym, ◌∙◌, ap, subst}
use mathlib.Core.Bool.{Bool, true, false, ◌&&◌, cond, and-eq-true_iff}
use mathlib.Core.List.{List, [], ◌∷◌, ◌++◌}
use mathlib.Core.Logic.{◌≢◌}
use Prim.Native.Nat.{ℕ, zero, suc, ◌+◌, ◌-◌, ◌≤◌, ◌<◌}
use native.Mathlib.Omega.{arith}
use lib.Dec.{T, leb, ltb, eqb, eqb→eq}
use lib.ListN.{get_or}
use borrow.Author.Tests.{ltb-true, eqb-true, eqb-false}
use Rattle.logic.specs.Syntax.{node, arrow, rule}
use Rattle.logic.specs.Lists.{All}
use Rattle.text.specs.Reading.{Want, expr, edit, Thing, Format, ◌>>=◌, Entry, Read, codes, choice}
use Rattle.text.specs.Patterns.{Turn, items, item_of, node_patterns, arrow_patterns, rule_patterns, edit_patterns, CodeSort, nodes, arrows, rules, edits, no_code_def, code_sort, pattern_in, sort_digit, pattern_of_def, item_format, pattern_format, sort_of_def, turn_of}
use Rattle.text.proofs.Compose.{Alike, same_end, same_number, same_operand}
use Rattle.text.proofs.CodeSorts.{in-range}
use Rattle.text.proofs.Items.{digit}
use Rattle.text.proofs.Converse.{◌&◌}

ruleset alike = (same_end, same_number, same_operand)

-- the table of patterns next to the table of formats
abbrev pub EachPattern : (w : Want) (d : ℕ) → List (Entry (Thing w)) → Type 0
EachPattern w d = All (λ e. (sort_of_def e.byte ≡ digit w) × Alike e.format (pattern_format (pattern_of_def e.byte) d))

pub codes-patterns : (w : Want) (d : ℕ) → EachPattern w d (codes d w)
unfolding codes node_patterns arrow_patterns rule_patterns edit_patterns code_sort pattern_in sort_digit pattern_format item_format item_of items ◌>>=◌
codes-patterns (expr node) d =
    (refl, same_end) & (refl, same_end) & search alike & search alike & search alike & search alike & search alike
    & search alike & search alike & search alike & search alike & tt
codes-patterns (expr arrow) d = search alike depth 40
codes-patterns (expr rule) d = search alike depth 40
codes-patterns edit d = search alike depth 40

-- A byte that is not a code of the sort has no entry; one that is has one, and its pattern is that entry's.
abbrev pub Differ : {A : Type 0} → ℕ → List (Entry A) → Type 0
Differ c = All (λ e. c ≢ e.byte)

module _ (w : Want) (d c : ℕ) {B : Type 0} (found : Format (Thing w) → Read B) (other : Read B) where
  pub no-entry : (es : List (Entry (Thing w))) → EachPattern w d es → (sort_of_def c ≡ digit w → ⊥) → choice c es found other ≡ other
  unfolding choice
  no-entry [] h k = refl
  no-entry (e ∷ es) h k = go (eqb c e.byte) (eqb→eq c e.byte) (no-entry es h.1 k) where
    go : (b : Bool) → (T b → c ≡ e.byte) → choice c es found other ≡ other → elim b as (λ z. Read B) [ true ↦ found e.format | false ↦ choice c es found other ] ≡ other
    go true f r = absurd (k (ap sort_of_def (f tt) ∙ h.0.0))
    go false f r = r

  pub an-entry : (turn : Turn) → ((p : Format (Thing w)) → Alike p (pattern_format (pattern_of_def c) d) → turn_of (found p) ≡ turn) → (es : List (Entry (Thing w))) → EachPattern w d es → (Differ c es → ⊥) → turn_of (choice c es found other) ≡ turn
  unfolding choice
  an-entry turn k [] h n = absurd (n tt)
  an-entry turn k (e ∷ es) h n = go (eqb c e.byte) (eqb-true c e.byte) (eqb-false c e.byte) (an-entry turn k es h.1) where
    go : (b : Bool) → (b ≡ true → c ≡ e.byte) → (b ≡ false → c ≡ e.byte → ⊥) → ((Differ c es → ⊥) → turn_of (choice c es found other) ≡ turn) → turn_of {A = B} (elim b as (λ z. Read B) [ true ↦ found e.format | false ↦ choice c es found other ]) ≡ turn
    go true f g r = k e.format (subst (λ x. Alike e.format (pattern_format (pattern_of_def x) d)) (sym (f refl)) h.0.1)
    go false f g r = r (λ m. n (g refl, m))

-- the range of a code of each sort
abbrev Chosen : ℕ → Bool → Bool → Bool → Bool → Type 0
Chosen x p q r s = ((x ≡ 0xC → p ≡ true) × (x ≡ 0xD → q ≡ true)) × ((x ≡ 0xE → r ≡ true) × (x ≡ 0xF → s ≡ true))

chosen : (p q r s : Bool) → Chosen (sort_digit (cond p nodes (cond q arrows (cond r rules (cond s edits no_code_def))))) p q r s
unfolding sort_digit
chosen true q r s = ((λ h. refl, λ h. absurd (omega arith)), (λ h. absurd (omega arith), λ h. absurd (omega arith)))
chosen false true r s = ((λ h. absurd (omega arith), λ h. refl), (λ h. absurd (omega arith), λ h. absurd (omega arith)))
chosen false false true s = ((λ h. absurd (omega arith), λ h. absurd (omega arith)), (λ h. refl, λ h. absurd (omega arith)))
chosen false false false true = ((λ h. absurd (omega arith), λ h. absurd (omega arith)), (λ h. absurd (omega arith), λ h. refl))
chosen false false false false = ((λ h. absurd (omega arith), λ h. absurd (omega arith)), (λ h. absurd (omega arith), λ h. absurd (omega arith)))

sorts : (c : ℕ) → Chosen (sort_of_def c) (leb 0x01 c && leb c 0x0B) (leb 0x11 c && leb c 0x17) (leb 0x21 c && leb c 0x27) (leb 0x30 c && leb c 0x35)
sorts c = unfold code_sort sort_digit in chosen (leb 0x01 c && leb c 0x0B) (leb 0x11 c && leb c 0x17) (leb 0x21 c && leb c 0x27) (leb 0x30 c && leb c 0x35)

-- a number in a range is one of its numbers
abbrev from : (lo k : ℕ) → List ℕ
from lo zero = []
from lo (suc k) = lo ∷ from (suc lo) k

one_of : (lo k c : ℕ) → lo ≤ c → c < lo + k → All (λ b. c ≢ b) (from lo k) → ⊥
one_of lo zero c h l n = omega arith
one_of lo (suc k) c h l n = one_of (suc lo) k c (omega (arith, n.0)) (omega arith) n.1

pub has-entry : (w : Want) (d c : ℕ) → sort_of_def c ≡ digit w → Differ c (codes d w) → ⊥
unfolding codes
has-entry (expr node) d c h n = let q = in-range 0x01 0x0B c ((sorts c).0.0 h) in one_of 0x01 11 c q.0 (omega arith) n
has-entry (expr arrow) d c h n = let q = in-range 0x11 0x17 c ((sorts c).0.1 h) in one_of 0x11 7 c q.0 (omega arith) n
has-entry (expr rule) d c h n = let q = in-range 0x21 0x27 c ((sorts c).1.0 h) in one_of 0x21 7 c q.0 (omega arith) n
has-entry edit d c h n = let q = in-range 0x30 0x35 c ((sorts c).1.1 h) in one_of 0x30 6 c q.0 (omega arith) n

-- The bytes of the codes of expressions.
abbrev pub expression_bytes : List ℕ
expression_bytes = from 0x01 11 ++ (from 0x11 7 ++ from 0x21 7)

-- Patterns have at most four digits.
unfoldable small : List ℕ → Bool
small [] = true
small (x ∷ xs) = ltb x 65536 && small xs

small_at : (xs : List ℕ) (i : ℕ) → small xs ≡ true → get_or xs i 0 < 65536
unfolding small
small_at [] i h = omega arith
small_at (x ∷ xs) zero h = ltb-true x 65536 ((and-eq-true_iff (ltb x 65536) (small xs)).0 h).0
small_at (x ∷ xs) (suc i) h = small_at xs i ((and-eq-true_iff (ltb x 65536) (small xs)).0 h).1

pub pattern-small : (c : ℕ) → pattern_of_def c < 65536
unfolding pattern_in small node_patterns arrow_patterns rule_patterns edit_patterns
pattern-small c = go (code_sort c) where
  go : (s : CodeSort) → pattern_in s c < 65536
  go nodes = small_at node_patterns (c - 0x01) refl
  go arrows = small_at arrow_patterns (c - 0x11) refl
  go rules = small_at rule_patterns (c - 0x21) refl
  go edits = small_at edit_patterns (c - 0x30) refl
  go no_code_def = omega arith
