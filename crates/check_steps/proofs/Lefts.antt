-- A law's left side in a text: where its right side is found, and the text that is left.
use mathlib.Core.Path.{◌≡◌, refl, sym, ap, ◌∙◌}
use mathlib.Core.List.{List, [], ◌∷◌, ◌++◌, append_assoc}
use Prim.Native.Nat.{ℕ, suc, ◌+◌, ◌-◌, ◌≤◌, ◌<◌}
use native.Mathlib.Nat.{add-zero}
use native.Mathlib.Omega.{arith}
use lib.ListN.{length, get_or, set, take, drop, length-append}
use lib.Seq.{drop-cons, drop_at, take-append_seam, drop-append-add, get_or-append_seam, get_or-append-add, drop-set-add}
use borrow.Author.Tests.{ne_eqb}
use Rattle.logic.specs.Lists.{All}
use Rattle.logic.specs.Syntax.{Sort, node, arrow, rule, Expr, all, complement, not_rule}
use Rattle.logic.specs.Arity.{complement·, not_rule·, and·, or·, either·, build1, build2, all·, none·, build0}
use Rattle.shortening.specs.Laws.{Law, laws, made}
use Rattle.shortening.proofs.Numbered.{◌&◌}
use Rattle.check_steps.specs.Raised.{behind_at, again_at, first_bytes_def, second_bytes_def, contrary_at, right_at, with_byte, step_on}
use Rattle.check_steps.proofs.Sides.{contrary-found, right-4, right-5, right-again, right-next, side-any, side-both}
use Rattle.check_steps.proofs.TermHeads.{head-0, head-1, head-2}
use Rattle.check_steps.proofs.Texts.{text_of, text-leaf, text-one-then, text-two-then}
use Rattle.check_steps.proofs.Tops.{text-some}
use Rattle.check_steps.proofs.StandsTwice.{behind-term, byte-behind, again-there}
use Rattle.check_steps.proofs.Leaving.{byte-none}

-- A step if the right side is found.
step-found : (t : List ℕ) (at law start : ℕ) → start ≡ right_at t at law → 1 ≤ start → step_on t at law ≡ made (take at t ++ drop start (with_byte t start law))
step-found t at law start e h = unfold step_on in cc (ne_eqb start 0 (λ q. absurd (omega arith)))

-- What the law with a number makes of its left side.
abbrev pub Makes : {s : Sort} → ℕ → Law s → Type 0
Makes {s} n l = (v : Expr s) (B D : List ℕ) → step_on (B ++ (text_of (l.left v) ++ D)) (length B) n ≡ made (B ++ (text_of (l.right v) ++ D))

-- The laws that do not put a byte.
abbrev pub Plain : ℕ → Type 0
Plain n = (n ≤ 8) × (n ≡ 4 → ⊥) × (n ≡ 5 → ⊥)

module _ {s : Sort} (v : Expr s) (B D : List ℕ) (n : ℕ) (plain : Plain n) where
  abbrev at : ℕ
  at = length B

  abbrev X : List ℕ
  X = text_of v

  cut : (Y : List ℕ) (k : ℕ) → 1 ≤ k → at + k ≡ right_at (B ++ Y) at n → step_on (B ++ Y) at n ≡ made (B ++ drop k Y)
  cut Y k some e =
      step-found (B ++ Y) at n (at + k) e (omega arith)
      ∙ cc (byte-none (B ++ Y) (at + k) n plain.1 plain.2, take-append_seam B Y, drop-append-add B Y k)

  -- two bytes, then the term
  two_bytes : (c d : ℕ) {L : List ℕ} → L ≡ c ∷ d ∷ (X ++ D) → c ≡ get_or first_bytes_def n 0 → d ≡ get_or second_bytes_def n 0 → (d ≡ 0 → ⊥)
      → step_on (B ++ L) at n ≡ made (B ++ (X ++ D))
  two_bytes c d is first second some =
      let Y : List ℕ = c ∷ d ∷ (X ++ D) in
      let long : at + 3 ≤ length (B ++ Y) = omega (arith, length-append B Y, length-append X D, text-some v) in
      let side : at + 2 ≡ right_at (B ++ Y) at n =
      right-next (B ++ Y) at n plain.1 plain.2 (λ e. some (second ∙ e))
      ∙ side-both (B ++ Y) at n long plain.0 (get_or-append_seam B c (d ∷ (X ++ D)) 0 ∙ first) (λ e. some (second ∙ e)) (get_or-append-add B Y 1 0 ∙ second) in
      ap (λ z. step_on (B ++ z) at n) is ∙ cut Y 2 (omega arith) side

  -- a byte, then the term twice
  twice : (c : ℕ) {L : List ℕ} → L ≡ c ∷ (X ++ (X ++ D)) → c ≡ get_or first_bytes_def n 0 → get_or second_bytes_def n 0 ≡ 0 → step_on (B ++ L) at n ≡ made (B ++ (X ++ D))
  twice c is first any =
      let Y : List ℕ = c ∷ (X ++ (X ++ D)) in
      let long : at + 3 ≤ length (B ++ Y) = omega (arith, length-append B Y, length-append X (X ++ D), length-append X D, text-some v) in
      let place : at + suc (length X) ≡ again_at (B ++ Y) (at + 1) 0 = omega (arith, again-there B (c ∷ []) v [] D) in
      let side : at + suc (length X) ≡ right_at (B ++ Y) at n =
      place ∙ right-again (B ++ Y) at n plain.1 plain.2 any ∙ side-any (B ++ Y) at n long plain.0 (get_or-append_seam B c (X ++ (X ++ D)) 0 ∙ first) any in
      ap (λ z. step_on (B ++ z) at n) is ∙ cut Y (suc (length X)) (omega arith) side ∙ ap (λ z. made (B ++ z)) (drop_at X (X ++ D) (length X) refl)

-- The laws that put a byte: the last byte of the left side becomes it.
last_byte : (Q D : List ℕ) (start a : ℕ) → suc start ≡ length Q → drop start (set (Q ++ D) start a) ≡ a ∷ D
last_byte Q D start a e =
    let there : start < length (Q ++ D) = omega (arith, length-append Q D) in
    cc (add-zero start, drop-set-add start (Q ++ D) 0 a, drop-cons (Q ++ D) start 0 there, drop_at Q D (suc start) (sym e))

put-made : (B Y Q D : List ℕ) (n start a : ℕ) → B ++ Y ≡ Q ++ D → suc start ≡ length Q → 1 ≤ start → start ≡ right_at (B ++ Y) (length B) n
    → with_byte (B ++ Y) start n ≡ set (B ++ Y) start a → step_on (B ++ Y) (length B) n ≡ made (B ++ (a ∷ D))
put-made B Y Q D n start a whole last some e byte = step-found (B ++ Y) (length B) n start e some ∙ cc (take-append_seam B Y, last_byte Q D start a last)

-- "4 06 E 05 E to 02; 5 07 01 E to 01"
module _ (v : Expr node) (B D : List ℕ) where
  abbrev W : List ℕ
  W = text_of v

  four-made : step_on (B ++ (0x06 ∷ (W ++ (0x05 ∷ (W ++ D))))) (length B) 4 ≡ made (B ++ (0x02 ∷ D))
  unfolding first_bytes_def second_bytes_def with_byte
  four-made =
      let at : ℕ = length B in
      let t : List ℕ = B ++ (0x06 ∷ (W ++ (0x05 ∷ (W ++ D)))) in
      let Q : List ℕ = B ++ (0x06 ∷ (W ++ (0x05 ∷ W))) in
      let second : ℕ = at + 1 + length W + 1 in
      let start : ℕ = second + (second - (at + 2)) - 1 in
      let whole : t ≡ Q ++ D = simp append_assoc in
      let long : length Q ≡ at + (2 + length W + length W) = simp length-append (omega arith) in
      let room : at + 3 ≤ length t = omega (arith, ap length whole, length-append Q D, text-some v) in
      let place : second - 1 ≡ at + 1 + length W + 0 = omega arith in
      let between : get_or t (second - 1) 0 ≡ 0x05 = ap (λ k. get_or t k 0) place ∙ byte-behind B (0x06 ∷ []) v (0x05 ∷ (W ++ D)) 0 in
      let contrary : start ≡ contrary_at t at = contrary-found t at second (sym (again-there B (0x06 ∷ []) v (0x05 ∷ []) D)) (omega arith) between in
      put-made B (0x06 ∷ (W ++ (0x05 ∷ (W ++ D)))) Q D 4 start 0x02 whole (omega (arith, text-some v)) (omega (arith, text-some v))
      (contrary ∙ right-4 t at 4 refl ∙ side-any t at 4 room (omega arith) (get_or-append_seam B 0x06 (W ++ (0x05 ∷ (W ++ D))) 0) refl) refl

  five-made : step_on (B ++ (0x07 ∷ 0x01 ∷ (W ++ D))) (length B) 5 ≡ made (B ++ (0x01 ∷ D))
  unfolding first_bytes_def second_bytes_def with_byte
  five-made =
      let at : ℕ = length B in
      let Y : List ℕ = 0x07 ∷ 0x01 ∷ (W ++ D) in
      let Q : List ℕ = B ++ (0x07 ∷ 0x01 ∷ W) in
      let ends : behind_at (B ++ Y) (at + 2) ≡ at + 2 + length W = behind-term B (0x07 ∷ 0x01 ∷ []) v D in
      let room : at + 3 ≤ length (B ++ Y) = omega (arith, length-append B Y, length-append W D, text-some v) in
      put-made B Y Q D 5 (behind_at (B ++ Y) (at + 2) - 1) 0x01 (simp append_assoc) (omega (arith, text-some v, length-append B (0x07 ∷ 0x01 ∷ W))) (omega arith)
      (right-5 (B ++ Y) at 5 (omega arith) refl ∙ side-both (B ++ Y) at 5 room (omega arith) (get_or-append_seam B 0x07 (0x01 ∷ (W ++ D)) 0) (omega arith) (get_or-append-add B Y 1 0)) refl

-- Each law of the table.
pub laws-make : (s : Sort) → All (λ l. Makes l.number l) (laws s)
unfolding laws first_bytes_def second_bytes_def build0 build1 build2 head-0 head-1 head-2
laws-make node =
    (λ v B D. two_bytes v B D 1 (omega arith) 0x05 0x05 (text-one-then complement· (complement v) D ∙ ap (0x05 ∷◌) (text-one-then complement· v D)) refl refl (omega arith))
    & (λ v B D. twice v B D 2 (omega arith) 0x06 (text-two-then and· v v D) refl refl)
    & (λ v B D. twice v B D 3 (omega arith) 0x07 (text-two-then or· v v D) refl refl)
    & (λ v B D. cc (text-two-then and· v (complement v) D, text-one-then complement· v D, four-made v B D, text-leaf none·))
    & (λ v B D. cc (text-two-then or· all v D, text-leaf all·, five-made v B D))
    & (λ v B D. two_bytes v B D 6 (omega arith) 0x06 0x01 (text-two-then and· all v D ∙ ap (λ z. 0x06 ∷ (z ++ (text_of v ++ D))) (text-leaf all·)) refl refl (omega arith))
    & tt
laws-make arrow = tt
laws-make rule =
    (λ v B D. two_bytes v B D 7 (omega arith) 0x27 0x27 (text-one-then not_rule· (not_rule v) D ∙ ap (0x27 ∷◌) (text-one-then not_rule· v D)) refl refl (omega arith))
    & (λ v B D. twice v B D 8 (omega arith) 0x26 (text-two-then either· v v D) refl refl)
    & tt
