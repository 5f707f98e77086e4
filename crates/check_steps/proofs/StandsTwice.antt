-- A term that occurs twice, with some bytes between: the code finds it, and what the code finds is such a term.
use mathlib.Core.Path.{◌≡◌, refl, sym, ap, ◌∙◌, subst}
use mathlib.Core.List.{List, [], ◌∷◌, ◌++◌}
use Prim.Native.Nat.{ℕ, ◌+◌, ◌-◌, ◌≤◌, ◌<◌}
use native.Mathlib.Nat.{add-zero, add_assoc}
use native.Mathlib.Decide.{ℕ_discrete}
use native.Mathlib.Omega.{arith}
use lib.ListN.{length, get_or, take, drop, length-append, length-take, take-append-drop, get_or-append}
use lib.Seq.{drop-append-add, drop-append_seam, ext_get_or, get_or-take, get_or-append-add}
use borrow.Author.Tests.{eqb-true, eq-eqb}
use Rattle.logic.specs.Syntax.{Sort, node, Expr, complement}
use Rattle.logic.specs.Limits.{max_nodes, ranges, InRange}
use Rattle.logic.specs.Arity.{complement·, build1}
use Rattle.logic.proofs.Below.{all-each, all_true}
use Rattle.text.specs.Code.{code, levels}
use Rattle.text.specs.Reading.{Limits, expr}
use Rattle.text.proofs.TextReadBack.{one-reading}
use Rattle.check_steps.specs.Raised.{lowered, width, behind_at, again_at, contrary_at}
use Rattle.check_steps.proofs.Spans.{raised-length, width-none, again-found, AgainIn, again-in}
use Rattle.check_steps.proofs.Sides.{contrary-none, contrary-other}
use Rattle.check_steps.proofs.TermHeads.{head-1}
use Rattle.check_steps.proofs.Texts.{text_of, text-one-then, width-text, lowered-append, lowered-text}
use Rattle.check_steps.proofs.Tops.{top, text-some, begun-by}

-- A term after the bytes B and h, with Z after it.
module _ (B h : List ℕ) {s : Sort} (E : Expr s) (Z : List ℕ) where
  abbrev at : ℕ
  at = length B + length h

  abbrev t : List ℕ
  t = B ++ (h ++ (text_of E ++ Z))

  pub behind-term : behind_at t at ≡ at + length (text_of E)
  behind-term =
      ap (at +◌)
      (ap (width 0 1) (drop-append-add B (h ++ (text_of E ++ Z)) (length h) ∙ drop-append_seam h (text_of E ++ Z)) ∙ width-text E 0 Z ∙ omega (arith, width-none 0 0 refl Z, raised-length 0 (code E)))

  byte_at : (i : ℕ) → get_or t (at + i) 0 ≡ get_or (text_of E ++ Z) i 0
  byte_at i = rw (add_assoc (length B) (length h) i, get_or-append-add, get_or-append-add)

  byte-in : (i : ℕ) → i < length (text_of E) → get_or t (at + i) 0 ≡ get_or (text_of E) i 0
  byte-in i l = byte_at i ∙ get_or-append (text_of E) Z 0 i l

  pub top-at : get_or t at 0 ≡ top E
  top-at = ap (λ k. get_or t k 0) (sym (add-zero at)) ∙ byte-in 0 (text-some E)

  pub byte-behind : (i : ℕ) → get_or t (at + length (text_of E) + i) 0 ≡ get_or Z i 0
  byte-behind i = cc (add_assoc at (length (text_of E)) i, byte_at (length (text_of E) + i), get_or-append-add (text_of E) Z i 0)

  length-text : length t ≡ at + length (text_of E) + length Z
  length-text = simp length-append (omega arith)

  -- where it is found again
  again-place : (gap : ℕ) → (again_at t at gap ≡ 0 → ⊥) → again_at t at gap ≡ at + length (text_of E) + gap
  again-place gap nonzero = (again-in t at gap (again_at t at gap) refl nonzero).is ∙ ap (◌+ gap) behind-term

-- The bytes after it and a gap G.
module _ (B h : List ℕ) {s : Sort} (E : Expr s) (G : List ℕ) where
  abbrev n : ℕ
  n = length (text_of E)

  abbrev start : ℕ
  start = length B + length h

  byte-again : (Y : List ℕ) (i : ℕ) → get_or (t B h E (G ++ Y)) (start + n + length G + i) 0 ≡ get_or Y i 0
  byte-again Y i = cc (add_assoc (start + n) (length G) i, byte-behind B h E (G ++ Y) (length G + i), get_or-append-add G Y i 0)

  -- A term that occurs twice is found,
  pub again-there : (D : List ℕ) → again_at (t B h E (G ++ (text_of E ++ D))) start (length G) ≡ start + n + length G
  again-there D =
      let Z : List ℕ = G ++ (text_of E ++ D) in
      let room : start + n + length G + (start + n - start) ≤ length (t B h E Z) = omega (arith, length-text B h E Z, length-append G (text_of E ++ D), length-append (text_of E) D) in
      sym (again-found (t B h E Z) start (length G) (start + n) (sym (behind-term B h E Z)) room n (omega arith) (omega arith)
      (all_true n _ (λ i l. eq-eqb _ _ (byte-in B h E Z i l ∙ sym (byte-again (text_of E ++ D) i ∙ get_or-append (text_of E) D 0 i l)))))

  -- and what is found is such a term.
  module _ (D : List ℕ) (F : Expr s) (nonzero : again_at (t B h E (G ++ (text_of F ++ D))) start (length G) ≡ 0 → ⊥) where
    abbrev Y : List ℕ
    Y = text_of F ++ D

    copied : text_of E ≡ take n Y
    copied =
        let text : List ℕ = t B h E (G ++ Y) in
        let place : ℕ = again_at text start (length G) in
        let there : AgainIn text start (length G) place = again-in text start (length G) place refl nonzero in
        let place_is : place ≡ start + n + length G = again-place B h E (G ++ Y) (length G) nonzero in
        let room : n ≤ length Y = omega (arith, there.room, length-text B h E (G ++ Y), length-append G Y) in
        let alike_at : (i : ℕ) → i < n → get_or text (start + i) 0 ≡ get_or text (place + i) 0 = λ i k. eqb-true _ _ (all-each (place - length G - start) _ there.same i (omega arith)) in
        ext_get_or 0 (text_of E) (take n Y) (omega (arith, length-take n Y))
        (λ i k. cc (byte-in B h E (G ++ Y) i k, alike_at i k, place_is, byte-again Y i, get_or-take n Y i 0 k))

    pub same-again : InRange (ranges max_nodes) E → InRange (ranges max_nodes) F → E ≡ F
    same-again r q =
        let l : Limits = record { longest = 0; deepest = levels E + levels F; numbers = ranges max_nodes } in
        one-reading l (expr s) 1 E F (lowered (drop n Y)) (lowered D) (record { numbers_fit = r; levels-fit = omega arith }) (record { numbers_fit = q; levels-fit = omega arith })
        (cc (lowered-text E r, lowered-append (text_of E) (drop n Y), copied, take-append-drop n Y, lowered-append (text_of F) D, lowered-text F q))

-- c E F where F begins with 05 and then has E again.
pub contrary-of : (B : List ℕ) (c : ℕ) (D : List ℕ) (E F : Expr node) → InRange (ranges max_nodes) E → InRange (ranges max_nodes) F
    → (contrary_at (B ++ (c ∷ (text_of E ++ (text_of F ++ D)))) (length B) ≡ 0 → ⊥) → F ≡ complement E
unfolding InRange build1 head-1
contrary-of B c D E F r q found = go (begun-by F 0x05 (sym first ∙ five (ℕ_discrete (get_or text (second - 1) 0) 0x05))) where
  h : List ℕ
  h = c ∷ []

  text : List ℕ
  text = B ++ (h ++ (text_of E ++ (text_of F ++ D)))

  second : ℕ
  second = again_at text (length B + 1) 1

  nonzero : second ≡ 0 → ⊥
  nonzero z = found (sym (contrary-none text (length B) second refl z))

  five : Dec (get_or text (second - 1) 0 ≡ 0x05) → get_or text (second - 1) 0 ≡ 0x05
  five (yes e) = e
  five (no e) = absurd (found (sym (contrary-other text (length B) second refl nonzero e)))

  first : get_or text (second - 1) 0 ≡ top F
  first =
      let e : second - 1 ≡ length B + 1 + length (text_of E) + 0 = omega (arith, again-place B h E (text_of F ++ D) 1 nonzero) in
      cc (byte-behind B h E (text_of F ++ D) 0, get_or-append (text_of F) D 0 0 (text-some F))

  go : (G : Expr node) × (F ≡ complement G) → F ≡ complement E
  go (G, e) =
      let opened : text_of F ++ D ≡ 0x05 ∷ (text_of G ++ D) = ap (λ x. text_of x ++ D) e ∙ text-one-then complement· G D in
      let stands : again_at (B ++ (h ++ (text_of E ++ (0x05 ∷ (text_of G ++ D))))) (length B + 1) 1 ≡ 0 → ⊥ = λ z. nonzero (rw opened z) in
      e ∙ ap complement (sym (same-again B h E (0x05 ∷ []) D G stands r (subst (InRange (ranges max_nodes)) e q)))
