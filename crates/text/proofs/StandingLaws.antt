-- Bytes at a place of a text: the first of them, what follows them, and that they are within the text.
use mathlib.Core.Path.{◌≡◌, sym, ap, ◌∙◌}
use mathlib.Core.List.{List, ◌∷◌, ◌++◌}
use Prim.Native.Nat.{ℕ, ◌+◌, ◌-◌}
use native.Mathlib.Nat.{add-zero}
use lib.ListN.{length, get_or, drop, length-append, length-drop}
use lib.Seq.{get_or-drop, drop-drop, drop-append_seam}

pub byte_at : (text : List ℕ) (at x : ℕ) (l : List ℕ) → drop at text ≡ x ∷ l → get_or text at 0 ≡ x
byte_at text at x l e = ap (λ (k : ℕ). get_or text k 0) (sym (add-zero at)) ∙ sym (get_or-drop at text 0 0) ∙ ap (λ (m : List ℕ). get_or m 0 0) e

pub behind : (text : List ℕ) (at : ℕ) (h l : List ℕ) → drop at text ≡ h ++ l → drop (at + length h) text ≡ l
behind text at h l e = sym (drop-drop (length h) at text) ∙ ap (drop (length h)) e ∙ drop-append_seam h l

pub within : (text : List ℕ) (at : ℕ) (h l : List ℕ) → drop at text ≡ h ++ l → length h + length l ≡ length text - at
within text at h l e = sym (length-append h l) ∙ ap length (sym e) ∙ length-drop at text
