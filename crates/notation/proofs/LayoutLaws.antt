-- The tokens of a laid-out text are the tokens that were laid out.
use mathlib.Core.Path.{◌≡◌, refl, sym, subst}
use mathlib.Core.Bool.{Bool, true, false, ◌||◌, cond}
use mathlib.Core.List.{List, [], ◌∷◌, ◌++◌}
use mathlib.Core.Logic.{◌⊎◌, inl, inr}
use Prim.Native.Nat.{ℕ, zero, suc, ◌+◌, ◌*◌, ◌-◌}
use lib.ListN.{replicate}
use Rattle.logic.specs.Lists.{All}
use Rattle.logic.proofs.Bools.{true-false}
use Rattle.names.specs.Token.{Token, ascii, same}
use Rattle.names.specs.Scan.{class_of, scan, is_letter_def, is_word_def}
use Rattle.names.proofs.TokenLaws.{same_true}
use Rattle.names.proofs.ScanLaws.{Scans, Blanks, blanks-scanned, Stops, word-scanned, mark-scanned}
use Rattle.notation.specs.Grammar.{else_word, end_word}
use Rattle.notation.specs.Layout.{Before, at_start, opened, other, is_mark_def, brackets, ifs, margin, gap, after_token, lay}

-- A mark, or a word.
abbrev pub Proper : Token → Type 0
Proper t = (is_mark_def t ≡ true) ⊎ ((is_mark_def t ≡ false) × (is_word_def t ≡ true))

abbrev pub EachProper : List Token → Type 0
EachProper ts = All Proper ts

-- one of the three marks
abbrev Three : Token → Type 0
Three t = (t ≡ ascii "(") ⊎ ((t ≡ ascii ",") ⊎ (t ≡ ascii ")"))

three : (t : Token) → is_mark_def t ≡ true → Three t
unfolding is_mark_def
three t h = go (same t (ascii "(")) refl (same t (ascii ",")) refl (same t (ascii ")")) refl h
  where
    go : (a : Bool) → same t (ascii "(") ≡ a → (b : Bool) → same t (ascii ",") ≡ b → (c : Bool) → same t (ascii ")") ≡ c → (a || (b || c)) ≡ true → Three t
    go true e b f c g h = inl (same_true t (ascii "(") e)
    go false e true f c g h = inr (inl (same_true t (ascii ",") f))
    go false e false f true g h = inr (inr (same_true t (ascii ")") g))
    go false e false f false g h = true-false h refl

three-scanned : (t : Token) (bs : List ℕ) {ts : List Token} → Three t → Scans bs ts → Scans (t ++ bs) (t ∷ ts)
unfolding ascii class_of
three-scanned t bs {ts} (inl e) k = subst (λ z. Scans (z ++ bs) (z ∷ ts)) (sym e) (mark-scanned 0x28 bs refl k)
three-scanned t bs {ts} (inr (inl e)) k = subst (λ z. Scans (z ++ bs) (z ∷ ts)) (sym e) (mark-scanned 0x2C bs refl k)
three-scanned t bs {ts} (inr (inr e)) k = subst (λ z. Scans (z ++ bs) (z ∷ ts)) (sym e) (mark-scanned 0x29 bs refl k)

three-stops : (t : Token) (bs : List ℕ) → Three t → Stops (t ++ bs)
unfolding ascii class_of is_letter_def
three-stops t bs (inl e) = subst (λ z. Stops (z ++ bs)) (sym e) refl
three-stops t bs (inr (inl e)) = subst (λ z. Stops (z ++ bs)) (sym e) refl
three-stops t bs (inr (inr e)) = subst (λ z. Stops (z ++ bs)) (sym e) refl

blank-run : (n : ℕ) → Blanks (replicate n 0x20)
unfolding class_of
blank-run zero = tt
blank-run (suc n) = (refl, blank-run n)

margin-blank : (i : ℕ) (t : Token) → Blanks (margin i t)
unfolding margin
margin-blank i t = blank-run (2 * cond (same t else_word || same t end_word) (i - 1) i)

gap-blank : (p : Before) (b i : ℕ) (t : Token) → Blanks (gap p b i t)
unfolding gap class_of
gap-blank at_start b i t = tt
gap-blank opened zero i t = (refl, margin-blank i t)
gap-blank opened (suc b) i t = tt
gap-blank other zero i t = (refl, margin-blank i t)
gap-blank other (suc b) i t = (refl, tt)

-- after a word, which is not `(`
word-prefixed : (t : Token) → is_mark_def t ≡ false → after_token t ≡ other
unfolding after_token is_mark_def
word-prefixed t h = go (same t (ascii "(")) h
  where
    go : (a : Bool) → (a || (same t (ascii ",") || same t (ascii ")"))) ≡ false → cond a opened other ≡ other
    go true e = true-false refl e
    go false e = refl

other-stops : (b i : ℕ) (ts : List Token) → EachProper ts → Stops (lay other b i ts)
unfolding lay gap class_of is_letter_def
other-stops b i [] h = refl
other-stops b i (t ∷ ts) h = go b h.0
  where
    go : (b : ℕ) → Proper t → Stops (lay other b i (t ∷ ts))
    go b (inl m) = rw (m, lay) (three-stops t _ (three t m))
    go zero (inr w) = rw (w.0, lay) refl
    go (suc b) (inr w) = rw (w.0, lay) refl

-- THE TOKENS ARE THOSE LAID OUT.
pub laid-scanned : (p : Before) (b i : ℕ) (ts : List Token) → EachProper ts → Scans (lay p b i ts) ts
unfolding lay scan class_of
laid-scanned at_start b i [] h = λ at. refl
laid-scanned opened b i [] h = λ at. refl
laid-scanned other b i [] h = λ at. refl
laid-scanned p b i (t ∷ ts) h = go h.0 (laid-scanned (after_token t) (brackets b t) (ifs b i t) ts h.1)
  where
    go : Proper t → Scans (lay (after_token t) (brackets b t) (ifs b i t) ts) ts → Scans (lay p b i (t ∷ ts)) (t ∷ ts)
    go (inl m) k = rw (m, lay) (three-scanned t (lay (after_token t) (brackets b t) (ifs b i t) ts) (three t m) k)
    go (inr w) k =
        rw (w.0, lay)
        (blanks-scanned (gap p b i t) (t ++ lay (after_token t) (brackets b t) (ifs b i t) ts) (gap-blank p b i t)
        (word-scanned t (lay (after_token t) (brackets b t) (ifs b i t) ts) w.1
        (subst (λ z. Stops (lay z (brackets b t) (ifs b i t) ts)) (sym (word-prefixed t w.0)) (other-stops (brackets b t) (ifs b i t) ts h.1)) k))
