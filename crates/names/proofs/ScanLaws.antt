-- Tokens of bytes that begin with blanks, a mark or a word.
use mathlib.Core.Path.{◌≡◌, refl, sym, ◌∙◌, ap}
use mathlib.Core.Bool.{Bool, true, false, and-eq-true_iff}
use mathlib.Core.List.{List, [], ◌∷◌, ◌++◌, append_assoc, append-nil}
use Prim.Native.Nat.{ℕ, suc}
use Rattle.logic.specs.Lists.{All}
use Rattle.logic.proofs.Bools.{true-false}
use Rattle.names.specs.Token.{Token}
use Rattle.names.specs.Scan.{Class, blank, hash, mark, letter, class_of, Placed, tokens_of, between, comment, in_word, scan, is_letter_def, letters, is_word_def}

-- What a scan does at a byte, by its class: between tokens, and in a word.
abbrev pub between_at : ℕ → List ℕ → (at : ℕ) → Class → List Placed
between_at b bs at c =
    elim c as (λ z. List Placed) [ blank ↦ scan bs between (suc at) | hash ↦ scan bs comment (suc at) | mark ↦ record { place = at; token = b ∷ [] } ∷ scan bs between (suc at) | letter ↦ scan bs (in_word at (b ∷ [])) (suc at) ]

abbrev pub in_word_at : ℕ → List ℕ → (at q : ℕ) → Token → Class → List Placed
in_word_at b bs at q w c =
    elim c as (λ z. List Placed) [
      | blank ↦ record { place = q; token = w } ∷ scan bs between (suc at)
      | hash ↦ record { place = q; token = w } ∷ scan bs comment (suc at)
      | mark ↦ record { place = q; token = w } ∷ record { place = at; token = b ∷ [] } ∷ scan bs between (suc at)
      | letter ↦ scan bs (in_word q (w ++ b ∷ [])) (suc at)
    ]

-- Bytes whose tokens, from any place, are these.
abbrev pub Scans : List ℕ → List Token → Type 0
Scans bs ts = (at : ℕ) → tokens_of (scan bs between at) ≡ ts

-- Blanks alone.
abbrev pub Blanks : List ℕ → Type 0
Blanks bs = All (λ b. class_of b ≡ blank) bs

pub blanks-scanned : (g bs : List ℕ) {ts : List Token} → Blanks g → Scans bs ts → Scans (g ++ bs) ts
unfolding scan
blanks-scanned [] bs h k at = k at
blanks-scanned (b ∷ g) bs {ts} h k at = ap (λ c. tokens_of (between_at b (g ++ bs) at c)) h.0 ∙ blanks-scanned g bs h.1 k (suc at)

-- Bytes that end a word before them.
abbrev pub Stops : List ℕ → Type 0
Stops [] = Unit {0}
Stops (b ∷ bs) = is_letter_def b ≡ false

stopped : (b : ℕ) (bs : List ℕ) (p : ℕ) (w : Token) (at : ℕ) → is_letter_def b ≡ false → tokens_of (scan (b ∷ bs) (in_word p w) at) ≡ w ∷ tokens_of (scan (b ∷ bs) between at)
unfolding scan is_letter_def
stopped b bs p w at h = go (class_of b) h
  where
    go : (c : Class) → elim c as (λ z. Bool) [ blank ↦ false | hash ↦ false | mark ↦ false | letter ↦ true ] ≡ false
        → tokens_of (in_word_at b bs at p w c) ≡ w ∷ tokens_of (between_at b bs at c)
    go blank e = refl
    go hash e = refl
    go mark e = refl
    go letter e = true-false refl e

pub is-letter : (b : ℕ) → is_letter_def b ≡ true → class_of b ≡ letter
unfolding is_letter_def
is-letter b h = go (class_of b) h
  where
    go : (c : Class) → elim c as (λ z. Bool) [ blank ↦ false | hash ↦ false | mark ↦ false | letter ↦ true ] ≡ true → c ≡ letter
    go blank e = true-false e refl
    go hash e = true-false e refl
    go mark e = true-false e refl
    go letter e = refl

run : (w bs : List ℕ) {ts : List Token} (p : ℕ) (sofar : Token) (at : ℕ) → letters w ≡ true → Stops bs → Scans bs ts → tokens_of (scan (w ++ bs) (in_word p sofar) at) ≡ (sofar ++ w) ∷ ts
unfolding scan letters
run [] [] p sofar at h s k = ap (◌∷ []) (sym (append-nil sofar)) ∙ ap ((sofar ++ []) ∷◌) (k at)
run [] (b ∷ bs) p sofar at h s k = stopped b bs p sofar at s ∙ ap (◌∷ tokens_of (scan (b ∷ bs) between at)) (sym (append-nil sofar)) ∙ ap ((sofar ++ []) ∷◌) (k at)
run (c ∷ w) bs {ts} p sofar at h s k =
    let q = (and-eq-true_iff (is_letter_def c) (letters w)).0 h in
    ap (λ x. tokens_of (in_word_at c (w ++ bs) at p sofar x)) (is-letter c q.0)
    ∙ run w bs p (sofar ++ c ∷ []) (suc at) q.1 s k
    ∙ ap (◌∷ ts) (append_assoc sofar (c ∷ []) w)

pub word-scanned : (w bs : List ℕ) {ts : List Token} → is_word_def w ≡ true → Stops bs → Scans bs ts → Scans (w ++ bs) (w ∷ ts)
unfolding scan is_word_def
word-scanned [] bs h s k at = true-false h refl
word-scanned (c ∷ w) bs {ts} h s k at =
    let q = (and-eq-true_iff (is_letter_def c) (letters w)).0 h in
    ap (λ x. tokens_of (between_at c (w ++ bs) at x)) (is-letter c q.0)
    ∙ run w bs at (c ∷ []) (suc at) q.1 s k

pub mark-scanned : (b : ℕ) (bs : List ℕ) {ts : List Token} → class_of b ≡ mark → Scans bs ts → Scans (b ∷ bs) ((b ∷ []) ∷ ts)
unfolding scan
mark-scanned b bs {ts} h k at =
    ap (λ x. tokens_of (between_at b bs at x)) h
    ∙ ap ((b ∷ []) ∷◌) (k (suc at))
