-- The scanner's steps, for the proofs about its functions.
use mathlib.Core.Path.{◌≡◌, refl, sym, ◌∙◌, ap, ap₂}
use mathlib.Core.Bool.{Bool, true, false, cond}
use mathlib.Core.List.{List, [], ◌∷◌, ◌++◌}
use Prim.Native.Nat.{ℕ, suc, ◌+◌, ◌-◌, ◌<◌, ◌≤◌}
use native.Mathlib.Omega.{arith}
use native.Mathlib.Numerals.{add-one}
use lib.Dec.{eqb}
use lib.ListN.{length, get_or, take, drop, drop_of_length-le, length-drop}
use lib.Seq.{drop-cons, take-suc, get_or-drop}
use borrow.Author.Tests.{eq-eqb, ne_eqb}
use Rattle.logic.proofs.Bools.{true-false}
use Rattle.names.specs.Token.{Token}
use Rattle.names.specs.Scanned.{slice, tokens_from, Skipped, WordEnded, Next}
use Rattle.names.specs.Scan.{Class, blank, hash, mark, letter, class_of, is_blank_def, is_mark_byte, is_letter_def, Placed, Mode, between, comment, in_word, scan}
use Rattle.names.proofs.ScanLaws.{between_at, in_word_at, is-letter}

-- classes
module _ (b : ℕ) where
  by-class : (w h p : Bool) → is_blank_def b ≡ w → eqb b 0x23 ≡ h → is_mark_byte b ≡ p → class_of b ≡ cond w blank (cond h hash (cond p mark letter))
  unfolding class_of
  by-class w h p e f g = ap₂ (λ x y. cond x blank (cond (eqb b 0x23) hash (cond y mark letter))) e g ∙ ap (λ z. cond w blank (cond z hash (cond p mark letter))) f

  pub is-blank-class : is_blank_def b ≡ true → class_of b ≡ blank
  is-blank-class e = by-class true (eqb b 0x23) (is_mark_byte b) e refl refl

  pub is-hash-class : is_blank_def b ≡ false → eqb b 0x23 ≡ true → class_of b ≡ hash
  is-hash-class e f = by-class false true (is_mark_byte b) e f refl

  pub is-mark-class : is_blank_def b ≡ false → eqb b 0x23 ≡ false → is_mark_byte b ≡ true → class_of b ≡ mark
  is-mark-class e f g = by-class false false true e f g

  pub is-letter-class : is_blank_def b ≡ false → eqb b 0x23 ≡ false → is_mark_byte b ≡ false → class_of b ≡ letter
  is-letter-class e f g = by-class false false false e f g

  letter-is : (c : Class) → class_of b ≡ c → is_letter_def b ≡ elim c as (λ z. Bool) [ blank ↦ false | hash ↦ false | mark ↦ false | letter ↦ true ]
  unfolding is_letter_def
  letter-is c e = ap (λ c. elim c as (λ z. Bool) [ blank ↦ false | hash ↦ false | mark ↦ false | letter ↦ true ]) e

module _ (text : List ℕ) (p : ℕ) where
  -- at the text's end
  pub comment-ends : length text ≤ p → scan (drop p text) comment p ≡ tokens_from text p
  unfolding scan
  comment-ends h = rw (drop_of_length-le text {i = p} h)

  pub none_left : length text ≤ p → tokens_from text p ≡ []
  unfolding scan
  none_left h = rw (drop_of_length-le text {i = p} h)

  pub word-ends-text : (q : ℕ) (w : Token) → length text ≤ p → scan (drop p text) (in_word q w) p ≡ record { place = q; token = w } ∷ tokens_from text p
  unfolding scan
  word-ends-text q w h = rw (drop_of_length-le text {i = p} h)

  module _ (h : p < length text) where
    byte_at : (m : Mode) → scan (drop p text) m p ≡ scan (get_or text p 0 ∷ drop (suc p) text) m p
    byte_at m = ap (λ z. scan z m p) (drop-cons text p 0 h)

    on : (m : Mode) → scan (drop (suc p) text) m (suc p) ≡ scan (drop (p + 1) text) m (p + 1)
    on m = sym (ap (λ z. scan (drop z text) m z) (add-one p))

    pub comment-on : (get_or text p 0 ≡ 0x0A → ⊥) → scan (drop p text) comment p ≡ scan (drop (p + 1) text) comment (p + 1)
    unfolding scan
    comment-on n =
        byte_at comment
        ∙ ap (λ b. elim b as (λ z. List Placed) [ true ↦ scan (drop (suc p) text) between (suc p) | false ↦ scan (drop (suc p) text) comment (suc p) ]) (ne_eqb (get_or text p 0) 0x0A n)
        ∙ on comment

    pub blank-on : is_blank_def (get_or text p 0) ≡ true → tokens_from text p ≡ tokens_from text (p + 1)
    unfolding scan
    blank-on e = byte_at between ∙ ap (between_at (get_or text p 0) (drop (suc p) text) p) (is-blank-class (get_or text p 0) e) ∙ on between

    pub comment-stops : get_or text p 0 ≡ 0x0A → scan (drop p text) comment p ≡ tokens_from text p
    unfolding scan
    comment-stops e =
        byte_at comment
        ∙ ap (λ b. elim b as (λ z. List Placed) [ true ↦ scan (drop (suc p) text) between (suc p) | false ↦ scan (drop (suc p) text) comment (suc p) ]) (eq-eqb (get_or text p 0) 0x0A e)
        ∙ on between
        ∙ sym (blank-on (ap is_blank_def e))

    pub hash-on : get_or text p 0 ≡ 0x23 → tokens_from text p ≡ scan (drop (p + 1) text) comment (p + 1)
    unfolding scan
    hash-on e = byte_at between ∙ ap (between_at (get_or text p 0) (drop (suc p) text) p) (is-hash-class (get_or text p 0) (ap is_blank_def e) (eq-eqb (get_or text p 0) 0x23 e)) ∙ on comment

    -- one byte of a word, and the word so far
    one_byte : slice text p (p + 1) ≡ get_or text p 0 ∷ []
    one_byte = let d : p + 1 - p ≡ 1 = omega arith in ap (λ n. take n (drop p text)) d ∙ ap (take 1) (drop-cons text p 0 h)

    pub mark-there : is_blank_def (get_or text p 0) ≡ false → eqb (get_or text p 0) 0x23 ≡ false → is_mark_byte (get_or text p 0) ≡ true
        → tokens_from text p ≡ record { place = p; token = slice text p (p + 1) } ∷ tokens_from text (p + 1)
    unfolding scan
    mark-there e f g =
        byte_at between ∙ ap (between_at (get_or text p 0) (drop (suc p) text) p) (is-mark-class (get_or text p 0) e f g) ∙ ap₂ (λ t r. record { place = p; token = t } ∷ r) (sym one_byte) (on between)

    pub word-starts : is_letter_def (get_or text p 0) ≡ true → tokens_from text p ≡ scan (drop (p + 1) text) (in_word p (slice text p (p + 1))) (p + 1)
    unfolding scan
    word-starts e =
        byte_at between
        ∙ ap (between_at (get_or text p 0) (drop (suc p) text) p) (is-letter (get_or text p 0) e)
        ∙ ap (λ t. scan (drop (suc p) text) (in_word p t) (suc p)) (sym one_byte)
        ∙ on (in_word p (slice text p (p + 1)))

    more_bytes : (q : ℕ) → q < p → slice text q (p + 1) ≡ slice text q p ++ get_or text p 0 ∷ []
    more_bytes q l =
        let d : p + 1 - q ≡ suc (p - q) = omega arith in
        let e : q + (p - q) ≡ p = omega arith in
        ap (λ n. take n (drop q text)) d
        ∙ take-suc (drop q text) (p - q) 0 (omega (arith, length-drop q text))
        ∙ ap (λ x. slice text q p ++ x ∷ []) (get_or-drop q text (p - q) 0 ∙ ap (λ n. get_or text n 0) e)

    pub word_on : (q : ℕ) → q < p → is_letter_def (get_or text p 0) ≡ true → scan (drop p text) (in_word q (slice text q p)) p ≡ scan (drop (p + 1) text) (in_word q (slice text q (p + 1))) (p + 1)
    unfolding scan
    word_on q l e =
        byte_at (in_word q (slice text q p))
        ∙ ap (in_word_at (get_or text p 0) (drop (suc p) text) p q (slice text q p)) (is-letter (get_or text p 0) e)
        ∙ ap (λ t. scan (drop (suc p) text) (in_word q t) (suc p)) (sym (more_bytes q l))
        ∙ on (in_word q (slice text q (p + 1)))

    pub word-ends : (q : ℕ) (w : Token) → is_letter_def (get_or text p 0) ≡ false → scan (drop p text) (in_word q w) p ≡ record { place = q; token = w } ∷ tokens_from text p
    unfolding scan is_letter_def
    word-ends q w e = byte_at (in_word q w) ∙ go (class_of (get_or text p 0)) e ∙ ap (record { place = q; token = w } ∷◌) (sym (byte_at between))
      where
        go : (c : Class) → elim c as (λ z. Bool) [ blank ↦ false | hash ↦ false | mark ↦ false | letter ↦ true ] ≡ false
            → in_word_at (get_or text p 0) (drop (suc p) text) p q w c ≡ record { place = q; token = w } ∷ between_at (get_or text p 0) (drop (suc p) text) p c
        go blank e = refl
        go hash e = refl
        go mark e = refl
        go letter e = true-false refl e

-- the next token, after what is skipped
module _ {text : List ℕ} {at from : ℕ} (s : Skipped text at from) where
  pub next-ended : length text ≤ from → Next text at from from
  next-ended h = record { ended = λ e. s.same ∙ none_left text from h; there = λ l. absurd (omega arith); on = s.on; in_order = omega arith; forward = λ l. absurd (omega arith); inside = s.inside }

  pub next-mark : from < length text → is_mark_byte (get_or text from 0) ≡ true → Next text at from (from + 1)
  next-mark h e =
      record {
        ended = λ x. absurd (omega arith);
        there = λ l. s.same ∙ mark-there text from h (s.no_blank h) (s.no_hash h) e;
        on = s.on;
        in_order = omega arith;
        forward = λ l. omega arith;
        inside = omega arith;
      }

  pub next-letter : from < length text → is_mark_byte (get_or text from 0) ≡ false → is_letter_def (get_or text from 0) ≡ true
  next-letter h e = letter-is (get_or text from 0) letter (is-letter-class (get_or text from 0) (s.no_blank h) (s.no_hash h) e)

  pub next_word : {to : ℕ} → WordEnded text from to → Next text at from to
  next_word w =
      let f = w.forward in
      let i = w.inside in
      record {
        ended = λ x. absurd (omega arith);
        there = λ l. s.same ∙ w.same;
        on = s.on;
        in_order = omega arith;
        forward = λ l. w.forward;
        inside = w.inside;
      }
