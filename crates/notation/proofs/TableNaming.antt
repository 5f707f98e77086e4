-- With the names of a table that passes, words can be read back, and all tokens are proper.
use mathlib.Core.Path.{◌≡◌, refl, sym, ◌∙◌, ap}
use mathlib.Core.Bool.{Bool, true, false, ◌&&◌, ◌||◌, and-eq-true_iff}
use mathlib.Core.List.{List, [], ◌∷◌, ◌++◌}
use mathlib.Core.Logic.{inl, inr}
use Prim.Native.Nat.{ℕ, ◌<◌}
use native.Mathlib.Omega.{arith}
use lib.Dec.{T}
use Rattle.logic.specs.Lists.{All}
use Rattle.logic.proofs.Bools.{true-false, is_true}
use Rattle.logic.specs.Syntax.{node, arrow, rule}
use Rattle.logic.specs.Limits.{Kind, label_number, arrow_number, node_number, Ranges, fits}
use Rattle.text.specs.Reading.{Limits}
use Rattle.text.proofs.Converse.{◌&◌}
use Rattle.names.specs.Token.{Token, ascii, same, Found, found, absent}
use Rattle.names.specs.Scan.{is_word_def, letters, is_letter_def, class_of}
use Rattle.names.specs.Names.{Naming, Entry, name_in, notation_words, among}
use Rattle.names.proofs.TokenLaws.{same_true, same_refl, found-only, found_none}
use Rattle.names.proofs.NameLaws.{Free, HasNames, names-are, names-one, no-label-is-node}
use Rattle.notation.specs.Grammar.{Slot, expr, steps, mark, number, Phrase, phrases, bracketed, after_comma, Goal, thing, goals}
use Rattle.notation.specs.Parse.{number_of, phrase_for_def}
use Rattle.notation.specs.Layout.{is_mark_def}
use Rattle.notation.proofs.Says.{Begins, by_word, label, nominal, arrow_kind, closing-else, closing_end, Says, nothing, a-mark, a-number, begin, last, one-rule}
use Rattle.notation.proofs.PhraseLaws.{all-at}
use Rattle.notation.proofs.SaidRead.{Lawful}
use Rattle.notation.proofs.LayoutLaws.{Proper, EachProper}

-- the numbers in range are below 256
abbrev pub Small : Ranges → Type 0
Small r = (k : Kind) (x : ℕ) → T (fits r k x) → x < 256

-- The word of each phrase is one of the notation's; it is a word and not a mark.
pub record PhraseWord (r : Phrase) : Type 0 where
  pub of-notation : among r.word notation_words ≡ true
  pub is_word : is_word_def r.word ≡ true
  pub is-no-mark : is_mark_def r.word ≡ false

abbrev so-is : {r : Phrase} → among r.word notation_words ≡ true → is_word_def r.word ≡ true → is_mark_def r.word ≡ false → PhraseWord r
so-is a b c = record { of-notation = a; is_word = b; is-no-mark = c }

phrase-words : (s : Slot) → All PhraseWord (phrases s)
unfolding phrases among notation_words same ascii is_word_def letters is_letter_def class_of is_mark_def
phrase-words (expr node) =
    (so-is refl refl refl) & (so-is refl refl refl) & (so-is refl refl refl) & (so-is refl refl refl) & (so-is refl refl refl)
    & (so-is refl refl refl) & (so-is refl refl refl) & (so-is refl refl refl) & (so-is refl refl refl) & tt
phrase-words (expr arrow) = (so-is refl refl refl) & (so-is refl refl refl) & (so-is refl refl refl) & (so-is refl refl refl) & (so-is refl refl refl) & (so-is refl refl refl) & tt
phrase-words (expr rule) =
    (so-is refl refl refl) & (so-is refl refl refl) & (so-is refl refl refl) & (so-is refl refl refl)
    & (so-is refl refl refl) & (so-is refl refl refl) & (so-is refl refl refl) & tt
phrase-words (steps c) = (so-is refl refl refl) & (so-is refl refl refl) & (so-is refl refl refl) & (so-is refl refl refl) & (so-is refl refl refl) & tt

no-phrase : (t : Token) (rs : List Phrase) → All PhraseWord rs → among t notation_words ≡ false → phrase_for_def t rs ≡ absent
unfolding phrase_for_def
no-phrase t [] h e = refl
no-phrase t (r ∷ rs) h e = go (same t r.word) refl (no-phrase t rs h.1 e)
  where
    go : (b : Bool) → same t r.word ≡ b → phrase_for_def t rs ≡ absent → ◌≡◌ {A = Found Phrase} (elim b as (λ z. Found Phrase) [ true ↦ found r | false ↦ phrase_for_def t rs ]) absent
    go true p q = true-false (ap (λ z. among z notation_words) (same_true t r.word p) ∙ h.0.of-notation) e
    go false p q = q

module _ (es : List Entry) (free : Free es) (l : Limits) (small : Small l.numbers) where
  no_word : (k : Kind) → HasNames k → (s : Slot) (x : ℕ) → phrase_for_def (name_in es k x) (phrases s) ≡ absent
  no_word k n s x = no-phrase (name_in es k x) (phrases s) (phrase-words s) (names-are es free k x n).not-of-notation

  pub lawful : Lawful (name_in es) l
  unfolding number_of
  lawful =
      record {
        back = λ k x f.
            found-only (λ y. fits l.numbers k y && same (name_in es k x) (name_in es k y)) 256 x (small k x f)
            ((and-eq-true_iff (fits l.numbers k x) (same (name_in es k x) (name_in es k x))).1 (is_true (fits l.numbers k x) f, same_refl (name_in es k x)))
            (λ y h e. sym (names-one es free k x y (omega (arith, small k x f)) (omega arith) (same_true _ _ ((and-eq-true_iff (fits l.numbers k y) _).0 e).1)));
        no_label = λ x f.
            found_none (λ y. fits l.numbers label_number y && same (name_in es node_number x) (name_in es label_number y)) 256
            (λ y h e. no-label-is-node es free y x (omega arith) (omega (arith, small node_number x f)) (sym (same_true _ _ ((and-eq-true_iff (fits l.numbers label_number y) _).0 e).1)));
        label-word = no_word label_number tt (expr node);
        node-word = no_word node_number tt (expr node);
        arrow-word = no_word arrow_number tt (expr arrow);
      }

-- A word is not a mark.
word-no-mark : (t : Token) → is_word_def t ≡ true → is_mark_def t ≡ false
unfolding is_mark_def ascii is_word_def letters is_letter_def class_of
word-no-mark t h = go (same t (ascii "(")) refl (same t (ascii ",")) refl (same t (ascii ")")) refl
  where
    no : (u : Token) → is_word_def u ≡ false → same t u ≡ true → {A : Type 0} → A
    no u f e = true-false (sym (ap is_word_def (same_true t u e)) ∙ h) f

    go : (a : Bool) → same t (ascii "(") ≡ a → (b : Bool) → same t (ascii ",") ≡ b → (c : Bool) → same t (ascii ")") ≡ c → (a || (b || c)) ≡ false
    go true e b f c g = no (ascii "(") refl e
    go false e true f c g = no (ascii ",") refl f
    go false e false f true g = no (ascii ")") refl g
    go false e false f false g = refl

-- The marks among goals and items.
abbrev pub Marks : List Goal → Type 0
Marks [] = Unit {0}
Marks (mark t ∷ g) = (is_mark_def t ≡ true) × Marks g
Marks (number k ∷ g) = Marks g
Marks (thing s d ∷ g) = Marks g

marks-both : (g h : List Goal) → Marks g → Marks h → Marks (g ++ h)
marks-both [] h a b = b
marks-both (mark t ∷ g) h a b = (a.0, marks-both g h a.1 b)
marks-both (number k ∷ g) h a b = marks-both g h a b
marks-both (thing s d ∷ g) h a b = marks-both g h a b

phrase-marks : (s : Slot) (d : ℕ) → All (λ r. Marks (goals s d r.items)) (phrases s)
unfolding phrases goals bracketed after_comma is_mark_def same ascii
phrase-marks (expr node) d =
    tt & tt & (refl & refl & tt) & (refl & refl & refl & tt) & (refl & refl & refl & tt) & (refl & refl & refl & tt) & (refl & refl & refl & tt) & (refl & refl & refl & refl & tt) & (refl & refl & refl & refl & tt) & tt
phrase-marks (expr arrow) d = (refl & refl & tt) & (refl & refl & refl & tt) & (refl & refl & refl & tt) & (refl & refl & refl & tt) & (refl & refl & refl & tt) & (refl & refl & refl & tt) & tt
phrase-marks (expr rule) d =
    (refl & refl & refl & tt) & (refl & refl & refl & tt) & (refl & refl & refl & tt) & (refl & refl & refl & refl & tt) & (refl & refl & refl & tt) & (refl & refl & refl & tt) & (refl & refl & tt) & tt
phrase-marks (steps c) d = (refl & refl & refl & tt) & (refl & refl & refl & tt) & (refl & refl & refl & tt) & (refl & refl & refl & tt) & (refl & refl & tt) & tt

-- All tokens are marks or words.
module _ (name : Naming) (l : Limits) (words : (k : Kind) (x : ℕ) → is_word_def (name k x) ≡ true) where
  name-proper : (k : Kind) (x : ℕ) → Proper (name k x)
  name-proper k x = inr (word-no-mark (name k x) (words k x), words k x)

  pub record ProperStart (t : Token) (then : List Goal) : Type 0 where
    pub proper : Proper t
    pub marks : Marks then

  begins-proper : {s : Slot} {d : ℕ} {t : Token} {c : List ℕ} {then : List Goal} → Begins name l s d t c then → ProperStart t then
  unfolding is_mark_def same ascii is_word_def letters is_letter_def class_of
  begins-proper {s} {d} (by_word r i) =
      let q = all-at PhraseWord i (phrase-words s) in
      record { proper = inr (q.is-no-mark, q.is_word); marks = all-at (λ r. Marks (goals s d r.items)) i (phrase-marks s d) }
  begins-proper (label x f) = record { proper = name-proper label_number x; marks = tt }
  begins-proper (nominal x f) = record { proper = name-proper node_number x; marks = tt }
  begins-proper (arrow_kind x f) = record { proper = name-proper arrow_number x; marks = tt }
  begins-proper closing-else = record { proper = inr (refl, refl); marks = tt }
  begins-proper closing_end = record { proper = inr (refl, refl); marks = tt }

  pub says-proper : {bytes : List ℕ} {ts : List Token} {g : List Goal} {m : ℕ} → Says name l bytes ts g m → Marks g → EachProper ts
  says-proper nothing h = tt
  says-proper (one-rule s) h = says-proper s tt
  says-proper (a-mark s) h = (inl h.0, says-proper s h.1)
  says-proper (a-number {k = k} x f s) h = (name-proper k x, says-proper s h)
  says-proper (begin {g = g} {then = then} i b s) h = let q = begins-proper b in (q.proper, says-proper s (marks-both then g q.marks h))
  says-proper (last i s) h = tt
