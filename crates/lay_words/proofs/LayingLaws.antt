-- Laws of the layout, one token at a time.
use mathlib.Core.Path.{◌≡◌, refl, sym, ◌∙◌, ap, ap₂}
use mathlib.Core.Bool.{Bool, true, false, ◌||◌, cond}
use mathlib.Core.Logic.{◌⊎◌, inl, inr}
use mathlib.Core.List.{List, [], ◌∷◌, ◌++◌, append_assoc}
use Prim.Native.Nat.{ℕ, zero, suc, ◌+◌, ◌*◌, ◌-◌, ◌≤◌}
use native.Mathlib.Omega.{arith}
use lib.ListN.{length, replicate, length-append, length-replicate}
use Rattle.names.specs.Token.{Token, ascii, same}
use Rattle.notation.specs.Grammar.{else_word, end_word}
use Rattle.notation.specs.Layout.{Before, at_start, opened, other, is_mark_def, brackets, ifs, margin, gap, after_token, lay}
use Rattle.buffers.specs.Filled.{filled_from}
use Rattle.buffers.proofs.FilledLaws.{filled_none, filled_more}
use Rattle.lay_words.specs.Laying.{before_of, lead, piece, laid_from, After}
use Rattle.lay_words.specs.declared.Laid.{Laid}
use Rattle.lay_words.specs.declared.Before.{Before as LaidBefore}
use Rattle.lay_words.specs.declared.Before.TheVariants.{Start, Opened, Other}

-- The tests of a token, in the order of the code.
module _ (t : Token) where
  pub mark-opening : same t (ascii "(") ≡ true → true ≡ is_mark_def t
  unfolding is_mark_def
  mark-opening h = rw h

  pub mark-comma : same t (ascii "(") ≡ false → same t (ascii ",") ≡ true → true ≡ is_mark_def t
  unfolding is_mark_def
  mark-comma h k = rw (h, k)

  pub mark-else : {r : Bool} → same t (ascii "(") ≡ false → same t (ascii ",") ≡ false → r ≡ same t (ascii ")") → r ≡ is_mark_def t
  unfolding is_mark_def
  mark-else h k e = rw (h, k) e

  pub after-opening : same t (ascii "(") ≡ true → before_of Opened ≡ after_token t
  unfolding after_token before_of
  after-opening h = rw h

  pub after-other : same t (ascii "(") ≡ false → before_of Other ≡ after_token t
  unfolding after_token before_of
  after-other h = rw h

  module _ (b : ℕ) where
    pub brackets-more : same t (ascii "(") ≡ true → b + 1 ≡ brackets b t
    unfolding brackets
    brackets-more h = rw h

    pub brackets-less : same t (ascii "(") ≡ false → same t (ascii ")") ≡ true → b - 1 ≡ brackets b t
    unfolding brackets
    brackets-less h k = rw (h, k)

    pub brackets-same : same t (ascii "(") ≡ false → same t (ascii ")") ≡ false → b ≡ brackets b t
    unfolding brackets
    brackets-same h k = rw (h, k)

  pub ifs-inside : (b i : ℕ) → (b ≡ 0 → ⊥) → i ≡ ifs b i t
  unfolding ifs
  ifs-inside zero i h = absurd (h refl)
  ifs-inside (suc b) i h = refl

  module _ (b i : ℕ) (e : b ≡ 0) where
    pub ifs-more : same t (ascii "if") ≡ true → i + 1 ≡ ifs b i t
    unfolding ifs
    ifs-more h = rw (e, h)

    pub ifs-less : same t (ascii "if") ≡ false → same t end_word ≡ true → i - 1 ≡ ifs b i t
    unfolding ifs
    ifs-less h k = rw (e, h, k)

    pub ifs-same : same t (ascii "if") ≡ false → same t end_word ≡ false → i ≡ ifs b i t
    unfolding ifs
    ifs-same h k = rw (e, h, k)

-- How many `if`s the line of a word is inside.
module _ (t : Token) (i : ℕ) where
  abbrev pub around : ℕ
  around = cond (same t else_word || same t end_word) (i - 1) i

  pub around-else : same t else_word ≡ true → i - 1 ≡ around
  around-else h = rw h

  pub around-end : same t else_word ≡ false → same t end_word ≡ true → i - 1 ≡ around
  around-end h k = rw (h, k)

  pub around-same : same t else_word ≡ false → same t end_word ≡ false → i ≡ around
  around-same h k = rw (h, k)

  pub around-most : around ≤ i
  around-most = go (same t else_word || same t end_word)
    where
      go : (x : Bool) → cond x (i - 1) i ≤ i
      go true = omega arith
      go false = omega arith

-- What comes before a token, if something does.
before-later : (x : LaidBefore) → (x ≡ Start → ⊥) → (before_of x ≡ opened) ⊎ (before_of x ≡ other)
unfolding before_of
before-later Start h = absurd (h refl)
before-later Opened h = inl refl
before-later Other h = inr refl

before-other : (x : LaidBefore) → (x ≡ Start → ⊥) → (x ≡ Opened → ⊥) → before_of x ≡ other
unfolding before_of
before-other Start h k = absurd (h refl)
before-other Opened h k = absurd (k refl)
before-other Other h k = refl

-- The bytes before a token.
module _ (s : Laid) (t : Token) where
  pub lead-start : s.before ≡ Start → lead s t ≡ []
  unfolding gap before_of
  lead-start e = rw (ap before_of e) (go (is_mark_def t))
    where
      go : (x : Bool) → cond {A = List ℕ} x [] [] ≡ []
      go true = refl
      go false = refl

  pub lead-mark : is_mark_def t ≡ true → lead s t ≡ []
  lead-mark h = rw h

  module _ (m : is_mark_def t ≡ false) where
    pub lead-line : (s.before ≡ Start → ⊥) → s.brackets ≡ 0 → lead s t ≡ 0x0A ∷ replicate (2 * around t s.ifs) 0x20
    unfolding gap margin
    lead-line h e = elim (before-later s.before h) [ inl p ↦ rw (m, p, e) | inr p ↦ rw (m, p, e) ]

    pub lead-opened : (s.brackets ≡ 0 → ⊥) → s.before ≡ Opened → lead s t ≡ []
    unfolding gap before_of
    lead-opened h e = rw (m, ap before_of e) (go s.brackets h)
      where
        go : (b : ℕ) → (b ≡ 0 → ⊥) → gap opened b s.ifs t ≡ []
        go zero k = absurd (k refl)
        go (suc b) k = refl

    pub lead-blank : (s.before ≡ Start → ⊥) → (s.brackets ≡ 0 → ⊥) → (s.before ≡ Opened → ⊥) → lead s t ≡ 0x20 ∷ []
    unfolding gap
    lead-blank h k e = rw (m, before-other s.before h e) (go s.brackets k)
      where
        go : (b : ℕ) → (b ≡ 0 → ⊥) → gap other b s.ifs t ≡ 0x20 ∷ []
        go zero k = absurd (k refl)
        go (suc b) k = refl

-- There are at most two blanks for each `if` and one more byte.
gap-most : (p : Before) (b i : ℕ) (t : Token) → length (gap p b i t) ≤ 2 * i + 1
unfolding gap margin
gap-most at_start b i t = omega arith
gap-most opened zero i t = omega (arith, length-replicate {A = ℕ} (2 * around t i) 0x20, around-most t i)
gap-most opened (suc b) i t = omega arith
gap-most other zero i t = omega (arith, length-replicate {A = ℕ} (2 * around t i) 0x20, around-most t i)
gap-most other (suc b) i t = omega arith

pub lead-most : (s : Laid) (t : Token) → length (lead s t) ≤ 2 * s.ifs + 1
lead-most s t = go (is_mark_def t)
  where
    go : (x : Bool) → length (cond x [] (gap (before_of s.before) s.brackets s.ifs t)) ≤ 2 * s.ifs + 1
    go true = omega arith
    go false = gap-most (before_of s.before) s.brackets s.ifs t

-- Each token adds few bytes, at most one bracket and one `if`, and what it adds comes before what is laid out after it.
pub piece-most : (s : Laid) (t : Token) → length (piece s t) ≤ 2 * s.ifs + 1 + length t
unfolding piece
piece-most s t = omega (arith, length-append (lead s t) t, lead-most s t)

pub brackets_most : (b : ℕ) (t : Token) → brackets b t ≤ b + 1
unfolding brackets
brackets_most b t = go (same t (ascii "(")) (same t (ascii ")"))
  where
    go : (x y : Bool) → cond x (b + 1) (cond y (b - 1) b) ≤ b + 1
    go true y = omega arith
    go false true = omega arith
    go false false = omega arith

pub ifs_most : (b i : ℕ) (t : Token) → ifs b i t ≤ i + 1
unfolding ifs
ifs_most zero i t = go (same t (ascii "if")) (same t end_word)
  where
    go : (x y : Bool) → cond x (i + 1) (cond y (i - 1) i) ≤ i + 1
    go true y = omega arith
    go false true = omega arith
    go false false = omega arith
ifs_most (suc b) i t = omega arith

lay-token : (p : Before) (b i : ℕ) (t : Token) (ts : List Token)
    → lay p b i (t ∷ ts) ≡ (cond (is_mark_def t) [] (gap p b i t) ++ t) ++ lay (after_token t) (brackets b t) (ifs b i t) ts
unfolding lay
lay-token at_start b i t ts = sym (append_assoc (cond (is_mark_def t) [] (gap at_start b i t)) t (lay (after_token t) (brackets b t) (ifs b i t) ts))
lay-token opened b i t ts = sym (append_assoc (cond (is_mark_def t) [] (gap opened b i t)) t (lay (after_token t) (brackets b t) (ifs b i t) ts))
lay-token other b i t ts = sym (append_assoc (cond (is_mark_def t) [] (gap other b i t)) t (lay (after_token t) (brackets b t) (ifs b i t) ts))

pub laid_on : {s r : Laid} {t : Token} (ts : List Token) → After s t r → laid_from s (t ∷ ts) ≡ piece s t ++ laid_from r ts
unfolding piece
laid_on {s} {r} {t} ts a = rw (a.before, a.brackets_are, a.ifs_are) (lay-token (before_of s.before) s.brackets s.ifs t ts)

-- The end of the text.
module _ (x : LaidBefore) (b i : ℕ) where
  pub end-start : x ≡ Start → lay (before_of x) b i [] ≡ []
  unfolding lay before_of
  end-start e = rw (ap before_of e)

  pub end_later : (x ≡ Start → ⊥) → lay (before_of x) b i [] ≡ 0x0A ∷ []
  unfolding lay
  end_later h = elim (before-later x h) [ inl p ↦ rw p | inr p ↦ rw p ]

-- Bytes put at a place: where they end, and what the buffer then holds.
abbrev pub Put : (at : ℕ) (bytes b : List ℕ) (r : ℕ) (out : List ℕ) → Type 0
Put at bytes b r out = (r ≡ at + length bytes) × (out ≡ filled_from at bytes b)

pub put-none : (at : ℕ) (bytes b : List ℕ) → bytes ≡ [] → Put at bytes b at b
put-none at bytes b e = rw e (omega arith, sym (filled_none at b))

pub put-these : (at : ℕ) (bytes b : List ℕ) (these : List ℕ) {r : ℕ} {out : List ℕ} → bytes ≡ these → Put at these b r out → Put at bytes b r out
put-these at bytes b these e p = rw e p

pub put_both : (at : ℕ) (u v b : List ℕ) (r₁ : ℕ) {r : ℕ} (out₁ : List ℕ) {out : List ℕ} → Put at u b r₁ out₁ → Put r₁ v out₁ r out → Put at (u ++ v) b r out
put_both at u v b r₁ out₁ p q =
    (q.0 ∙ omega (arith, p.0, length-append u v), q.1 ∙ ap₂ (λ n l. filled_from n v l) p.0 p.1 ∙ filled_more at u v b)

pub put-run : (at n : ℕ) (b : List ℕ) {r : ℕ} {out : List ℕ} → (r ≡ at + n) × (out ≡ filled_from at (replicate n 0x20) b) → Put at (replicate n 0x20) b r out
put-run at n b p = (p.0 ∙ ap (at +◌) (sym (length-replicate n 0x20)), p.1)
