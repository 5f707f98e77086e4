-- The first wrong token of a table of names.
use mathlib.Core.Path.{◌≡◌, refl, sym, ◌∙◌, ap, subst}
use mathlib.Core.Bool.{Bool, true, false, ◌&&◌, cond, and-eq-true_iff}
use mathlib.Core.List.{List, [], ◌∷◌, ◌++◌}
use mathlib.Core.Logic.{◌⊎◌, inl, inr}
use Prim.Native.Nat.{ℕ, ◌<◌}
use native.Mathlib.Omega.{arith}
use lib.ListN.{length}
use Rattle.answer.specs.Asked.{Asked, passed, refused, ◌>>=◌, ◌>>◌, is}
use Rattle.logic.specs.Lists.{All}
use Rattle.logic.specs.Limits.{Kind, label_number, arrow_number, node_number, least_count, most_count}
use Rattle.names.specs.Token.{Token, ascii, same, Found, found, absent, first_below}
use Rattle.names.specs.Scan.{Placed, tokens_of, scan, tokens, class_of, is_letter_def, letters, is_word_def}
use Rattle.names.specs.Names.{decimal, Entry, free_name_def, unnamed, count_of, kind_of, ask_kind, ask_number, ask_entries, ask_names}
use Rattle.names.proofs.TokenLaws.{same_true, same_refl, found-hit, found-only, none-hit}
use Rattle.names.proofs.ScanLaws.{Scans, blanks-scanned, word-scanned}
use Rattle.names.proofs.NameLaws.{decimal-one, decimal-word, fresh}
use Rattle.names.proofs.FreeNames.{Numbered, some-name}

-- What tokens say as a table, after these entries.
abbrev next : {A B : Type 0} → Found A → (A → Found B) → Found B
next (found a) f = f a
next absent f = absent

abbrev number_for : List Entry → Kind → Token → Found ℕ
number_for es k t = first_below (λ x. same t (decimal x) && unnamed es k x) (count_of k)

unfoldable pub entries : List Token → List Entry → Found (List Entry)
entries [] es = found es
entries (s ∷ []) es = absent
entries (s ∷ x ∷ []) es = absent
entries (s ∷ x ∷ t ∷ ts) es = next (kind_of s) (λ k. next (number_for es k x) (λ n. cond (free_name_def es t) (entries ts (record { kind = k; number = n; name = t } ∷ es)) absent))

abbrev told : {A : Type 0} → Asked A → Found A
told (passed a) = found a
told (refused q p) = absent

abbrev kind_asked : Placed → Found Kind → Asked Kind
kind_asked s f = elim f as (λ z. Asked Kind) [ found k ↦ passed k | absent ↦ refused 63 s.place ]

abbrev number_asked : Placed → Found ℕ → Asked ℕ
number_asked x f = elim f as (λ z. Asked ℕ) [ found n ↦ passed n | absent ↦ refused 63 x.place ]

-- The questions find what the tokens say, wherever they are.
pub entries-are : (end : ℕ) (ps : List Placed) (es : List Entry) → told (ask_entries end ps es) ≡ entries (tokens_of ps) es
unfolding ask_entries entries ask_kind ask_number ◌>>=◌ ◌>>◌ is
entries-are end [] es = refl
entries-are end (s ∷ []) es = go (kind_of s.token)
  where
    go : (f : Found Kind) → told {A = List Entry} (kind_asked s f >> refused 63 end) ≡ absent
    go (found k) = refl
    go absent = refl
entries-are end (s ∷ x ∷ []) es = go (kind_of s.token)
  where
    numbered : (k : Kind) (g : Found ℕ) → told {A = List Entry} (number_asked x g >> refused 63 end) ≡ absent
    numbered k (found n) = refl
    numbered k absent = refl

    go : (f : Found Kind) → told {A = List Entry} (kind_asked s f >>= (λ k. ask_number es k x >> refused 63 end)) ≡ absent
    go (found k) = numbered k (number_for es k x.token)
    go absent = refl
entries-are end (s ∷ x ∷ t ∷ ts) es = go (kind_of s.token) (λ e. entries-are end ts (e ∷ es))
  where
    then : Kind → ℕ → Asked (List Entry)
    then k n = ask_entries end ts (record { kind = k; number = n; name = t.token } ∷ es)

    tail : Kind → ℕ → Found (List Entry)
    tail k n = entries (tokens_of ts) (record { kind = k; number = n; name = t.token } ∷ es)

    free : (k : Kind) (n : ℕ) (b : Bool) → told (then k n) ≡ tail k n → told (is b 63 t.place >> then k n) ≡ cond b (tail k n) absent
    free k n true r = r
    free k n false r = refl

    numbered : (k : Kind) (g : Found ℕ) → ((e : Entry) → told (ask_entries end ts (e ∷ es)) ≡ entries (tokens_of ts) (e ∷ es))
        → told (number_asked x g >>= (λ n. is (free_name_def es t.token) 63 t.place >> then k n))
        ≡ next g (λ n. cond (free_name_def es t.token) (tail k n) absent)
    numbered k (found n) r = free k n (free_name_def es t.token) (r (record { kind = k; number = n; name = t.token }))
    numbered k absent r = refl

    go : (f : Found Kind) → ((e : Entry) → told (ask_entries end ts (e ∷ es)) ≡ entries (tokens_of ts) (e ∷ es))
        → told (kind_asked s f >>= (λ k. ask_number es k x >>= (λ n. is (free_name_def es t.token) 63 t.place >> then k n)))
        ≡ next f (λ k. next (number_for es k x.token) (λ n. cond (free_name_def es t.token) (tail k n) absent))
    go (found k) r = numbered k (number_for es k x.token) r
    go absent r = refl

-- One entry; and what is not an entry, whatever follows.
module _ (es : List Entry) (s x : Token) {k : Kind} (a : kind_of s ≡ found k) where
  entries-on : (t : Token) {n : ℕ} → number_for es k x ≡ found n → free_name_def es t ≡ true → (ts : List Token) → entries (s ∷ x ∷ t ∷ ts) es ≡ entries ts (record { kind = k; number = n; name = t } ∷ es)
  unfolding entries
  entries-on t b c ts = rw (a, b, c, entries)

  no_number : number_for es k x ≡ absent → (more : List Token) → entries (s ∷ x ∷ more) es ≡ absent
  unfolding entries
  no_number b [] = refl
  no_number b (t ∷ ts) = rw (a, b, entries)

  no_name : (t : Token) {n : ℕ} → number_for es k x ≡ found n → free_name_def es t ≡ false → (more : List Token) → entries (s ∷ x ∷ t ∷ more) es ≡ absent
  unfolding entries
  no_name t b c more = rw (a, b, c, entries)

no_kind : (es : List Entry) (s : Token) → kind_of s ≡ absent → (more : List Token) → entries (s ∷ more) es ≡ absent
unfolding entries
no_kind es s a [] = refl
no_kind es s a (x ∷ []) = refl
no_kind es s a (x ∷ t ∷ ts) = rw (a, entries)

-- Tokens that begin a table; and those that end with a sort of which all numbers have names.
pub record NoneLeft (ts : List Token) (es : List Entry) : Type 0 where
  pub whole : List Token
  pub sort : Token
  pub is : ts ≡ whole ++ sort ∷ []
  pub names : List Entry
  pub passes : entries whole es ≡ found names
  pub kind : Kind
  pub is_sort : kind_of sort ≡ found kind
  pub all_named : (x : ℕ) → x < count_of kind → unnamed names kind x ≡ false

pub record Ended (ts : List Token) (es : List Entry) : Type 0 where
  pub more : List Token
  pub names : List Entry
  pub passes : entries (ts ++ more) es ≡ found names

abbrev pub BegunTable : List Token → List Entry → Type 0
BegunTable ts es = Ended ts es ⊎ NoneLeft ts es

few-numbers : (k : Kind) {x : ℕ} → x < count_of k → x < 1000
few-numbers label_number h = omega arith
few-numbers arrow_number h = omega arith
few-numbers node_number h = omega arith
few-numbers least_count h = omega arith
few-numbers most_count h = omega arith

module _ (es : List Entry) where
  from_nothing : BegunTable [] es
  unfolding entries
  from_nothing = inl (record { more = []; names = es; passes = refl })

  module _ (right : Numbered es) (s : Token) {k : Kind} (a : kind_of s ≡ found k) where
    from-number : (x : Token) {n : ℕ} → number_for es k x ≡ found n → Ended (s ∷ x ∷ []) es
    unfolding entries
    from-number x b = let t = some-name es right in record { more = t.name ∷ []; names = _; passes = entries-on es s x a t.name b t.is_free [] }

    its-number : (x : ℕ) → x < count_of k → unnamed es k x ≡ true → number_for es k (decimal x) ≡ found x
    its-number x h u =
        found-only (λ y. same (decimal x) (decimal y) && unnamed es k y) (count_of k) x h ((and-eq-true_iff (same (decimal x) (decimal x)) (unnamed es k x)).1 (same_refl (decimal x), u))
        (λ y l e. sym (decimal-one x y (few-numbers k h) (few-numbers k l) (same_true (decimal x) (decimal y) ((and-eq-true_iff (same (decimal x) (decimal y)) (unnamed es k y)).0 e).0)))

    from-sort : BegunTable (s ∷ []) es
    unfolding entries
    from-sort = go (first_below (unnamed es k) (count_of k)) refl
      where
        go : (f : Found ℕ) → first_below (unnamed es k) (count_of k) ≡ f → BegunTable (s ∷ []) es
        go (found x) e =
            let h = found-hit (unnamed es k) (count_of k) x e in
            let b = from-number (decimal x) (its-number x h.below h.yes_of) in
            inl (record { more = decimal x ∷ b.more; names = b.names; passes = b.passes })
        go absent e = inr (record { whole = []; sort = s; is = refl; names = es; passes = refl; kind = k; is_sort = a; all_named = none-hit (unnamed es k) (count_of k) e })

-- The place of a fault: a token with which the tokens so far begin no table, or the end, if they are not a table.
abbrev pub NoTableAt : (end : ℕ) (before rest : List Placed) → List Entry → (p : ℕ) → Type 0
NoTableAt end before [] es p = (p ≡ end) × (entries (tokens_of before) es ≡ absent)
NoTableAt end before (t ∷ rest) es p = (p ≡ t.place) × ((more : List Token) → entries (tokens_of before ++ t.token ∷ more) es ≡ absent)

pub record TableFault (end : ℕ) (ts : List Placed) (es : List Entry) (p : ℕ) : Type 0 where
  pub before : List Placed
  pub rest : List Placed
  pub is : ts ≡ before ++ rest
  pub begun : BegunTable (tokens_of before) es
  pub wrong : NoTableAt end before rest es p

abbrev Faulty : (end : ℕ) → List Placed → List Entry → Asked (List Entry) → Type 0
Faulty end ts es (passed names) = Unit {0}
Faulty end ts es (refused q p) = TableFault end ts es p

module _ (end : ℕ) (es : List Entry) (s x t : Placed) (ts : List Placed) {k : Kind} {n : ℕ}
    (a : kind_of s.token ≡ found k) (b : number_for es k x.token ≡ found n) (c : free_name_def es t.token ≡ true) where
  abbrev entry : Entry
  entry = record { kind = k; number = n; name = t.token }

  on : (us : List Token) → entries (s.token ∷ x.token ∷ t.token ∷ us) es ≡ entries us (entry ∷ es)
  on us = entries-on es s.token x.token a t.token b c us

  on-begun : (us : List Token) → BegunTable us (entry ∷ es) → BegunTable (s.token ∷ x.token ∷ t.token ∷ us) es
  on-begun us (inl h) = inl (record { more = h.more; names = h.names; passes = on (us ++ h.more) ∙ h.passes })
  on-begun us (inr h) =
      inr (record {
        whole = s.token ∷ x.token ∷ t.token ∷ h.whole;
        sort = h.sort;
        is = ap (λ z. s.token ∷ x.token ∷ t.token ∷ z) h.is;
        names = h.names;
        passes = on h.whole ∙ h.passes;
        kind = h.kind;
        is_sort = h.is_sort;
        all_named = h.all_named;
      })

  on-wrong : (before rest : List Placed) (p : ℕ) → NoTableAt end before rest (entry ∷ es) p → NoTableAt end (s ∷ x ∷ t ∷ before) rest es p
  on-wrong before [] p w = (w.0, on (tokens_of before) ∙ w.1)
  on-wrong before (u ∷ rest) p w = (w.0, λ more. on (tokens_of before ++ u.token ∷ more) ∙ w.1 more)

  on-fault : (r : Asked (List Entry)) → Faulty end ts (entry ∷ es) r → Faulty end (s ∷ x ∷ t ∷ ts) es r
  on-fault (passed names) f = tt
  on-fault (refused q p) f =
      record {
        before = s ∷ x ∷ t ∷ f.before;
        rest = f.rest;
        is = ap (λ z. s ∷ x ∷ t ∷ z) f.is;
        begun = on-begun (tokens_of f.before) f.begun;
        wrong = on-wrong f.before f.rest p f.wrong;
      }

  still-numbered : Numbered es → Numbered (entry ∷ es)
  still-numbered h =
      let f = found-hit (λ y. same x.token (decimal y) && unnamed es k y) (count_of k) n b in
      (((and-eq-true_iff (same x.token (decimal n)) (unnamed es k n)).0 f.yes_of).1, f.below, h)

module _ (end : ℕ) (es : List Entry) (right : Numbered es) where
  -- faults of an entry
  sort-wrong : (s : Placed) (rest : List Placed) → kind_of s.token ≡ absent → TableFault end (s ∷ rest) es s.place
  sort-wrong s rest a = record { before = []; rest = s ∷ rest; is = refl; begun = from_nothing es; wrong = (refl, no_kind es s.token a) }

  number-wrong : (s x : Placed) (rest : List Placed) {k : Kind} → kind_of s.token ≡ found k → number_for es k x.token ≡ absent → TableFault end (s ∷ x ∷ rest) es x.place
  number-wrong s x rest a b = record { before = s ∷ []; rest = x ∷ rest; is = refl; begun = from-sort es right s.token a; wrong = (refl, no_number es s.token x.token a b) }

  name-wrong : (s x t : Placed) (rest : List Placed) {k : Kind} {n : ℕ} → kind_of s.token ≡ found k → number_for es k x.token ≡ found n → free_name_def es t.token ≡ false
      → TableFault end (s ∷ x ∷ t ∷ rest) es t.place
  name-wrong s x t rest a b c =
      record { before = s ∷ x ∷ []; rest = t ∷ rest; is = refl; begun = inl (from-number es right s.token a x.token b); wrong = (refl, no_name es s.token x.token a t.token b c) }

-- EVERY FAULT OF A TABLE IS AT SUCH A PLACE.
pub faulty : (end : ℕ) (ts : List Placed) (es : List Entry) → Numbered es → Faulty end ts es (ask_entries end ts es)
unfolding ask_entries entries ask_kind ask_number ◌>>=◌ ◌>>◌ is
faulty end [] es h = tt
faulty end (s ∷ []) es h = go (kind_of s.token) refl
  where
    go : (f : Found Kind) → kind_of s.token ≡ f → Faulty end (s ∷ []) es (kind_asked s f >> refused 63 end)
    go (found k) a = record { before = s ∷ []; rest = []; is = refl; begun = from-sort es h s.token a; wrong = (refl, refl) }
    go absent a = sort-wrong end es h s [] a
faulty end (s ∷ x ∷ []) es h = go (kind_of s.token) refl
  where
    numbered : (k : Kind) → kind_of s.token ≡ found k → (g : Found ℕ) → number_for es k x.token ≡ g
        → Faulty end (s ∷ x ∷ []) es (number_asked x g >> refused 63 end)
    numbered k a (found n) b = record { before = s ∷ x ∷ []; rest = []; is = refl; begun = inl (from-number es h s.token a x.token b); wrong = (refl, refl) }
    numbered k a absent b = number-wrong end es h s x [] a b

    go : (f : Found Kind) → kind_of s.token ≡ f
        → Faulty end (s ∷ x ∷ []) es (kind_asked s f >>= (λ k. ask_number es k x >> refused 63 end))
    go (found k) a = numbered k a (number_for es k x.token) refl
    go absent a = sort-wrong end es h s (x ∷ []) a
faulty end (s ∷ x ∷ t ∷ ts) es h = go (kind_of s.token) refl (λ e r. faulty end ts (e ∷ es) r)
  where
    Then : Type 0
    Then = (e : Entry) → Numbered (e ∷ es) → Faulty end ts (e ∷ es) (ask_entries end ts (e ∷ es))

    then : Kind → ℕ → Asked (List Entry)
    then k n = ask_entries end ts (record { kind = k; number = n; name = t.token } ∷ es)

    free : (k : Kind) → kind_of s.token ≡ found k → (n : ℕ) → number_for es k x.token ≡ found n → (b : Bool) → free_name_def es t.token ≡ b → Then
        → Faulty end (s ∷ x ∷ t ∷ ts) es (is b 63 t.place >> then k n)
    free k a n b true c r = on-fault end es s x t ts a b c (then k n) (r _ (still-numbered end es s x t ts a b c h))
    free k a n b false c r = name-wrong end es h s x t ts a b c

    numbered : (k : Kind) → kind_of s.token ≡ found k → (g : Found ℕ) → number_for es k x.token ≡ g → Then
        → Faulty end (s ∷ x ∷ t ∷ ts) es (number_asked x g >>= (λ n. is (free_name_def es t.token) 63 t.place >> then k n))
    numbered k a (found n) b r = free k a n b (free_name_def es t.token) refl r
    numbered k a absent b r = number-wrong end es h s x (t ∷ ts) a b

    go : (f : Found Kind) → kind_of s.token ≡ f → Then
        → Faulty end (s ∷ x ∷ t ∷ ts) es (kind_asked s f >>= (λ k. ask_number es k x >>= (λ n. is (free_name_def es t.token) 63 t.place >> then k n)))
    go (found k) a r = numbered k a (number_for es k x.token) refl r
    go absent a r = sort-wrong end es h s (x ∷ t ∷ ts) a

pub table_fault : (table : List ℕ) {q p : ℕ} → ask_names table ≡ refused q p → TableFault (length table) (tokens table) [] p
unfolding ask_names
table_fault table e = subst (Faulty (length table) (tokens table) []) e (faulty (length table) (tokens table) [] tt)

-- What a table's tokens say, from its bytes; and tokens that are a table have a text.
told-passed : {A : Type 0} (r : Asked A) {a : A} → told r ≡ found a → r ≡ passed a
told-passed (passed b) e = cc
told-passed (refused q p) e = let z : ◌≡◌ {A = ℕ} 0 1 = cc in absurd (omega arith)

pub table-entries : (table : List ℕ) {names : List Entry} → ask_names table ≡ passed names → entries (tokens_of (tokens table)) [] ≡ found names
unfolding ask_names
table-entries table e = sym (entries-are (length table) (tokens table) []) ∙ ap told e

sort-word : (s : Token) (k : Kind) → kind_of s ≡ found k → is_word_def s ≡ true
unfolding kind_of is_word_def letters is_letter_def class_of ascii
sort-word s k e = go (same s (ascii "label")) refl (same s (ascii "arrow")) refl (same s (ascii "node")) refl e
  where
    go : (a : Bool) → same s (ascii "label") ≡ a → (b : Bool) → same s (ascii "arrow") ≡ b → (c : Bool) → same s (ascii "node") ≡ c
        → cond a (found label_number) (cond b (found arrow_number) (cond c (found node_number) absent)) ≡ found k → is_word_def s ≡ true
    go true a b f c g e = ap is_word_def (same_true s (ascii "label") a)
    go false a true f c g e = ap is_word_def (same_true s (ascii "arrow") f)
    go false a false f true g e = ap is_word_def (same_true s (ascii "node") g)
    go false a false f false g e = let z : ◌≡◌ {A = ℕ} 0 1 = cc in absurd (omega arith)

abbrev Words : List Token → Type 0
Words ts = All (λ t. is_word_def t ≡ true) ts

table-words : (ts : List Token) (es : List Entry) {names : List Entry} → entries ts es ≡ found names → Words ts
unfolding entries
table-words [] es e = tt
table-words (s ∷ []) es e = let z : ◌≡◌ {A = ℕ} 0 1 = cc in absurd (omega arith)
table-words (s ∷ x ∷ []) es e = let z : ◌≡◌ {A = ℕ} 0 1 = cc in absurd (omega arith)
table-words (s ∷ x ∷ t ∷ ts) es {names} e = go (kind_of s) refl (λ n f. table-words ts (n ∷ es) f) e
  where
    Then : Type 0
    Then = (n : Entry) → entries ts (n ∷ es) ≡ found names → Words ts

    tail : Kind → ℕ → Found (List Entry)
    tail k n = entries ts (record { kind = k; number = n; name = t } ∷ es)

    none : {A : Type 0} → absent ≡ found names → A
    none e = let z : ◌≡◌ {A = ℕ} 0 1 = cc in absurd (omega arith)

    free : (k : Kind) → kind_of s ≡ found k → (n : ℕ) → number_for es k x ≡ found n → (b : Bool) → free_name_def es t ≡ b → Then → cond b (tail k n) absent ≡ found names → Words (s ∷ x ∷ t ∷ ts)
    free k a n b true c r e =
        let h = found-hit (λ y. same x (decimal y) && unnamed es k y) (count_of k) n b in
        let i = same_true x (decimal n) ((and-eq-true_iff (same x (decimal n)) (unnamed es k n)).0 h.yes_of).0 in
        (sort-word s k a, (ap is_word_def i ∙ decimal-word n, ((fresh es t c).a-name.is_word, r _ e)))
    free k a n b false c r e = none e

    numbered : (k : Kind) → kind_of s ≡ found k → (g : Found ℕ) → number_for es k x ≡ g → Then → next g (λ n. cond (free_name_def es t) (tail k n) absent) ≡ found names → Words (s ∷ x ∷ t ∷ ts)
    numbered k a (found n) b r e = free k a n b (free_name_def es t) refl r e
    numbered k a absent b r e = none e

    go : (f : Found Kind) → kind_of s ≡ f → Then → next f (λ k. next (number_for es k x) (λ n. cond (free_name_def es t) (tail k n) absent)) ≡ found names → Words (s ∷ x ∷ t ∷ ts)
    go (found k) a r e = numbered k a (number_for es k x) refl r e
    go absent a r e = none e

-- words with a blank after each
unfoldable pub spaced : List Token → List ℕ
spaced [] = []
spaced (t ∷ ts) = t ++ 0x20 ∷ spaced ts

spaced-scanned : (ts : List Token) → Words ts → Scans (spaced ts) ts
unfolding spaced scan class_of is_letter_def
spaced-scanned [] h at = refl
spaced-scanned (t ∷ ts) h at = word-scanned t (0x20 ∷ spaced ts) h.0 refl (blanks-scanned (0x20 ∷ []) (spaced ts) (refl, tt) (spaced-scanned ts h.1)) at

pub spaced-tokens : (ts : List Token) {names : List Entry} → entries ts [] ≡ found names → tokens_of (tokens (spaced ts)) ≡ ts
spaced-tokens ts e = spaced-scanned ts (table-words ts [] e) 0

pub spaced-passes : (ts : List Token) {names : List Entry} → entries ts [] ≡ found names → ask_names (spaced ts) ≡ passed names
unfolding ask_names
spaced-passes ts e = told-passed (ask_entries (length (spaced ts)) (tokens (spaced ts)) []) (entries-are (length (spaced ts)) (tokens (spaced ts)) [] ∙ ap (λ z. entries z []) (spaced-tokens ts e) ∙ e)
