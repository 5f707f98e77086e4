-- What is read from words says the same as the words.
use mathlib.Core.Path.{◌≡◌, refl, sym, subst}
use mathlib.Core.Bool.{Bool, true, false, ◌&&◌, cond, and-eq-true_iff}
use mathlib.Core.List.{List, [], ◌∷◌, ◌++◌}
use Prim.Native.Nat.{ℕ, zero, suc, ◌≤◌}
use lib.Dec.{T, leb, leb→le}
use Rattle.answer.specs.Asked.{Asked, passed, refused}
use Rattle.logic.proofs.Bools.{so}
use Rattle.logic.specs.Syntax.{node, arrow, rule}
use Rattle.logic.specs.Limits.{Kind, label_number, arrow_number, node_number, fits}
use Rattle.text.specs.Reading.{Limits}
use Rattle.names.specs.Token.{Token, same, Found, found, absent}
use Rattle.names.proofs.TokenLaws.{same_true, found-hit}
use Rattle.names.specs.Names.{Naming}
use Rattle.notation.specs.Grammar.{at_else, at_end, text_end, else_word, end_word, Slot, expr, steps, Phrase, phrases, Goal, mark, number, thing, goals}
use Rattle.names.specs.Scan.{Placed, tokens_of}
use Rattle.notation.specs.Parse.{prefixed, ask_start, Start, starts, starts_nothing, number_of, phrase_for_def, by_name_def, bare_start, start, parse}
use Rattle.notation.proofs.Says.{◌∈◌, first, later, Begins, by_word, label, nominal, arrow_kind, closing-else, closing_end, Says, nothing, a-mark, a-number, begin, last, one-rule}

module _ (name : Naming) (l : Limits) where
  -- a number that is found is in range, and the token is its name
  pub record Number (k : Kind) (t : Token) (x : ℕ) : Type 0 where
    pub in-range : T (fits l.numbers k x)
    pub is_name : t ≡ name k x

  pub number-found : (k : Kind) (t : Token) (x : ℕ) → number_of name l k t ≡ found x → Number k t x
  unfolding number_of
  number-found k t x e =
      let h = found-hit (λ y. fits l.numbers k y && same t (name k y)) 256 x e in
      let q = (and-eq-true_iff (fits l.numbers k x) (same t (name k x))).0 h.yes_of in
      record { in-range = so q.0; is_name = same_true t (name k x) q.1 }

  abbrev PhraseRight : Token → List Phrase → Found Phrase → Type 0
  PhraseRight t rs (found r) = (r ∈ rs) × (t ≡ r.word)
  PhraseRight t rs absent = Unit {0}

  phrase-right : (t : Token) (rs : List Phrase) → PhraseRight t rs (phrase_for_def t rs)
  unfolding phrase_for_def
  phrase-right t [] = tt
  phrase-right t (r ∷ rs) = go (same t r.word) refl (phrase_for_def t rs) (phrase-right t rs)
    where
      more : (f : Found Phrase) → PhraseRight t rs f → PhraseRight t (r ∷ rs) f
      more (found q) h = (later h.0, h.1)
      more absent h = tt

      go : (b : Bool) → same t r.word ≡ b → (f : Found Phrase) → PhraseRight t rs f → PhraseRight t (r ∷ rs) (elim b as (λ z. Found Phrase) [ true ↦ found r | false ↦ f ])
      go true e f h = (first, same_true t r.word e)
      go false e f h = more f h

  abbrev pub StartRight : Slot → ℕ → Token → Start → Type 0
  StartRight s d t (starts c then) = Begins name l s d t c then
  StartRight s d t starts_nothing = Unit {0}

  by_name : (s : Slot) (d c : ℕ) (k : Kind) (t : Token) (other : Start) → ((x : ℕ) → T (fits l.numbers k x) → Begins name l s d (name k x) (c ∷ x ∷ []) []) → StartRight s d t other
      → StartRight s d t (by_name_def name l c k t other)
  unfolding by_name_def
  by_name s d c k t other b h = go (number_of name l k t) refl
    where
      go : (f : Found ℕ) → number_of name l k t ≡ f → StartRight s d t (elim f as (λ z. Start) [ found x ↦ starts (c ∷ x ∷ []) [] | absent ↦ other ])
      go (found x) e = let n = number-found k t x e in subst (λ z. Begins name l s d z (c ∷ x ∷ []) []) (sym n.is_name) (b x n.in-range)
      go absent e = h

  by-closing : (s : Slot) (d : ℕ) (w t : Token) → Begins name l s d w (0x30 ∷ []) [] → StartRight s d t (cond (same t w) (starts (0x30 ∷ []) []) starts_nothing)
  by-closing s d w t b = go (same t w) refl
    where
      go : (x : Bool) → same t w ≡ x → StartRight s d t (cond x (starts (0x30 ∷ []) []) starts_nothing)
      go true e = subst (λ z. Begins name l s d z (0x30 ∷ []) []) (sym (same_true t w e)) b
      go false e = tt

  bare-right : (s : Slot) (d : ℕ) (t : Token) → StartRight s d t (bare_start name l s t)
  unfolding bare_start
  bare-right (expr node) d t = by_name (expr node) d 0x03 label_number t _ (λ x h. label x h) (by_name (expr node) d 0x04 node_number t starts_nothing (λ x h. nominal x h) tt)
  bare-right (expr arrow) d t = by_name (expr arrow) d 0x11 arrow_number t starts_nothing (λ x h. arrow_kind x h) tt
  bare-right (expr rule) d t = tt
  bare-right (steps at_else) d t = by-closing (steps at_else) d else_word t closing-else
  bare-right (steps at_end) d t = by-closing (steps at_end) d end_word t closing_end
  bare-right (steps text_end) d t = tt

  pub start_right : (s : Slot) (d : ℕ) (t : Token) → StartRight s d t (start name l s d t)
  unfolding start
  start_right s d t = go (phrase_for_def t (phrases s)) (phrase-right t (phrases s))
    where
      go : (f : Found Phrase) → PhraseRight t (phrases s) f → StartRight s d t (elim f as (λ z. Start) [ found r ↦ starts (r.byte ∷ []) (goals s d r.items) | absent ↦ bare_start name l s t ])
      go (found r) h = subst (λ z. Begins name l s d z (r.byte ∷ []) (goals s d r.items)) (sym h.1) (by_word r h.0)
      go absent h = bare-right s d t

  -- THE READING IS RIGHT.
  abbrev pub Right : List Token → List Goal → ℕ → Asked (List ℕ) → Type 0
  Right ts g m (passed bytes) = Says name l bytes ts g m
  Right ts g m (refused q p) = Unit {0}

  prefixed-right : (c : List ℕ) (ts ts' : List Token) (g g' : List Goal) (m : ℕ) (r : Asked (List ℕ)) → ((bytes : List ℕ) → Says name l bytes ts g m → Says name l (c ++ bytes) ts' g' m)
      → Right ts g m r → Right ts' g' m (prefixed c r)
  unfolding prefixed
  prefixed-right c ts ts' g g' m (passed bytes) k h = k bytes h
  prefixed-right c ts ts' g g' m (refused q p) k h = tt

  begin-right : (s : Slot) (d : ℕ) (t : Token) (ts : List Token) (g : List Goal) (m p : ℕ) (r : List Goal → Asked (List ℕ)) → (x : Start) → StartRight s d t x
      → ((then : List Goal) → Right ts (then ++ g) m (r then))
      → Right (t ∷ ts) (thing s d ∷ g) m (ask_start l d p x r)
  begin-right s d t ts g m p r (starts c then) h k = go (leb d l.deepest) (leb→le d l.deepest)
    where
      go : (b : Bool) → (T b → d ≤ l.deepest) → Right (t ∷ ts) (thing s d ∷ g) m (elim b as (λ z. Asked (List ℕ)) [ true ↦ prefixed c (r then) | false ↦ refused 68 p ])
      go true i = prefixed-right c ts (t ∷ ts) (then ++ g) (thing s d ∷ g) m (r then) (λ bytes x. begin (i tt) h x) (k then)
      go false i = tt
  begin-right s d t ts g m p r starts_nothing h k = tt

  rule-right : (t : Token) (ts : List Token) (m : ℕ) (r : Asked (List ℕ)) → Right (t ∷ ts) (thing (expr rule) 1 ∷ []) m r → Right (t ∷ ts) [] (suc m) r
  rule-right t ts m (passed bytes) h = one-rule h
  rule-right t ts m (refused q p) h = tt

  pub parse-right : (end : ℕ) (ts : List Placed) (g : List Goal) (m : ℕ) → Right (tokens_of ts) g m (parse name l end ts g m)
  unfolding parse
  parse-right end [] [] m = nothing
  parse-right end [] (mark t ∷ g) m = tt
  parse-right end [] (number k ∷ g) m = tt
  parse-right end [] (thing (expr s) d ∷ g) m = tt
  parse-right end [] (thing (steps at_else) d ∷ g) m = tt
  parse-right end [] (thing (steps at_end) d ∷ g) m = tt
  parse-right end [] (thing (steps text_end) d ∷ g) m = go (leb d l.deepest) (leb→le d l.deepest) (parse-right end [] g m)
    where
      go : (b : Bool) → (T b → d ≤ l.deepest) → Right [] g m (parse name l end [] g m)
          → Right [] (thing (steps text_end) d ∷ g) m (elim b as (λ z. Asked (List ℕ)) [ true ↦ prefixed (0x30 ∷ []) (parse name l end [] g m) | false ↦ refused 68 end ])
      go true i h = prefixed-right (0x30 ∷ []) [] [] g (thing (steps text_end) d ∷ g) m (parse name l end [] g m) (λ bytes x. last (i tt) x) h
      go false i h = tt
  parse-right end (t ∷ ts) [] zero = tt
  parse-right end (t ∷ ts) [] (suc m) =
      rule-right t.token (tokens_of ts) m (parse name l end (t ∷ ts) [] (suc m))
      (begin-right (expr rule) 1 t.token (tokens_of ts) [] m t.place (λ then. parse name l end ts (then ++ []) m) (start name l (expr rule) 1 t.token) (start_right (expr rule) 1 t.token) (λ then. parse-right end ts (then ++ []) m))
  parse-right end (t ∷ ts) (mark w ∷ g) m = go (same t.token w) refl (parse name l end ts g m) (parse-right end ts g m)
    where
      marked : (r : Asked (List ℕ)) → Right (tokens_of ts) g m r → Right (w ∷ tokens_of ts) (mark w ∷ g) m r
      marked (passed bytes) h = a-mark h
      marked (refused q p) h = tt

      go : (b : Bool) → same t.token w ≡ b → (r : Asked (List ℕ)) → Right (tokens_of ts) g m r
          → Right (t.token ∷ tokens_of ts) (mark w ∷ g) m (elim b as (λ z. Asked (List ℕ)) [ true ↦ r | false ↦ refused 66 t.place ])
      go true e r h = subst (λ z. Right (z ∷ tokens_of ts) (mark w ∷ g) m r) (sym (same_true t.token w e)) (marked r h)
      go false e r h = tt
  parse-right end (t ∷ ts) (number k ∷ g) m = go (number_of name l k t.token) refl (parse-right end ts g m)
    where
      go : (f : Found ℕ) → number_of name l k t.token ≡ f → Right (tokens_of ts) g m (parse name l end ts g m)
          → Right (t.token ∷ tokens_of ts) (number k ∷ g) m (elim f as (λ z. Asked (List ℕ)) [ found x ↦ prefixed (x ∷ []) (parse name l end ts g m) | absent ↦ refused 67 t.place ])
      go (found x) e h =
          let n = number-found k t.token x e in
          subst (λ z. Right (z ∷ tokens_of ts) (number k ∷ g) m (prefixed (x ∷ []) (parse name l end ts g m))) (sym n.is_name)
          (prefixed-right (x ∷ []) (tokens_of ts) (name k x ∷ tokens_of ts) g (number k ∷ g) m (parse name l end ts g m) (λ bytes s. a-number x n.in-range s) h)
      go absent e h = tt
  parse-right end (t ∷ ts) (thing s d ∷ g) m =
      begin-right s d t.token (tokens_of ts) g m t.place (λ then. parse name l end ts (then ++ g) m) (start name l s d t.token) (start_right s d t.token) (λ then. parse-right end ts (then ++ g) m)

  -- What is read says the same as the tokens.
  pub read-says : (end : ℕ) (ts : List Placed) (g : List Goal) (m : ℕ) {bytes : List ℕ} → parse name l end ts g m ≡ passed bytes → Says name l bytes (tokens_of ts) g m
  read-says end ts g m e = subst (Right (tokens_of ts) g m) e (parse-right end ts g m)
