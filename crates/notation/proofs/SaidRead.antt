-- Tokens that say the same as bytes are read as those bytes.
use mathlib.Core.Path.{◌≡◌, refl, sym, ◌∙◌, ap, subst}
use mathlib.Core.Bool.{Bool, true, false}
use mathlib.Core.List.{List, [], ◌∷◌, ◌++◌}
use Prim.Native.Nat.{ℕ, suc, ◌≤◌}
use native.Mathlib.Omega.{arith}
use lib.Dec.{T, leb, le→leb}
use Rattle.answer.specs.Asked.{Asked, passed, refused}
use Rattle.logic.specs.Syntax.{node, arrow, rule}
use Rattle.logic.specs.Limits.{Kind, label_number, arrow_number, node_number, fits}
use Rattle.text.specs.Reading.{Limits}
use Rattle.names.specs.Token.{Token, same, ascii, Found, found, absent}
use Rattle.names.proofs.TokenLaws.{same_refl}
use Rattle.names.specs.Names.{Naming}
use Rattle.notation.specs.Grammar.{text_end, Slot, expr, steps, Phrase, phrases, Goal, mark, number, thing, goals}
use Rattle.names.specs.Scan.{Placed, tokens_of}
use Rattle.notation.specs.Parse.{prefixed, ask_start, Start, starts, number_of, phrase_for_def, by_name_def, bare_start, start, parse}
use Rattle.notation.proofs.Says.{Begins, by_word, label, nominal, arrow_kind, closing-else, closing_end, Says, nothing, a-mark, a-number, begin, last, one-rule}
use Rattle.notation.proofs.PhraseLaws.{phrase-of-word}

-- What a naming must satisfy: its name finds each number in range; no node has a label's name; no label's or node's name is a word that begins a node
-- expression, no arrow's name one that begins an arrow expression.
module _ (name : Naming) (l : Limits) where
  pub record Lawful : Type 0 where
    pub back : (k : Kind) (x : ℕ) → T (fits l.numbers k x) → number_of name l k (name k x) ≡ found x
    pub no_label : (x : ℕ) → T (fits l.numbers node_number x) → number_of name l label_number (name node_number x) ≡ absent
    pub label-word : (x : ℕ) → phrase_for_def (name label_number x) (phrases (expr node)) ≡ absent
    pub node-word : (x : ℕ) → phrase_for_def (name node_number x) (phrases (expr node)) ≡ absent
    pub arrow-word : (x : ℕ) → phrase_for_def (name arrow_number x) (phrases (expr arrow)) ≡ absent

module _ (name : Naming) (l : Limits) (law : Lawful name l) where
  -- the start of a thing
  abbrev started : Found Phrase → Slot → ℕ → Start → Start
  started f s d other = elim f as (λ z. Start) [ found r ↦ starts (r.byte ∷ []) (goals s d r.items) | absent ↦ other ]

  name-found : (c x : ℕ) (k : Kind) (t : Token) (other : Start) → number_of name l k t ≡ found x → by_name_def name l c k t other ≡ starts (c ∷ x ∷ []) []
  unfolding by_name_def
  name-found c x k t other e = ap (λ f. elim f as (λ z. Start) [ found x ↦ starts (c ∷ x ∷ []) [] | absent ↦ other ]) e

  name-absent : (c : ℕ) (k : Kind) (t : Token) (other : Start) → number_of name l k t ≡ absent → by_name_def name l c k t other ≡ other
  unfolding by_name_def
  name-absent c k t other e = ap (λ f. elim f as (λ z. Start) [ found x ↦ starts (c ∷ x ∷ []) [] | absent ↦ other ]) e

  pub starts-as : {s : Slot} {d : ℕ} {t : Token} {c : List ℕ} {then : List Goal} → Begins name l s d t c then → start name l s d t ≡ starts c then
  unfolding start bare_start phrases phrase_for_def same ascii
  starts-as {s} {d} (by_word r i) = ap (λ f. started f s d (bare_start name l s r.word)) (phrase-of-word s i)
  starts-as {d = d} (label x f) =
      ap (λ f. started f (expr node) d (bare_start name l (expr node) (name label_number x))) (law.label-word x) ∙ name-found 0x03 x label_number _ _ (law.back label_number x f)
  starts-as {d = d} (nominal x f) =
      ap (λ f. started f (expr node) d (bare_start name l (expr node) (name node_number x))) (law.node-word x)
      ∙ name-absent 0x03 label_number _ _ (law.no_label x f)
      ∙ name-found 0x04 x node_number _ _ (law.back node_number x f)
  starts-as {d = d} (arrow_kind x f) =
      ap (λ f. started f (expr arrow) d (bare_start name l (expr arrow) (name arrow_number x))) (law.arrow-word x) ∙ name-found 0x11 x arrow_number _ _ (law.back arrow_number x f)
  starts-as closing-else = refl
  starts-as closing_end = refl

  -- THE READING IS COMPLETE.
  pub record Cut (ps : List Placed) (t : Token) (ts : List Token) : Type 0 where
    pub head : Placed
    pub tail : List Placed
    pub is : ps ≡ head ∷ tail
    pub head-is : head.token ≡ t
    pub tail-is : tokens_of tail ≡ ts

  cut : (ps : List Placed) (t : Token) (ts : List Token) → tokens_of ps ≡ t ∷ ts → Cut ps t ts
  cut [] t ts e = let z : ◌≡◌ {A = ℕ} 0 1 = cc in absurd (omega arith)
  cut (p ∷ ps) t ts e = record { head = p; tail = ps; is = refl; head-is = cc; tail-is = cc }

  uncut : (ps : List Placed) → tokens_of ps ≡ [] → ps ≡ []
  uncut [] e = refl
  uncut (p ∷ ps) e = let z : ◌≡◌ {A = ℕ} 0 1 = cc in absurd (omega arith)

  module _ (end : ℕ) where
    abbrev Reads : List ℕ → List Placed → List Goal → ℕ → Type 0
    Reads bytes ps g m = parse name l end ps g m ≡ passed bytes

    mark-read : (p : Placed) (ps : List Placed) (t : Token) (g : List Goal) (m : ℕ) (bytes : List ℕ) → p.token ≡ t → Reads bytes ps g m → Reads bytes (p ∷ ps) (mark t ∷ g) m
    unfolding parse
    mark-read p ps t g m bytes e h = go (same p.token t) (ap (λ z. same z t) e ∙ same_refl t)
      where
        go : (b : Bool) → b ≡ true → elim b as (λ z. Asked (List ℕ)) [ true ↦ parse name l end ps g m | false ↦ refused 66 p.place ] ≡ passed bytes
        go true i = h
        go false i = let z : ◌≡◌ {A = ℕ} 0 1 = cc in absurd (omega arith)

    number_read : (p : Placed) (ps : List Placed) (k : Kind) (x : ℕ) (g : List Goal) (m : ℕ) (bytes : List ℕ) → p.token ≡ name k x → T (fits l.numbers k x) → Reads bytes ps g m
        → Reads (x ∷ bytes) (p ∷ ps) (number k ∷ g) m
    unfolding parse prefixed
    number_read p ps k x g m bytes e f h =
        ap (λ n. elim n as (λ z. Asked (List ℕ)) [ found y ↦ prefixed (y ∷ []) (parse name l end ps g m) | absent ↦ refused 67 p.place ]) (ap (number_of name l k) e ∙ law.back k x f)
        ∙ ap (prefixed (x ∷ [])) h

    begin-read : (p : Placed) (ps : List Placed) (s : Slot) (d : ℕ) (c : List ℕ) (then g : List Goal) (m : ℕ) (bytes : List ℕ) → start name l s d p.token ≡ starts c then → d ≤ l.deepest
        → Reads bytes ps (then ++ g) m → Reads (c ++ bytes) (p ∷ ps) (thing s d ∷ g) m
    unfolding parse prefixed
    begin-read p ps s d c then g m bytes e i h =
        ap (λ x. ask_start l d p.place x (λ then. parse name l end ps (then ++ g) m)) e
        ∙ go (leb d l.deepest) (le→leb d l.deepest i)
        ∙ ap (prefixed c) h
      where
        go : (b : Bool) → T b
            → elim b as (λ z. Asked (List ℕ)) [ true ↦ prefixed c (parse name l end ps (then ++ g) m) | false ↦ refused 68 p.place ] ≡ prefixed c (parse name l end ps (then ++ g) m)
        go true i = refl
        go false i = elim i [ ]

    last-read : (d : ℕ) (g : List Goal) (m : ℕ) (bytes : List ℕ) → d ≤ l.deepest → Reads bytes [] g m → Reads (0x30 ∷ bytes) [] (thing (steps text_end) d ∷ g) m
    unfolding parse prefixed
    last-read d g m bytes i h = go (leb d l.deepest) (le→leb d l.deepest i)
      where
        go : (b : Bool) → T b → elim b as (λ z. Asked (List ℕ)) [ true ↦ prefixed (0x30 ∷ []) (parse name l end [] g m) | false ↦ refused 68 end ] ≡ passed (0x30 ∷ bytes)
        go true i = ap (prefixed (0x30 ∷ [])) h
        go false i = elim i [ ]

    pub says-read : {bytes : List ℕ} {ts : List Token} {g : List Goal} {m : ℕ} → Says name l bytes ts g m → (ps : List Placed) → tokens_of ps ≡ ts → Reads bytes ps g m
    unfolding parse
    says-read (nothing {m}) ps e = ap (λ z. parse name l end z [] m) (uncut ps e)
    says-read (one-rule {bytes} {t} {ts} {m} h) ps e =
        let c = cut ps t ts e in
        let r : Reads bytes (c.head ∷ c.tail) (thing (expr rule) 1 ∷ []) m = subst (λ z. Reads bytes z (thing (expr rule) 1 ∷ []) m) c.is (says-read h ps e) in
        subst (λ z. Reads bytes z [] (suc m)) (sym c.is) r
    says-read (a-mark {bytes} {ts} {g} {m} {t} h) ps e =
        let c = cut ps t ts e in
        subst (λ z. Reads bytes z (mark t ∷ g) m) (sym c.is) (mark-read c.head c.tail t g m bytes c.head-is (says-read h c.tail c.tail-is))
    says-read (a-number {bytes} {ts} {g} {m} {k} x f h) ps e =
        let c = cut ps (name k x) ts e in
        subst (λ z. Reads (x ∷ bytes) z (number k ∷ g) m) (sym c.is) (number_read c.head c.tail k x g m bytes c.head-is f (says-read h c.tail c.tail-is))
    says-read (begin {bytes} {ts} {g} {m} {s} {d} {t} {c = cs} {then} i b h) ps e =
        let c = cut ps t ts e in
        subst (λ z. Reads (cs ++ bytes) z (thing s d ∷ g) m) (sym c.is)
        (begin-read c.head c.tail s d cs then g m bytes (ap (start name l s d) c.head-is ∙ starts-as b) i (says-read h c.tail c.tail-is))
    says-read (last {bytes} {g} {m} {d} i h) ps e = subst (λ z. Reads (0x30 ∷ bytes) z (thing (steps text_end) d ∷ g) m) (sym (uncut ps e)) (last-read d g m bytes i (says-read h [] refl))
