-- The place of a fault: the first token with which the tokens so far begin no words.
use mathlib.Core.Path.{◌≡◌, refl, sym, ◌∙◌, ap, subst}
use mathlib.Core.Bool.{Bool, true, false}
use mathlib.Core.List.{List, [], ◌∷◌, ◌++◌}
use Prim.Native.Nat.{ℕ, zero, suc, ◌+◌, ◌≤◌}
use native.Mathlib.Omega.{arith}
use lib.Dec.{leb}
use borrow.Author.Tests.{leb-true, le-leb}
use Rattle.answer.specs.Asked.{Asked, passed, refused}
use Rattle.logic.specs.Syntax.{rule}
use Rattle.logic.specs.Limits.{Kind}
use Rattle.logic.proofs.Bools.{true-false}
use Rattle.text.specs.Reading.{Limits}
use Rattle.names.specs.Token.{Token, same, Found, found, absent}
use Rattle.names.specs.Scan.{Placed, tokens_of}
use Rattle.names.proofs.TokenLaws.{same_true, same_refl}
use Rattle.names.specs.Names.{Naming}
use Rattle.notation.specs.Grammar.{at_else, at_end, text_end, Slot, expr, steps, Goal, mark, number, thing}
use Rattle.notation.specs.Parse.{prefixed, ask_start, Start, starts, starts_nothing, number_of, start, parse}
use Rattle.notation.proofs.Says.{Begins, Says, nothing, a-mark, a-number, begin, last, one-rule}
use Rattle.notation.proofs.ReadSays.{number-found, StartRight, start_right}
use Rattle.notation.proofs.SaidRead.{Lawful, starts-as}
use Rattle.notation.proofs.Ended.{two_deeper, SomeNumber, Good, good-then, begins-wider, ends}

-- Some words begin with these tokens.
pub record BegunWords (name : Naming) (l : Limits) (ts : List Token) (g : List Goal) (m : ℕ) : Type 0 where
  pub more : List Token
  pub bytes : List ℕ
  pub says : Says name l bytes (ts ++ more) g m

-- The tokens up to a place begin no words; at the text's end, they are not words.
abbrev pub NoWordsAt : Naming → Limits → (end : ℕ) → (before rest : List Placed) → List Goal → (m p : ℕ) → Type 0
NoWordsAt name l end before [] g m p = (p ≡ end) × ((bytes : List ℕ) → Says name l bytes (tokens_of before) g m → ⊥)
NoWordsAt name l end before (t ∷ rest) g m p = (p ≡ t.place) × ((bytes : List ℕ) (more : List Token) → Says name l bytes (tokens_of before ++ t.token ∷ more) g m → ⊥)

pub record FirstFault (name : Naming) (l : Limits) (end : ℕ) (ts : List Placed) (g : List Goal) (m p : ℕ) : Type 0 where
  pub before : List Placed
  pub rest : List Placed
  pub is : ts ≡ before ++ rest
  pub begun : BegunWords name (two_deeper l) (tokens_of before) g m
  pub wrong : NoWordsAt name l end before rest g m p

module _ (name : Naming) (l : Limits) (law : Lawful name l) (some : (k : Kind) → SomeNumber l k) (end : ℕ) where
  abbrev pub Located : List Placed → List Goal → ℕ → Asked (List ℕ) → Type 0
  Located ts g m (passed bytes) = Unit {0}
  Located ts g m (refused q p) = FirstFault name l end ts g m p

  -- what can be begun with no tokens
  from_nothing : (g : List Goal) (m : ℕ) → Good l g → BegunWords name (two_deeper l) [] g m
  from_nothing g m q = let e = ends name l some g m q in record { more = e.1.tokens; bytes = e.0; says = e.1.says }

  -- a fault at the end, and at the first token
  at-end : (g : List Goal) (m : ℕ) → Good l g → ((bytes : List ℕ) → Says name l bytes [] g m → ⊥) → FirstFault name l end [] g m end
  at-end g m q n = record { before = []; rest = []; is = refl; begun = from_nothing g m q; wrong = (refl, n) }

  at_first : (t : Placed) (ts : List Placed) (g : List Goal) (m : ℕ) → Good l g → ((bytes : List ℕ) (more : List Token) → Says name l bytes (t.token ∷ more) g m → ⊥)
      → FirstFault name l end (t ∷ ts) g m t.place
  at_first t ts g m q n = record { before = []; rest = t ∷ ts; is = refl; begun = from_nothing g m q; wrong = (refl, n) }

  -- one more token at the front: what follows it is known
  abbrev Onward : Token → List Goal → List Goal → ℕ → ℕ → Type 0
  Onward t g g' m m' = (bytes : List ℕ) (ts : List Token) → Says name (two_deeper l) bytes ts g m → (c : List ℕ) × Says name (two_deeper l) c (t ∷ ts) g' m'

  abbrev Back : Token → List Token → List Goal → List Goal → ℕ → ℕ → Type 0
  Back t X g g' m m' = (bytes : List ℕ) → Says name l bytes (t ∷ X) g' m' → (c : List ℕ) × Says name l c X g m

  -- a token and the goals that it leads to, whatever follows
  push-wrong : (t : Placed) (before rest : List Placed) (g g' : List Goal) (m m' p : ℕ) → ((X : List Token) → Back t.token X g g' m m') → NoWordsAt name l end before rest g m p
      → NoWordsAt name l end (t ∷ before) rest g' m' p
  push-wrong t before [] g g' m m' p k w = (w.0, λ bytes s. let q = k (tokens_of before) bytes s in w.1 q.0 q.1)
  push-wrong t before (u ∷ rest) g g' m m' p k w = (w.0, λ bytes more s. let q = k (tokens_of before ++ u.token ∷ more) bytes s in w.1 q.0 more q.1)

  push : (t : Placed) (ts : List Placed) (g g' : List Goal) (m m' p : ℕ) → Onward t.token g g' m m' → ((X : List Token) → Back t.token X g g' m m')
      → FirstFault name l end ts g m p → FirstFault name l end (t ∷ ts) g' m' p
  push t ts g g' m m' p on k w =
      let b = w.begun in
      let o = on b.bytes (tokens_of w.before ++ b.more) b.says in
      record {
        before = t ∷ w.before;
        rest = w.rest;
        is = ap (t ∷◌) w.is;
        begun = record { more = b.more; bytes = o.0; says = o.1 };
        wrong = push-wrong t w.before w.rest g g' m m' p k w.wrong;
      }

  -- marks and numbers
  mark-back : (t w : Token) (X : List Token) (g : List Goal) (m : ℕ) → Back t X g (mark w ∷ g) m m
  mark-back t w X g m bytes (a-mark h) = (bytes, h)

  mark-wrong : (t w : Token) (g : List Goal) (m : ℕ) → same t w ≡ false → (bytes : List ℕ) (more : List Token) → Says name l bytes (t ∷ more) (mark w ∷ g) m → ⊥
  mark-wrong t w g m e bytes more (a-mark h) = true-false (same_refl t) e

  number-back : (t : Token) (k : Kind) (X : List Token) (g : List Goal) (m : ℕ) → Back t X g (number k ∷ g) m m
  number-back t k X g m bytes (a-number {bytes = c} x f h) = (c, h)

  number-wrong : (t : Token) (k : Kind) (g : List Goal) (m : ℕ) → number_of name l k t ≡ absent → (bytes : List ℕ) (more : List Token) → Says name l bytes (t ∷ more) (number k ∷ g) m → ⊥
  number-wrong t k g m e bytes more (a-number x f h) = let z : ◌≡◌ {A = Found ℕ} (found x) absent = sym (law.back k x f) ∙ e in let y : ◌≡◌ {A = ℕ} 0 1 = cc in absurd (omega arith)

  -- things
  pub record Began (s : Slot) (d : ℕ) (t : Token) (X : List Token) (g : List Goal) (m : ℕ) : Type 0 where
    pub c : List ℕ
    pub then : List Goal
    pub bytes : List ℕ
    pub level : d ≤ l.deepest
    pub starts-so : start name l s d t ≡ starts c then
    pub says : Says name l bytes X (then ++ g) m

  began : (s : Slot) (d : ℕ) (t : Token) (X : List Token) (g : List Goal) (m : ℕ) (bytes : List ℕ) → Says name l bytes (t ∷ X) (thing s d ∷ g) m → Began s d t X g m
  began s d t X g m bytes (begin {bytes = b} {c = c} {then = then} i x h) = record { c = c; then = then; bytes = b; level = i; starts-so = starts-as name l law x; says = h }

  thing-wrong : (s : Slot) (d : ℕ) (t : Token) (g : List Goal) (m : ℕ) → start name l s d t ≡ starts_nothing → (bytes : List ℕ) (more : List Token) → Says name l bytes (t ∷ more) (thing s d ∷ g) m → ⊥
  thing-wrong s d t g m e bytes more h =
      let b = began s d t more g m bytes h in
      let x : ◌≡◌ {A = Start} starts_nothing (starts b.c b.then) = sym e ∙ b.starts-so in
      let z : ◌≡◌ {A = ℕ} 0 1 = cc in
      absurd (omega arith)

  thing-deep : (s : Slot) (d : ℕ) (t : Token) (g : List Goal) (m : ℕ) → (d ≤ l.deepest → ⊥) → (bytes : List ℕ) (more : List Token) → Says name l bytes (t ∷ more) (thing s d ∷ g) m → ⊥
  thing-deep s d t g m n bytes more h = n (began s d t more g m bytes h).level

  thing-back : (s : Slot) (d : ℕ) (t : Token) (X : List Token) (c : List ℕ) (then g : List Goal) (m : ℕ) → start name l s d t ≡ starts c then → Back t X (then ++ g) (thing s d ∷ g) m m
  thing-back s d t X c then g m e bytes h =
      let b = began s d t X g m bytes h in
      let z : starts c then ≡ starts b.c b.then = sym e ∙ b.starts-so in
      let y : b.then ≡ then = cc in
      (b.bytes, subst (λ x. Says name l b.bytes X (x ++ g) m) y b.says)

  -- bytes at the front do not move a fault
  prefixed-located : (c : List ℕ) (ts ts' : List Placed) (g g' : List Goal) (m m' : ℕ) (r : Asked (List ℕ)) → ((p : ℕ) → FirstFault name l end ts g m p → FirstFault name l end ts' g' m' p)
      → Located ts g m r → Located ts' g' m' (prefixed c r)
  unfolding prefixed
  prefixed-located c ts ts' g g' m m' (passed bytes) k h = tt
  prefixed-located c ts ts' g g' m m' (refused q p) k h = k p h

  begin-located : (s : Slot) (d : ℕ) (t : Placed) (ts : List Placed) (g : List Goal) (m : ℕ) (r : List Goal → Asked (List ℕ)) → (x : Start) → start name l s d t.token ≡ x → Good l (thing s d ∷ g)
      → ((then : List Goal) → Good l (then ++ g) → Located ts (then ++ g) m (r then))
      → Located (t ∷ ts) (thing s d ∷ g) m (ask_start l d t.place x r)
  begin-located s d t ts g m r (starts c then) e q k = go (leb d l.deepest) refl
    where
      x : Begins name l s d t.token c then
      x = subst (StartRight name l s d t.token) e (start_right name l s d t.token)

      go : (b : Bool) → leb d l.deepest ≡ b → Located (t ∷ ts) (thing s d ∷ g) m (elim b as (λ z. Asked (List ℕ)) [ true ↦ prefixed c (r then) | false ↦ refused 68 t.place ])
      go true i = let j = leb-true d l.deepest i in prefixed-located c ts (t ∷ ts) (then ++ g) (thing s d ∷ g) m m (r then)
          (λ p f. push t ts (then ++ g) (thing s d ∷ g) m m p (λ bytes X h. (c ++ bytes, begin {d = d} (omega arith) (begins-wider name l some x) h)) (λ X. thing-back s d t.token X c then g m e) f)
          (k then (good-then name l some x g j q))
      go false i = at_first t ts (thing s d ∷ g) m q (thing-deep s d t.token g m (λ j. true-false (le-leb d l.deepest j) i))
  begin-located s d t ts g m r starts_nothing e q k = at_first t ts (thing s d ∷ g) m q (thing-wrong s d t.token g m e)

  -- a rule of a book
  wide-rule : {bytes : List ℕ} {X : List Token} {m : ℕ} → Says name (two_deeper l) bytes X (thing (expr rule) 1 ∷ []) m → Says name (two_deeper l) bytes X [] (suc m)
  wide-rule (begin i b h) = one-rule (begin i b h)

  the-rule : {bytes : List ℕ} {t : Token} {X : List Token} {m : ℕ} → Says name l bytes (t ∷ X) [] (suc m) → Says name l bytes (t ∷ X) (thing (expr rule) 1 ∷ []) m
  the-rule (one-rule h) = h

  rule-wrong : (t : Placed) (ts before rest : List Placed) (m p : ℕ) → t ∷ ts ≡ before ++ rest → NoWordsAt name l end before rest (thing (expr rule) 1 ∷ []) m p
      → NoWordsAt name l end before rest [] (suc m) p
  rule-wrong t ts [] [] m p e w = let z : ◌≡◌ {A = ℕ} 0 1 = cc in absurd (omega arith)
  rule-wrong t ts [] (u ∷ rest) m p e w = (w.0, λ bytes more h. w.1 bytes more (the-rule h))
  rule-wrong t ts (b ∷ before) [] m p e w = (w.0, λ bytes h. w.1 bytes (the-rule h))
  rule-wrong t ts (b ∷ before) (u ∷ rest) m p e w = (w.0, λ bytes more h. w.1 bytes more (the-rule h))

  rule-onward : (t : Placed) (ts : List Placed) (m p : ℕ) → FirstFault name l end (t ∷ ts) (thing (expr rule) 1 ∷ []) m p → FirstFault name l end (t ∷ ts) [] (suc m) p
  rule-onward t ts m p w =
      let b = w.begun in
      record {
        before = w.before;
        rest = w.rest;
        is = w.is;
        begun = record { more = b.more; bytes = b.bytes; says = wide-rule b.says };
        wrong = rule-wrong t ts w.before w.rest m p w.is w.wrong;
      }

  rule-located : (t : Placed) (ts : List Placed) (m : ℕ) (r : Asked (List ℕ)) → Located (t ∷ ts) (thing (expr rule) 1 ∷ []) m r → Located (t ∷ ts) [] (suc m) r
  rule-located t ts m (passed bytes) h = tt
  rule-located t ts m (refused q p) h = rule-onward t ts m p h

  -- if no token is left, or no goal
  abbrev Possible : List Token → List Goal → ℕ → Type 0
  Possible [] [] m = Unit {0}
  Possible [] (mark t ∷ g) m = ⊥
  Possible [] (number k ∷ g) m = ⊥
  Possible [] (thing (expr s) d ∷ g) m = ⊥
  Possible [] (thing (steps at_else) d ∷ g) m = ⊥
  Possible [] (thing (steps at_end) d ∷ g) m = ⊥
  Possible [] (thing (steps text_end) d ∷ g) m = d ≤ l.deepest
  Possible (t ∷ ts) [] zero = ⊥
  Possible (t ∷ ts) [] (suc m) = Unit {0}
  Possible (t ∷ ts) (x ∷ g) m = Unit {0}

  possible : {bytes : List ℕ} {ts : List Token} {g : List Goal} {m : ℕ} → Says name l bytes ts g m → Possible ts g m
  possible nothing = tt
  possible (one-rule h) = tt
  possible (a-mark h) = tt
  possible (a-number x f h) = tt
  possible (begin i b h) = tt
  possible (last i h) = i

  -- Every fault is at such a place.
  pub located : (ts : List Placed) (g : List Goal) (m : ℕ) → Good l g → Located ts g m (parse name l end ts g m)
  unfolding parse prefixed
  located [] [] m q = tt
  located [] (mark t ∷ g) m q = at-end (mark t ∷ g) m q (λ bytes h. possible h)
  located [] (number k ∷ g) m q = at-end (number k ∷ g) m q (λ bytes h. possible h)
  located [] (thing (expr s) d ∷ g) m q = at-end (thing (expr s) d ∷ g) m q (λ bytes h. possible h)
  located [] (thing (steps at_else) d ∷ g) m q = at-end (thing (steps at_else) d ∷ g) m q (λ bytes h. possible h)
  located [] (thing (steps at_end) d ∷ g) m q = at-end (thing (steps at_end) d ∷ g) m q (λ bytes h. possible h)
  located [] (thing (steps text_end) d ∷ g) m q = go (leb d l.deepest) refl
    where
      nothing_left : (g : List Goal) → g ≡ [] → Located [] (thing (steps text_end) d ∷ g) m (prefixed (0x30 ∷ []) (parse name l end [] g m))
      nothing_left [] e = tt
      nothing_left (x ∷ g) e = let z : ◌≡◌ {A = ℕ} 0 1 = cc in absurd (omega arith)

      go : (b : Bool) → leb d l.deepest ≡ b
          → Located [] (thing (steps text_end) d ∷ g) m (elim b as (λ z. Asked (List ℕ)) [ true ↦ prefixed (0x30 ∷ []) (parse name l end [] g m) | false ↦ refused 68 end ])
      go true i = nothing_left g q.1
      go false i = at-end (thing (steps text_end) d ∷ g) m q (λ bytes h. true-false (le-leb d l.deepest (possible h)) i)
  located (t ∷ ts) [] zero q = at_first t ts [] zero tt (λ bytes more h. possible h)
  located (t ∷ ts) [] (suc m) q =
      rule-located t ts m (parse name l end (t ∷ ts) [] (suc m))
      (begin-located (expr rule) 1 t ts [] m (λ then. parse name l end ts (then ++ []) m) (start name l (expr rule) 1 t.token) refl (omega arith, tt) (λ then k. located ts (then ++ []) m k))
  located (t ∷ ts) (mark w ∷ g) m q = go (same t.token w) refl (parse name l end ts g m) (located ts g m q)
    where
      on : Onward t.token g (mark t.token ∷ g) m m
      on bytes X h = (bytes, a-mark h)

      passed-by : (r : Asked (List ℕ)) → Located ts g m r → Located (t ∷ ts) (mark t.token ∷ g) m r
      passed-by (passed bytes) h = tt
      passed-by (refused q p) h = push t ts g (mark t.token ∷ g) m m p on (λ X. mark-back t.token t.token X g m) h

      go : (b : Bool) → same t.token w ≡ b → (r : Asked (List ℕ)) → Located ts g m r → Located (t ∷ ts) (mark w ∷ g) m (elim b as (λ z. Asked (List ℕ)) [ true ↦ r | false ↦ refused 66 t.place ])
      go true e r h = subst (λ z. Located (t ∷ ts) (mark z ∷ g) m r) (same_true t.token w e) (passed-by r h)
      go false e r h = at_first t ts (mark w ∷ g) m q (mark-wrong t.token w g m e)
  located (t ∷ ts) (number k ∷ g) m q = go (number_of name l k t.token) refl (located ts g m q)
    where
      go : (f : Found ℕ) → number_of name l k t.token ≡ f → Located ts g m (parse name l end ts g m)
          → Located (t ∷ ts) (number k ∷ g) m (elim f as (λ z. Asked (List ℕ)) [ found x ↦ prefixed (x ∷ []) (parse name l end ts g m) | absent ↦ refused 67 t.place ])
      go (found x) e h =
          let n = number-found name l k t.token x e in
          prefixed-located (x ∷ []) ts (t ∷ ts) g (number k ∷ g) m m (parse name l end ts g m)
          (λ p f. push t ts g (number k ∷ g) m m p (λ bytes X s. (x ∷ bytes, subst (λ z. Says name (two_deeper l) (x ∷ bytes) (z ∷ X) (number k ∷ g) m) (sym n.is_name) (a-number x n.in-range s))) (λ X. number-back t.token k X g m) f) h
      go absent e h = at_first t ts (number k ∷ g) m q (number-wrong t.token k g m e)
  located (t ∷ ts) (thing s d ∷ g) m q = begin-located s d t ts g m (λ then. parse name l end ts (then ++ g) m) (start name l s d t.token) refl q (λ then k. located ts (then ++ g) m k)
