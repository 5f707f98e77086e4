-- Words of which only some rules are read: where the next one begins.
use mathlib.Core.Path.{◌≡◌, refl, sym, ◌∙◌, ap, subst}
use mathlib.Core.Bool.{Bool, true, false}
use mathlib.Core.List.{List, [], ◌∷◌, ◌++◌, append_assoc}
use mathlib.Core.Logic.{◌⊎◌, inl, inr}
use Prim.Native.Nat.{ℕ, zero, suc, ◌+◌, ◌<◌}
use native.Mathlib.Omega.{arith}
use lib.Dec.{leb}
use lib.ListN.{length, length-append}
use Rattle.answer.specs.Asked.{Asked, passed, refused}
use Rattle.answer.proofs.AskedLaws.{refused-not-passed}
use Rattle.logic.specs.Syntax.{rule}
use Rattle.text.specs.Reading.{Limits}
use Rattle.names.specs.Token.{same, Found, found, absent}
use Rattle.names.specs.Scan.{Placed}
use Rattle.names.specs.Names.{Naming}
use Rattle.notation.specs.Grammar.{at_else, at_end, text_end, Slot, expr, steps, Goal, mark, number, thing}
use Rattle.notation.specs.Parse.{prefixed, ask_start, Start, starts, starts_nothing, number_of, start, parse}

-- Bytes at the front.
pub prefixed-passed : (c : List ℕ) (r : Asked (List ℕ)) {b : List ℕ} → prefixed c r ≡ passed b → (a : List ℕ) × (r ≡ passed a) × (b ≡ c ++ a)
unfolding prefixed
prefixed-passed c (passed a) e = (a, refl, cc)
prefixed-passed c (refused q p) e = refused-not-passed e

prefixed-none : (r : Asked (List ℕ)) → prefixed [] r ≡ r
unfolding prefixed
prefixed-none (passed a) = refl
prefixed-none (refused q p) = refl

prefixed-twice : (c d : List ℕ) (r : Asked (List ℕ)) → prefixed c (prefixed d r) ≡ prefixed (c ++ d) r
unfolding prefixed
prefixed-twice c d (passed a) = ap passed (sym (append_assoc c d a))
prefixed-twice c d (refused q p) = refl

-- What a token leads to: at a level within the limit or not; for the mark wanted or another; for a number or none.
abbrev at_level : (place : ℕ) → List ℕ → Bool → Asked (List ℕ) → Asked (List ℕ)
at_level p c b r = elim b as (λ z. Asked (List ℕ)) [ true ↦ prefixed c r | false ↦ refused 68 p ]

abbrev if_mark : (place : ℕ) → Bool → Asked (List ℕ) → Asked (List ℕ)
if_mark p b r = elim b as (λ z. Asked (List ℕ)) [ true ↦ r | false ↦ refused 66 p ]

abbrev if_number : (place : ℕ) → Found ℕ → Asked (List ℕ) → Asked (List ℕ)
if_number p f r = elim f as (λ z. Asked (List ℕ)) [ found x ↦ prefixed (x ∷ []) r | absent ↦ refused 67 p ]

module _ (name : Naming) (l : Limits) where
  -- The first j rules end before a token: they are read, with fewer allowed they are not, and with more the rest is read as the others.
  pub record RuleCut (ts : List Placed) (g : List Goal) (j p : ℕ) : Type 0 where
    pub before : List Placed
    pub t : Placed
    pub rest : List Placed
    pub bytes : List ℕ
    pub is : ts ≡ before ++ t ∷ rest
    pub place_is : p ≡ t.place
    pub before-read : (end m : ℕ) → parse name l end before g (j + m) ≡ passed bytes
    pub no-fewer : (end k : ℕ) (b : List ℕ) → k < j → parse name l end before g k ≡ passed b → ⊥
    pub onward : (end m : ℕ) (u : Placed) (us : List Placed) → parse name l end (before ++ u ∷ us) g (j + m) ≡ prefixed bytes (parse name l end (u ∷ us) [] m)

  -- What is refused is refused with more rules too, except for 69.
  abbrev pub Stopped : (end : ℕ) → List Placed → List Goal → ℕ → Asked (List ℕ) → Type 0
  Stopped end ts g j (passed bytes) = Unit {0}
  Stopped end ts g j (refused q p) = ((q ≡ 69) × RuleCut ts g j p) ⊎ ((q < 69) × ((m : ℕ) → parse name l end ts g (j + m) ≡ refused q p))

  -- One token at the front: `up` counts the rule that it begins, if it begins one.
  module _ (up : ℕ → ℕ) (more : (j m : ℕ) → up j + m ≡ up (j + m)) (t : Placed) (g' : List Goal) where
    -- fewer than a number of rules, the first of them counted
    abbrev Down : Type 0
    Down = (end j k : ℕ) (us : List Placed) (b : List ℕ) → k < up j → parse name l end (t ∷ us) g' k ≡ passed b → (i : ℕ) × (k ≡ up i) × (i < j)

    module _ (down : Down) (c : List ℕ) (g : List Goal) (step : (end n : ℕ) (us : List Placed) → parse name l end (t ∷ us) g' (up n) ≡ prefixed c (parse name l end us g n)) where
      step-more : (end j m : ℕ) (us : List Placed) → parse name l end (t ∷ us) g' (up j + m) ≡ prefixed c (parse name l end us g (j + m))
      step-more end j m us = ap (parse name l end (t ∷ us) g') (more j m) ∙ step end (j + m) us

      push-cut : (ts : List Placed) (j p : ℕ) → RuleCut ts g j p → RuleCut (t ∷ ts) g' (up j) p
      unfolding prefixed
      push-cut ts j p r =
          record {
            before = t ∷ r.before;
            t = r.t;
            rest = r.rest;
            bytes = c ++ r.bytes;
            is = ap (t ∷◌) r.is;
            place_is = r.place_is;
            before-read = λ end m. step-more end j m r.before ∙ ap (prefixed c) (r.before-read end m);
            no-fewer = λ end k b h e.
                let (i, q, s) = down end j k r.before b h e in
                let (a, f, z) = prefixed-passed c (parse name l end r.before g i) (sym (step end i r.before) ∙ ap (parse name l end (t ∷ r.before) g') (sym q) ∙ e) in
                r.no-fewer end i a s f;
            onward = λ end m v us. step-more end j m (r.before ++ v ∷ us) ∙ ap (prefixed c) (r.onward end m v us) ∙ prefixed-twice c r.bytes (parse name l end (v ∷ us) [] m);
          }

      push : (end : ℕ) (ts : List Placed) (j : ℕ) (r : Asked (List ℕ)) → Stopped end ts g j r → Stopped end (t ∷ ts) g' (up j) (prefixed c r)
      unfolding prefixed
      push end ts j (passed b) s = tt
      push end ts j (refused q p) (inl (e, s)) = inl (e, push-cut ts j p s)
      push end ts j (refused q p) (inr (h, s)) = inr (h, λ m. step-more end j m ts ∙ ap (prefixed c) (s m))

    -- a token that begins a thing
    module _ (down : Down) (d : ℕ) (s : Slot) (g : List Goal)
        (law : (end n : ℕ) (us : List Placed) → parse name l end (t ∷ us) g' (up n) ≡ ask_start l d t.place (start name l s d t.token) (λ then. parse name l end us (then ++ g) n)) where
      law-more : (end j m : ℕ) (us : List Placed) → parse name l end (t ∷ us) g' (up j + m) ≡ ask_start l d t.place (start name l s d t.token) (λ then. parse name l end us (then ++ g) (j + m))
      law-more end j m us = ap (parse name l end (t ∷ us) g') (more j m) ∙ law end (j + m) us

      begin-stopped : (end : ℕ) (ts : List Placed) (j : ℕ) (x : Start) → start name l s d t.token ≡ x → ((then : List Goal) → Stopped end ts (then ++ g) j (parse name l end ts (then ++ g) j))
          → Stopped end (t ∷ ts) g' (up j) (ask_start l d t.place x (λ then. parse name l end ts (then ++ g) j))
      begin-stopped end ts j (starts c then) e r = go (leb d l.deepest) refl
        where
          so : (b : Bool) → leb d l.deepest ≡ b → (end n : ℕ) (us : List Placed)
              → ask_start l d t.place (start name l s d t.token) (λ then. parse name l end us (then ++ g) n) ≡ at_level t.place c b (parse name l end us (then ++ g) n)
          so b f end n us = ap (λ x. ask_start l d t.place x (λ then. parse name l end us (then ++ g) n)) e ∙ ap (λ b. at_level t.place c b (parse name l end us (then ++ g) n)) f

          go : (b : Bool) → leb d l.deepest ≡ b → Stopped end (t ∷ ts) g' (up j) (at_level t.place c b (parse name l end ts (then ++ g) j))
          go true f = push down c (then ++ g) (λ end n us. law end n us ∙ so true f end n us) end ts j (parse name l end ts (then ++ g) j) (r then)
          go false f = inr (omega arith, λ m. law-more end j m ts ∙ so false f end (j + m) ts)
      begin-stopped end ts j starts_nothing e r = inr (omega arith, λ m. law-more end j m ts ∙ ap (λ x. ask_start l d t.place x (λ then. parse name l end ts (then ++ g) (j + m))) e)

  -- a token that begins no rule
  within : (t : Placed) (g : List Goal) → Down (λ n. n) (λ j m. refl) t g
  within t g end j k us b h e = (k, refl, h)

  -- EVERY READING STOPS THUS.
  pub stopped : (end : ℕ) (ts : List Placed) (g : List Goal) (j : ℕ) → Stopped end ts g j (parse name l end ts g j)
  unfolding parse prefixed
  stopped end [] [] j = tt
  stopped end [] (mark t ∷ g) j = inr (omega arith, λ m. refl)
  stopped end [] (number k ∷ g) j = inr (omega arith, λ m. refl)
  stopped end [] (thing (expr s) d ∷ g) j = inr (omega arith, λ m. refl)
  stopped end [] (thing (steps at_else) d ∷ g) j = inr (omega arith, λ m. refl)
  stopped end [] (thing (steps at_end) d ∷ g) j = inr (omega arith, λ m. refl)
  stopped end [] (thing (steps text_end) d ∷ g) j = go (leb d l.deepest) refl (parse name l end [] g j) (stopped end [] g j)
    where
      after : leb d l.deepest ≡ true → (r : Asked (List ℕ)) → Stopped end [] g j r → Stopped end [] (thing (steps text_end) d ∷ g) j (prefixed (0x30 ∷ []) r)
      after f (passed b) s = tt
      after f (refused q p) (inl (e, s)) = absurd (omega (arith, ap length s.is, length-append s.before (s.t ∷ s.rest)))
      after f (refused q p) (inr (h, s)) = inr (h, λ m. ap (λ b. at_level end (0x30 ∷ []) b (parse name l end [] g (j + m))) f ∙ ap (prefixed (0x30 ∷ [])) (s m))

      go : (b : Bool) → leb d l.deepest ≡ b → (r : Asked (List ℕ)) → Stopped end [] g j r → Stopped end [] (thing (steps text_end) d ∷ g) j (at_level end (0x30 ∷ []) b r)
      go true f r s = after f r s
      go false f r s = inr (omega arith, λ m. ap (λ b. at_level end (0x30 ∷ []) b (parse name l end [] g (j + m))) f)
  stopped end (t ∷ ts) [] zero =
      inl (
        refl,
        record {
          before = [];
          t = t;
          rest = ts;
          bytes = [];
          is = refl;
          place_is = refl;
          before-read = λ end m. refl;
          no-fewer = λ end k b h e. absurd (omega arith);
          onward = λ end m u us. let e : 0 + m ≡ m = omega arith in ap (parse name l end (u ∷ us) []) e ∙ sym (prefixed-none (parse name l end (u ∷ us) [] m));
        },
      )
  stopped end (t ∷ ts) [] (suc j) =
      begin-stopped suc (λ j m. omega arith) t [] one_less 1 (expr rule) [] (λ end n us. refl) end ts j (start name l (expr rule) 1 t.token) refl (λ then. stopped end ts (then ++ []) j)
    where
      one_less : (end j k : ℕ) (us : List Placed) (b : List ℕ) → k < suc j → parse name l end (t ∷ us) [] k ≡ passed b → (i : ℕ) × (k ≡ suc i) × (i < j)
      one_less end j zero us b h e = refused-not-passed e
      one_less end j (suc k) us b h e = (k, refl, omega arith)
  stopped end (t ∷ ts) (mark w ∷ g) j = go (same t.token w) refl (stopped end ts g j)
    where
      go : (b : Bool) → same t.token w ≡ b → Stopped end ts g j (parse name l end ts g j) → Stopped end (t ∷ ts) (mark w ∷ g) j (if_mark t.place b (parse name l end ts g j))
      go true f s =
          subst (Stopped end (t ∷ ts) (mark w ∷ g) j) (prefixed-none (parse name l end ts g j))
          (push (λ n. n) (λ j m. refl) t (mark w ∷ g) (within t (mark w ∷ g)) [] g
          (λ end n us. ap (λ b. if_mark t.place b (parse name l end us g n)) f ∙ sym (prefixed-none (parse name l end us g n))) end ts j (parse name l end ts g j) s)
      go false f s = inr (omega arith, λ m. ap (λ b. if_mark t.place b (parse name l end ts g (j + m))) f)
  stopped end (t ∷ ts) (number k ∷ g) j = go (number_of name l k t.token) refl (stopped end ts g j)
    where
      go : (f : Found ℕ) → number_of name l k t.token ≡ f → Stopped end ts g j (parse name l end ts g j) → Stopped end (t ∷ ts) (number k ∷ g) j (if_number t.place f (parse name l end ts g j))
      go (found x) f s =
          push (λ n. n) (λ j m. refl) t (number k ∷ g) (within t (number k ∷ g)) (x ∷ []) g (λ end n us. ap (λ b. if_number t.place b (parse name l end us g n)) f) end ts j (parse name l end ts g j) s
      go absent f s = inr (omega arith, λ m. ap (λ b. if_number t.place b (parse name l end ts g (j + m))) f)
  stopped end (t ∷ ts) (thing s d ∷ g) j =
      begin-stopped (λ n. n) (λ j m. refl) t (thing s d ∷ g) (within t (thing s d ∷ g)) d s g (λ end n us. refl) end ts j (start name l s d t.token) refl (λ then. stopped end ts (then ++ g) j)
