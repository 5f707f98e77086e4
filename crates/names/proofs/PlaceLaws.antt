-- The places of tokens, and cutting a text before one of them.
use mathlib.Core.Path.{◌≡◌, refl, sym, ◌∙◌, ap, subst}
use mathlib.Core.Bool.{Bool, true, false}
use mathlib.Core.List.{List, [], ◌∷◌, ◌++◌, append_assoc}
use Prim.Native.Nat.{ℕ, suc, ◌+◌, ◌<◌}
use native.Mathlib.Omega.{arith}
use lib.Dec.{eqb}
use lib.ListN.{length, take, drop, length-append}
use Rattle.logic.specs.Lists.{All}
use Rattle.names.specs.Token.{Token}
use Rattle.names.specs.Scan.{Class, blank, hash, mark, letter, class_of, Placed, tokens_of, Mode, between, comment, in_word, scan, tokens}
use Rattle.names.proofs.ScanLaws.{between_at, in_word_at}

-- Each token begins inside the text.
module _ (end : ℕ) where
  abbrev pub Inside : List Placed → Type 0
  Inside ts = All (λ t. t.place < end) ts

  abbrev Began : Mode → Type 0
  Began between = Unit {0}
  Began comment = Unit {0}
  Began (in_word q w) = q < end

  inside : (bs : List ℕ) (m : Mode) (at : ℕ) → at + length bs ≡ end → Began m → Inside (scan bs m at)
  unfolding scan
  inside [] between at e h = tt
  inside [] comment at e h = tt
  inside [] (in_word q w) at e h = (h, tt)
  inside (b ∷ bs) between at e h = go (class_of b) (λ m. inside bs m (suc at) (omega arith))
    where
      go : (c : Class) → ((m : Mode) → Began m → Inside (scan bs m (suc at))) → Inside (between_at b bs at c)
      go blank r = r between tt
      go hash r = r comment tt
      go mark r = (omega arith, r between tt)
      go letter r = r (in_word at (b ∷ [])) (omega arith)
  inside (b ∷ bs) comment at e h = go (eqb b 0x0A) (λ m. inside bs m (suc at) (omega arith))
    where
      go : (x : Bool) → ((m : Mode) → Began m → Inside (scan bs m (suc at))) → Inside (elim x as (λ z. List Placed) [ true ↦ scan bs between (suc at) | false ↦ scan bs comment (suc at) ])
      go true r = r between tt
      go false r = r comment tt
  inside (b ∷ bs) (in_word q w) at e h = go (class_of b) (λ m. inside bs m (suc at) (omega arith))
    where
      go : (c : Class) → ((m : Mode) → Began m → Inside (scan bs m (suc at))) → Inside (in_word_at b bs at q w c)
      go blank r = (h, r between tt)
      go hash r = (h, r comment tt)
      go mark r = (h, (omega arith, r between tt))
      go letter r = r (in_word q (w ++ b ∷ [])) h

pub tokens-inside : (text : List ℕ) → Inside (length text) (tokens text)
tokens-inside text = inside (length text) text between 0 (omega arith) tt

-- Tokens after others, the first of them at a place.
pub record Placing (before : List Placed) (p : ℕ) (ts : List Placed) : Type 0 where
  pub token : Token
  pub rest : List Placed
  pub is : ts ≡ before ++ record { place = p; token = token } ∷ rest

word-placed : (bs : List ℕ) (q : ℕ) (w : Token) (at : ℕ) → Placing [] q (scan bs (in_word q w) at)
unfolding scan
word-placed [] q w at = record { token = w; rest = []; is = refl }
word-placed (b ∷ bs) q w at = go (class_of b) (λ w. word-placed bs q w (suc at))
  where
    go : (c : Class) → ((w : Token) → Placing [] q (scan bs (in_word q w) (suc at))) → Placing [] q (in_word_at b bs at q w c)
    go blank r = record { token = w; rest = _; is = refl }
    go hash r = record { token = w; rest = _; is = refl }
    go mark r = record { token = w; rest = _; is = refl }
    go letter r = r (w ++ b ∷ [])

-- A text cut before a token: the tokens before it are those of the bytes before it, and it begins the rest. Its first byte alone fixes its place.
module _ (t : Placed) (rest : List Placed) where
  pub record Cut (bs : List ℕ) (m : Mode) (at : ℕ) (before : List Placed) : Type 0 where
    pub k : ℕ
    pub place_is : at + k ≡ t.place
    pub short : k < length bs
    pub upto : scan (take k bs) m at ≡ before
    pub from : scan (drop k bs) between t.place ≡ t ∷ rest
    pub onward : (tail : List ℕ) → Placing before t.place (scan (take (suc k) bs ++ tail) m at)

  -- the token begins at this byte, or after it
  here : (b : ℕ) (bs : List ℕ) (m : Mode) (at : ℕ) (before : List Placed) → at ≡ t.place → scan [] m at ≡ before → scan (b ∷ bs) between at ≡ t ∷ rest
      → ((tail : List ℕ) → Placing before at (scan (b ∷ tail) m at)) → Cut (b ∷ bs) m at before
  here b bs m at before e f g h =
      record {
        k = 0;
        place_is = omega arith;
        short = omega arith;
        upto = f;
        from = subst (λ z. scan (b ∷ bs) between z ≡ t ∷ rest) e g;
        onward = λ tail. subst (λ z. Placing before z (scan (b ∷ tail) m at)) e (h tail);
      }

  later : (b : ℕ) (bs : List ℕ) (m m' : Mode) (at : ℕ) (pre before : List Placed) → ((xs : List ℕ) → scan (b ∷ xs) m at ≡ pre ++ scan xs m' (suc at)) → Cut bs m' (suc at) before
      → Cut (b ∷ bs) m at (pre ++ before)
  later b bs m m' at pre before s c =
      record {
        k = suc c.k;
        place_is = omega (arith, c.place_is);
        short = omega (arith, c.short);
        upto = s (take c.k bs) ∙ ap (pre ++◌) c.upto;
        from = c.from;
        onward = λ tail. let o = c.onward tail in record { token = o.token; rest = o.rest; is = s (take (suc c.k) bs ++ tail) ∙ ap (pre ++◌) o.is ∙ sym (append_assoc pre before _) };
      }

  -- the token is not the word that is being read
  abbrev Whole : Mode → List Placed → Type 0
  Whole (in_word q w) [] = ⊥
  Whole (in_word q w) (u ∷ us) = Unit {0}
  Whole between before = Unit {0}
  Whole comment before = Unit {0}

  abbrev Rest : List ℕ → ℕ → Type 0
  Rest bs at = (m : Mode) (before : List Placed) → Whole m before → scan bs m at ≡ before ++ t ∷ rest → Cut bs m at before

  at_mark : (b : ℕ) (bs : List ℕ) (at : ℕ) → class_of b ≡ mark → scan (b ∷ bs) between at ≡ record { place = at; token = b ∷ [] } ∷ scan bs between (suc at)
  unfolding scan
  at_mark b bs at e = ap (between_at b bs at) e

  cut-between : (b : ℕ) (bs : List ℕ) (at : ℕ) (before : List Placed) (c : Class) → class_of b ≡ c → Rest bs (suc at) → between_at b bs at c ≡ before ++ t ∷ rest → Cut (b ∷ bs) between at before
  unfolding scan
  cut-between b bs at before blank e r q = later b bs between between at [] before (λ xs. ap (between_at b xs at) e) (r between before tt q)
  cut-between b bs at before hash e r q = later b bs between comment at [] before (λ xs. ap (between_at b xs at) e) (r comment before tt q)
  cut-between b bs at [] mark e r q =
      here b bs between at [] (let z : record { place = at; token = b ∷ [] } ≡ t = cc in ap (λ x. x.place) z) refl (at_mark b bs at e ∙ q)
      (λ tail. record { token = b ∷ []; rest = _; is = at_mark b tail at e })
  cut-between b bs at (u ∷ before) mark e r q =
      let z : record { place = at; token = b ∷ [] } ≡ u = cc in
      subst (λ x. Cut (b ∷ bs) between at (x ∷ before)) z (later b bs between between at (record { place = at; token = b ∷ [] } ∷ []) before (λ xs. at_mark b xs at e) (r between before tt cc))
  cut-between b bs at [] letter e r q =
      let w = word-placed bs at (b ∷ []) (suc at) in
      let z : record { place = at; token = w.token } ∷ w.rest ≡ t ∷ rest = sym w.is ∙ q in
      let y : record { place = at; token = w.token } ≡ t = cc in
      here b bs between at [] (ap (λ x. x.place) y) refl (ap (between_at b bs at) e ∙ q)
      (λ tail. let w = word-placed tail at (b ∷ []) (suc at) in record { token = w.token; rest = w.rest; is = ap (between_at b tail at) e ∙ w.is })
  cut-between b bs at (u ∷ before) letter e r q = later b bs between (in_word at (b ∷ [])) at [] (u ∷ before) (λ xs. ap (between_at b xs at) e) (r (in_word at (b ∷ [])) (u ∷ before) tt q)

  abbrev if_ended : List ℕ → ℕ → Bool → List Placed
  if_ended bs at x = elim x as (λ z. List Placed) [ true ↦ scan bs between (suc at) | false ↦ scan bs comment (suc at) ]

  cut-comment : (b : ℕ) (bs : List ℕ) (at : ℕ) (before : List Placed) (x : Bool) → eqb b 0x0A ≡ x → Rest bs (suc at) → if_ended bs at x ≡ before ++ t ∷ rest → Cut (b ∷ bs) comment at before
  unfolding scan
  cut-comment b bs at before true e r q = later b bs comment between at [] before (λ xs. ap (if_ended xs at) e) (r between before tt q)
  cut-comment b bs at before false e r q = later b bs comment comment at [] before (λ xs. ap (if_ended xs at) e) (r comment before tt q)

  cut_word : (b : ℕ) (bs : List ℕ) (at : ℕ) (p : ℕ) (w : Token) (u : Placed) (before : List Placed) (c : Class) → class_of b ≡ c → Rest bs (suc at) → in_word_at b bs at p w c ≡ u ∷ (before ++ t ∷ rest)
      → Cut (b ∷ bs) (in_word p w) at (u ∷ before)
  unfolding scan
  cut_word b bs at p w u before blank e r q =
      let z : record { place = p; token = w } ≡ u = cc in
      subst (λ x. Cut (b ∷ bs) (in_word p w) at (x ∷ before)) z
      (later b bs (in_word p w) between at (record { place = p; token = w } ∷ []) before (λ xs. ap (in_word_at b xs at p w) e) (r between before tt cc))
  cut_word b bs at p w u before hash e r q =
      let z : record { place = p; token = w } ≡ u = cc in
      subst (λ x. Cut (b ∷ bs) (in_word p w) at (x ∷ before)) z
      (later b bs (in_word p w) comment at (record { place = p; token = w } ∷ []) before (λ xs. ap (in_word_at b xs at p w) e) (r comment before tt cc))
  cut_word b bs at p w u [] mark e r q =
      let z : record { place = p; token = w } ≡ u = cc in
      let y : record { place = at; token = b ∷ [] } ≡ t = cc in
      let x : scan bs between (suc at) ≡ rest = cc in
      subst (λ x. Cut (b ∷ bs) (in_word p w) at (x ∷ [])) z
      (here b bs (in_word p w) at (record { place = p; token = w } ∷ []) (ap (λ x. x.place) y) refl (at_mark b bs at e ∙ cc)
      (λ tail. record { token = b ∷ []; rest = _; is = ap (in_word_at b tail at p w) e }))
  cut_word b bs at p w u (v ∷ before) mark e r q =
      let z : record { place = p; token = w } ≡ u = cc in
      let y : record { place = at; token = b ∷ [] } ≡ v = cc in
      subst (λ x. Cut (b ∷ bs) (in_word p w) at (x ∷ v ∷ before)) z (subst (λ x. Cut (b ∷ bs) (in_word p w) at (record { place = p; token = w } ∷ x ∷ before)) y
      (later b bs (in_word p w) between at (record { place = p; token = w } ∷ record { place = at; token = b ∷ [] } ∷ []) before (λ xs. ap (in_word_at b xs at p w) e) (r between before tt cc)))
  cut_word b bs at p w u before letter e r q = later b bs (in_word p w) (in_word p (w ++ b ∷ [])) at [] (u ∷ before) (λ xs. ap (in_word_at b xs at p w) e) (r (in_word p (w ++ b ∷ [])) (u ∷ before) tt q)

  cut : (bs : List ℕ) (m : Mode) (at : ℕ) (before : List Placed) → Whole m before → scan bs m at ≡ before ++ t ∷ rest → Cut bs m at before
  unfolding scan
  cut [] between at before h q = absurd (omega (arith, ap length q, length-append before (t ∷ rest)))
  cut [] comment at before h q = absurd (omega (arith, ap length q, length-append before (t ∷ rest)))
  cut [] (in_word p w) at (u ∷ before) h q = absurd (omega (arith, ap length q, length-append before (t ∷ rest)))
  cut [] (in_word p w) at [] h q = absurd h
  cut (b ∷ bs) between at before h q = cut-between b bs at before (class_of b) refl (λ m before h q. cut bs m (suc at) before h q) q
  cut (b ∷ bs) comment at before h q = cut-comment b bs at before (eqb b 0x0A) refl (λ m before h q. cut bs m (suc at) before h q) q
  cut (b ∷ bs) (in_word p w) at [] h q = absurd h
  cut (b ∷ bs) (in_word p w) at (u ∷ before) h q = cut_word b bs at p w u before (class_of b) refl (λ m before h q. cut bs m (suc at) before h q) q

-- The tokens do not depend on where the bytes are.
abbrev moved : Mode → ℕ → Mode
moved between p = between
moved comment p = comment
moved (in_word q w) p = in_word p w

moved-tokens : (bs : List ℕ) (m : Mode) (at at' p : ℕ) → tokens_of (scan bs (moved m p) at') ≡ tokens_of (scan bs m at)
unfolding scan
moved-tokens [] between at at' p = refl
moved-tokens [] comment at at' p = refl
moved-tokens [] (in_word q w) at at' p = refl
moved-tokens (b ∷ bs) between at at' p = go (class_of b) (λ m p. moved-tokens bs m (suc at) (suc at') p)
  where
    go : (c : Class) → ((m : Mode) (p : ℕ) → tokens_of (scan bs (moved m p) (suc at')) ≡ tokens_of (scan bs m (suc at))) → tokens_of (between_at b bs at' c) ≡ tokens_of (between_at b bs at c)
    go blank r = r between 0
    go hash r = r comment 0
    go mark r = ap ((b ∷ []) ∷◌) (r between 0)
    go letter r = r (in_word at (b ∷ [])) at'
moved-tokens (b ∷ bs) comment at at' p = go (eqb b 0x0A) (λ m p. moved-tokens bs m (suc at) (suc at') p)
  where
    go : (x : Bool) → ((m : Mode) (p : ℕ) → tokens_of (scan bs (moved m p) (suc at')) ≡ tokens_of (scan bs m (suc at)))
        → tokens_of (elim x as (λ z. List Placed) [ true ↦ scan bs between (suc at') | false ↦ scan bs comment (suc at') ])
        ≡ tokens_of (elim x as (λ z. List Placed) [ true ↦ scan bs between (suc at) | false ↦ scan bs comment (suc at) ])
    go true r = r between 0
    go false r = r comment 0
moved-tokens (b ∷ bs) (in_word q w) at at' p = go (class_of b) (λ m p. moved-tokens bs m (suc at) (suc at') p)
  where
    go : (c : Class) → ((m : Mode) (p : ℕ) → tokens_of (scan bs (moved m p) (suc at')) ≡ tokens_of (scan bs m (suc at))) → tokens_of (in_word_at b bs at' p w c) ≡ tokens_of (in_word_at b bs at q w c)
    go blank r = ap (w ∷◌) (r between 0)
    go hash r = ap (w ∷◌) (r comment 0)
    go mark r = ap (λ ts. w ∷ (b ∷ []) ∷ ts) (r between 0)
    go letter r = r (in_word q (w ++ b ∷ [])) p

-- A text cut before one of its tokens.
pub record TextCut (text : List ℕ) (before : List Placed) (t : Placed) (rest : List Placed) : Type 0 where
  pub short : t.place < length text
  pub before-are : tokens (take t.place text) ≡ before
  pub from-are : tokens_of (tokens (drop t.place text)) ≡ t.token ∷ tokens_of rest
  pub onward : (tail : List ℕ) → Placing before t.place (tokens (take (suc t.place) text ++ tail))

pub text-cut : (text : List ℕ) (before : List Placed) (t : Placed) (rest : List Placed) → tokens text ≡ before ++ t ∷ rest → TextCut text before t rest
text-cut text before t rest e =
    let c = cut t rest text between 0 before tt e in
    let p : c.k ≡ t.place = omega (arith, c.place_is) in
    record {
      short = omega (arith, c.short);
      before-are = subst (λ k. tokens (take k text) ≡ before) p c.upto;
      from-are = moved-tokens (drop t.place text) between t.place 0 0 ∙ ap tokens_of (subst (λ k. scan (drop k text) between t.place ≡ t ∷ rest) p c.from);
      onward = subst (λ k. (tail : List ℕ) → Placing before t.place (tokens (take (suc k) text ++ tail))) p c.onward;
    }
