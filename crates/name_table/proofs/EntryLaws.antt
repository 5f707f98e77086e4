-- The word that gives the kind of an entry; and the questions about an entry, one by one.
use mathlib.Core.Path.{◌≡◌, refl, sym, ◌∙◌, ap}
use mathlib.Core.Bool.{Bool, true, false, cond}
use mathlib.Core.List.{List, [], ◌∷◌}
use Prim.Native.Nat.{ℕ, ◌≤◌, ◌<◌}
use native.Mathlib.Omega.{arith}
use Rattle.answer.specs.Asked.{Asked, passed, refused, ◌>>=◌, ◌>>◌, is}
use Rattle.logic.specs.Limits.{Kind, label_number, arrow_number, node_number, least_count, most_count}
use Rattle.names.specs.Token.{Token, Found, found, absent, ascii, same}
use Rattle.names.specs.Scan.{Placed}
use Rattle.names.specs.Names.{Entry, kind_of, free_name_def, ask_kind, ask_number, ask_entries}
use Rattle.std.specs.Prelude.{Some, None}
use Rattle.keywords.specs.Rows as rows
use Rattle.name_table.specs.Entries.{item_for, free_number}

abbrev chosen : (a b c : Bool) → Found Kind
chosen a b c = cond a (found label_number) (cond b (found arrow_number) (cond c (found node_number) absent))

module _ (t : Token) where
  chosen_is : {a b c : Bool} → same t (ascii "label") ≡ a → same t (ascii "arrow") ≡ b → same t (ascii "node") ≡ c → kind_of t ≡ chosen a b c
  unfolding kind_of
  chosen_is {a} {b} {c} e f g = rw e (rw f (rw g refl))

  pub item-label : same t (ascii "label") ≡ true → Some 4 ≡ item_for (kind_of t)
  item-label e = sym (ap item_for (chosen_is e refl refl))

  pub item-arrow : same t (ascii "label") ≡ false → same t (ascii "arrow") ≡ true → Some 5 ≡ item_for (kind_of t)
  item-arrow e f = sym (ap item_for (chosen_is e f refl))

  pub item-node : same t (ascii "label") ≡ false → same t (ascii "arrow") ≡ false → same t (ascii "node") ≡ true → Some 6 ≡ item_for (kind_of t)
  item-node e f g = sym (ap item_for (chosen_is e f g))

  pub item-none : same t (ascii "label") ≡ false → same t (ascii "arrow") ≡ false → same t (ascii "node") ≡ false → None ≡ item_for (kind_of t)
  item-none e f g = sym (ap item_for (chosen_is e f g))

-- The item, if there is one.
pub record ItemWord (t : Token) (item : ℕ) : Type 0 where
  pub kind : kind_of t ≡ found (rows.kind_of item)
  pub low : 4 ≤ item
  pub high : item < 7

pub item-word : (t : Token) {item : ℕ} → Some item ≡ item_for (kind_of t) → ItemWord t item
unfolding kind_of rows.kind_of
item-word t {item} e = go (same t (ascii "label")) (same t (ascii "arrow")) (same t (ascii "node")) refl e
  where
    word : {k : Kind} (i : ℕ) → kind_of t ≡ found k → rows.kind_of i ≡ k → Some item ≡ Some i → 4 ≤ i → i < 7 → ItemWord t item
    word i f g s l h = let q : item ≡ i = cc in record { kind = f ∙ ap found (sym (ap rows.kind_of q ∙ g)); low = omega arith; high = omega arith }

    go : (a b c : Bool) → kind_of t ≡ chosen a b c → Some item ≡ item_for (chosen a b c) → ItemWord t item
    go true b c f q = word 4 f refl q (omega arith) (omega arith)
    go false true c f q = word 5 f refl q (omega arith) (omega arith)
    go false false true f q = word 6 f refl q (omega arith) (omega arith)
    go false false false f q = absurd cc

pub item-absent : (t : Token) → None ≡ item_for (kind_of t) → kind_of t ≡ absent
item-absent t e = go (kind_of t) e
  where
    go : (f : Found Kind) → None ≡ item_for f → f ≡ absent
    go (found label_number) z = absurd cc
    go (found arrow_number) z = absurd cc
    go (found node_number) z = absurd cc
    go (found least_count) z = absurd cc
    go (found most_count) z = absurd cc
    go absent z = refl

-- Questions of which one passed or was refused.
bind-passed : {A B : Type 0} {x : Asked A} {a : A} (f : A → Asked B) → x ≡ passed a → (x >>= f) ≡ f a
unfolding ◌>>=◌
bind-passed f e = ap (◌>>= f) e

bind-refused : {A B : Type 0} {x : Asked A} {q p : ℕ} (f : A → Asked B) → x ≡ refused q p → (x >>= f) ≡ refused q p
unfolding ◌>>=◌
bind-refused f e = ap (◌>>= f) e

then-passed : {A B : Type 0} {x : Asked A} {a : A} (y : Asked B) → x ≡ passed a → (x >> y) ≡ y
unfolding ◌>>◌
then-passed y e = ap (◌>> y) e

then-refused : {A B : Type 0} {x : Asked A} {q p : ℕ} (y : Asked B) → x ≡ refused q p → (x >> y) ≡ refused q p
unfolding ◌>>◌
then-refused y e = ap (◌>> y) e

kind-refused : (s : Placed) → kind_of s.token ≡ absent → ask_kind s ≡ refused 63 s.place
unfolding ask_kind
kind-refused s e = ap (λ f. elim f as (λ z. Asked Kind) [ found k ↦ passed k | absent ↦ refused 63 s.place ]) e

kind-passed : (s : Placed) {k : Kind} → kind_of s.token ≡ found k → ask_kind s ≡ passed k
unfolding ask_kind
kind-passed s e = ap (λ f. elim f as (λ z. Asked Kind) [ found k ↦ passed k | absent ↦ refused 63 s.place ]) e

number-refused : (es : List Entry) (k : Kind) (s : Placed) → free_number es k s.token ≡ absent → ask_number es k s ≡ refused 63 s.place
unfolding ask_number
number-refused es k s e = ap (λ f. elim f as (λ z. Asked ℕ) [ found x ↦ passed x | absent ↦ refused 63 s.place ]) e

number_passed : (es : List Entry) (k : Kind) (s : Placed) {x : ℕ} → free_number es k s.token ≡ found x → ask_number es k s ≡ passed x
unfolding ask_number
number_passed es k s e = ap (λ f. elim f as (λ z. Asked ℕ) [ found x ↦ passed x | absent ↦ refused 63 s.place ]) e

module _ (end : ℕ) (es : List Entry) (s : Placed) where
  pub ask-kind-wrong : (ts : List Placed) → kind_of s.token ≡ absent → ask_entries end (s ∷ ts) es ≡ refused 63 s.place
  unfolding ask_entries
  ask-kind-wrong [] e = then-refused _ (kind-refused s e)
  ask-kind-wrong (x ∷ []) e = bind-refused _ (kind-refused s e)
  ask-kind-wrong (x ∷ t ∷ ts) e = bind-refused _ (kind-refused s e)

  module _ {k : Kind} (e : kind_of s.token ≡ found k) where
    pub ask-number-missing : ask_entries end (s ∷ []) es ≡ refused 63 end
    unfolding ask_entries
    ask-number-missing = then-passed _ (kind-passed s e)

    module _ (x : Placed) where
      pub ask-number-wrong : (ts : List Placed) → free_number es k x.token ≡ absent → ask_entries end (s ∷ x ∷ ts) es ≡ refused 63 x.place
      unfolding ask_entries
      ask-number-wrong [] f = bind-passed _ (kind-passed s e) ∙ then-refused _ (number-refused es k x f)
      ask-number-wrong (t ∷ ts) f = bind-passed _ (kind-passed s e) ∙ bind-refused _ (number-refused es k x f)

      module _ {n : ℕ} (f : free_number es k x.token ≡ found n) where
        pub ask-name-missing : ask_entries end (s ∷ x ∷ []) es ≡ refused 63 end
        unfolding ask_entries
        ask-name-missing = bind-passed _ (kind-passed s e) ∙ then-passed _ (number_passed es k x f)

        module _ (t : Placed) (ts : List Placed) where
          pub ask-name-wrong : free_name_def es t.token ≡ false → ask_entries end (s ∷ x ∷ t ∷ ts) es ≡ refused 63 t.place
          unfolding ask_entries is
          ask-name-wrong g = bind-passed _ (kind-passed s e) ∙ bind-passed _ (number_passed es k x f) ∙ then-refused _ (ap (λ b. is b 63 t.place) g)

          pub ask-name-right : free_name_def es t.token ≡ true → ask_entries end (s ∷ x ∷ t ∷ ts) es ≡ ask_entries end ts (record { kind = k; number = n; name = t.token } ∷ es)
          unfolding ask_entries is
          ask-name-right g = bind-passed _ (kind-passed s e) ∙ bind-passed _ (number_passed es k x f) ∙ then-passed _ (ap (λ b. is b 63 t.place) g)
