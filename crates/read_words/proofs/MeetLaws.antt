-- What the code finds that a token begins is what it begins.
use mathlib.Core.Path.{◌≡◌, refl, sym, ◌∙◌, ap, ap₂, subst}
use mathlib.Core.Bool.{Bool, true, false, cond}
use mathlib.Core.List.{List, [], ◌∷◌}
use mathlib.Core.Logic.{◌⊎◌, inl, inr, ⊎_elim}
use Prim.Native.Nat.{ℕ, ◌-◌, ◌≤◌, ◌<◌}
use native.Mathlib.Omega.{arith}
use lib.ListN.{take, drop}
use borrow.Author.Tests.{le-leb, lt-leb}
use Rattle.names.specs.Token.{Token, ascii, same, Found, found, absent}
use Rattle.names.specs.Names.{Naming}
use Rattle.text.proofs.Items.{each_from}
use Rattle.notation.specs.Grammar.{mark, number, thing, else_word, end_word, phrases}
use Rattle.notation.specs.Parse.{Start, starts, starts_nothing, number_of, phrase_for_def, by_name_def, bare_start}
use Rattle.notation.specs.Words.{word_limits}
use Rattle.buffers.specs.Slots.{found_option}
use Rattle.buffers.proofs.FoundLaws.{some-found, none-found}
use Rattle.std.specs.Prelude.{Option, Some, None}
use Rattle.keywords.specs.Rows.{mark_of, kind_of, slot_of, level_of, goal_of, goals_of, row_goals, row_of, Items, none}
use Rattle.keywords.specs.Phrases.{code_at, Picked}
use Rattle.name_table.specs.NameSlots.{Holds}
use Rattle.read_words.specs.Meeting.{begun, start_of, alone_met, closed_met, FitsIfMet, AloneIfMet, Meets, MeetsBare}
use Rattle.read_words.specs.declared.Met.{Met}
use Rattle.keywords.proofs.PhraseRows.{start-by-word, start-bare}
use Rattle.keywords.proofs.RowItems.{row-of-phrase}

-- The marks, as the code has them.
pub mark-part : (item : ℕ) → 1 ≤ item → item < 4 → take (item - (item - 1)) (drop (item - 1) (0x28 ∷ 0x2C ∷ 0x29 ∷ [])) ≡ mark_of item
unfolding mark_of ascii
mark-part = each_from (λ x. take (x - (x - 1)) (drop (x - 1) (0x28 ∷ 0x2C ∷ 0x29 ∷ [])) ≡ mark_of x) 1 3 (((tt, refl), refl), refl)

-- Goals of an item.
mark-goal : (item d : ℕ) → item < 4 → goal_of item d ≡ mark (mark_of item)
mark-goal item d h = unfold goal_of in rw (le-leb item 3 (omega arith))

number-goal : (item d : ℕ) → 4 ≤ item → item < 9 → goal_of item d ≡ number (kind_of item)
number-goal item d h k = unfold goal_of in rw (lt-leb item 3 (omega arith), le-leb item 8 (omega arith))

thing-goal : (item d : ℕ) → 9 ≤ item → goal_of item d ≡ thing (slot_of item) (level_of item d)
thing-goal item d h = unfold goal_of in rw (lt-leb item 3 (omega arith), lt-leb item 8 (omega arith))

module _ (table : List ℕ) where
  abbrev pub IsNumber : (item : ℕ) → Token → Option ℕ → Type 0
  IsNumber item t r = (name : Naming) → Holds table name → r ≡ found_option (number_of name word_limits (kind_of item) t)

  ended-items : {row : ℕ} → row ≡ 0 → (d : ℕ) → Items d row
  ended-items e d = subst (Items d) (sym e) none

  -- A mark.
  module _ {item : ℕ} {t : Token} (h : item < 4) where
    pub mark-there : same t (mark_of item) ≡ true → Meets table item t (Some (alone_met 0 0 0))
    unfolding begun start_of goals_of
    mark-there e =
        record { begins = λ name r d. ap (λ g. begun name g t) (mark-goal item d h) ∙ ap (λ b. cond b (starts [] []) starts_nothing) e; fits = record { items = λ d i. none; alone = λ i. refl; short = omega arith } }

    pub mark-none : same t (mark_of item) ≡ false → Meets table item t None
    unfolding begun start_of
    mark-none e = record { begins = λ name r d. ap (λ g. begun name g t) (mark-goal item d h) ∙ ap (λ b. cond b (starts [] []) starts_nothing) e; fits = tt }

  -- A name or a count.
  module _ {item : ℕ} {t : Token} (h : 4 ≤ item) (k : item < 9) where
    pub number-there : {x : ℕ} → IsNumber item t (Some x) → Meets table item t (Some (alone_met 1 x 0))
    unfolding begun start_of goals_of
    number-there {x} e =
        record {
          begins = λ name r d. ap (λ g. begun name g t) (number-goal item d h k) ∙ ap (λ f. elim f as (λ z. Start) [ found x ↦ starts (x ∷ []) [] | absent ↦ starts_nothing ]) (some-found _ (e name r));
          fits = record { items = λ d i. none; alone = λ i. refl; short = omega arith };
        }

    pub number-none : IsNumber item t None → Meets table item t None
    unfolding begun start_of
    number-none e =
        record {
          begins = λ name r d. ap (λ g. begun name g t) (number-goal item d h k) ∙ ap (λ f. elim f as (λ z. Start) [ found x ↦ starts (x ∷ []) [] | absent ↦ starts_nothing ]) (none-found _ (e name r));
          fits = tt;
        }

  -- Just a name.
  abbrev name-start : ℕ → Start → Found ℕ → Start
  name-start c other f = elim f as (λ z. Start) [ found x ↦ starts (c ∷ x ∷ []) [] | absent ↦ other ]

  pub label-there : {item : ℕ} {t : Token} {x : ℕ} → item ≡ 9 → IsNumber 4 t (Some x) → MeetsBare table item t (Some (alone_met 2 0x03 x))
  unfolding bare_start by_name_def slot_of kind_of start_of goals_of
  label-there {t = t} {x = x} i e =
      subst (λ i. MeetsBare table i t (Some (alone_met 2 0x03 x))) (sym i)
      (record { begins = λ name r d. ap (name-start 0x03 _) (some-found _ (e name r)); alone = (refl, omega arith) })

  pub node-there : {item : ℕ} {t : Token} {x : ℕ} → item ≡ 9 → IsNumber 4 t None → IsNumber 6 t (Some x) → MeetsBare table item t (Some (alone_met 2 0x04 x))
  unfolding bare_start by_name_def slot_of kind_of start_of goals_of
  node-there {t = t} {x = x} i n e =
      subst (λ i. MeetsBare table i t (Some (alone_met 2 0x04 x))) (sym i)
      (record { begins = λ name r d. ap (name-start 0x03 _) (none-found _ (n name r)) ∙ ap (name-start 0x04 _) (some-found _ (e name r)); alone = (refl, omega arith) })

  pub node-none : {item : ℕ} {t : Token} → item ≡ 9 → IsNumber 4 t None → IsNumber 6 t None → MeetsBare table item t None
  unfolding bare_start by_name_def slot_of kind_of start_of
  node-none {t = t} i n e =
      subst (λ i. MeetsBare table i t None) (sym i)
      (record { begins = λ name r d. ap (name-start 0x03 _) (none-found _ (n name r)) ∙ ap (name-start 0x04 _) (none-found _ (e name r)); alone = tt })

  pub arrow-there : {item : ℕ} {t : Token} {x : ℕ} → item ≡ 10 → IsNumber 5 t (Some x) → MeetsBare table item t (Some (alone_met 2 0x11 x))
  unfolding bare_start by_name_def slot_of kind_of start_of goals_of
  arrow-there {t = t} {x = x} i e =
      subst (λ i. MeetsBare table i t (Some (alone_met 2 0x11 x))) (sym i)
      (record { begins = λ name r d. ap (name-start 0x11 _) (some-found _ (e name r)); alone = (refl, omega arith) })

  pub arrow-none : {item : ℕ} {t : Token} → item ≡ 10 → IsNumber 5 t None → MeetsBare table item t None
  unfolding bare_start by_name_def slot_of kind_of start_of
  arrow-none {t = t} i e = subst (λ i. MeetsBare table i t None) (sym i) (record { begins = λ name r d. ap (name-start 0x11 _) (none-found _ (e name r)); alone = tt })

  -- the end of steps
  closed-start : (b : Bool) (d : ℕ) → cond b (starts (0x30 ∷ []) []) starts_nothing ≡ start_of (closed_met b) d
  unfolding start_of goals_of
  closed-start true d = refl
  closed-start false d = refl

  closed-alone : (b : Bool) → AloneIfMet (closed_met b)
  closed-alone true = (refl, omega arith)
  closed-alone false = tt

  module _ (word : Token) where
    closed-meets : {item : ℕ} {t : Token} {b : Bool} {m : Option Met} → ((name : Naming) → bare_start name word_limits (slot_of item) t ≡ cond (same t word) (starts (0x30 ∷ []) []) starts_nothing)
        → b ≡ same t word → m ≡ closed_met b → MeetsBare table item t m
    closed-meets {item} {t} {b} {m} s e q =
        subst (λ m. MeetsBare table item t m) (sym q)
        (record { begins = λ name r d. s name ∙ ap (λ b. cond b (starts (0x30 ∷ []) []) starts_nothing) (sym e) ∙ closed-start b d; alone = closed-alone b })

  pub else-meets : {item : ℕ} {t : Token} {b : Bool} {m : Option Met} → (item ≡ 12) ⊎ (item ≡ 14) → b ≡ same t else_word → m ≡ closed_met b → MeetsBare table item t m
  unfolding bare_start slot_of
  else-meets {t = t} i e q = closed-meets else_word (λ name. ⊎_elim (λ j. ap (λ i. bare_start name word_limits (slot_of i) t) j) (λ j. ap (λ i. bare_start name word_limits (slot_of i) t) j) i) e q

  pub end-meets : {item : ℕ} {t : Token} {b : Bool} {m : Option Met} → (item ≡ 13) ⊎ (item ≡ 15) → b ≡ same t end_word → m ≡ closed_met b → MeetsBare table item t m
  unfolding bare_start slot_of
  end-meets {t = t} i e q = closed-meets end_word (λ name. ⊎_elim (λ j. ap (λ i. bare_start name word_limits (slot_of i) t) j) (λ j. ap (λ i. bare_start name word_limits (slot_of i) t) j) i) e q

  -- a rule, and steps up to the text's end
  pub none-meets : {item : ℕ} {t : Token} → 9 ≤ item → item < 18 → (item ≡ 9 → ⊥) → (item ≡ 10 → ⊥) → ((item ≡ 12) ⊎ (item ≡ 14) → ⊥) → ((item ≡ 13) ⊎ (item ≡ 15) → ⊥)
      → MeetsBare table item t None
  unfolding bare_start slot_of start_of
  none-meets {item} {t} h k no_Node no_arrow no-else no_end = record { begins = λ name r d. nothing name item h k no_Node no_arrow no-else no_end; alone = tt }
    where
      nothing : (name : Naming) (x : ℕ) → 9 ≤ x → x < 18 → (x ≡ 9 → ⊥) → (x ≡ 10 → ⊥) → ((x ≡ 12) ⊎ (x ≡ 14) → ⊥) → ((x ≡ 13) ⊎ (x ≡ 15) → ⊥)
          → bare_start name word_limits (slot_of x) t ≡ starts_nothing
      nothing name = each_from (λ x. (x ≡ 9 → ⊥) → (x ≡ 10 → ⊥) → ((x ≡ 12) ⊎ (x ≡ 14) → ⊥) → ((x ≡ 13) ⊎ (x ≡ 15) → ⊥) → bare_start name word_limits (slot_of x) t ≡ starts_nothing) 9 9 (
        (
          (
            (
              (((((tt, λ a b c d. absurd (a refl)), λ a b c d. absurd (b refl)), λ a b c d. refl), λ a b c d. absurd (c (inl refl))), λ a b c d. absurd (d (inl refl))),
              λ a b c d. absurd (c (inr refl)),
            ),
            λ a b c d. absurd (d (inr refl)),
          ),
          λ a b c d. refl,
        ),
        λ a b c d. refl,
      )

  bare-fits : (item : ℕ) (r : Option Met) → AloneIfMet r → FitsIfMet item r
  bare-fits item None a = tt
  bare-fits item (Some m) a = record { items = λ d i. ended-items a.0 d; alone = λ i. a.0; short = a.1 }

  -- A word that begins a phrase, and one that begins none.
  module _ {item : ℕ} {t : Token} (h : 9 ≤ item) where
    pub bare-meets : {r : Option Met} → Picked item (phrase_for_def t (phrases (slot_of item))) None → MeetsBare table item t r → Meets table item t r
    unfolding begun
    bare-meets f b =
        record {
          begins = λ name r d. ap (λ g. begun name g t) (thing-goal item d h) ∙ start-bare name word_limits item (level_of item d) t f ∙ b.begins name r (level_of item d);
          fits = bare-fits item _ b.alone;
        }

    pub phrase-meets : {p c r : ℕ} → Picked item (phrase_for_def t (phrases (slot_of item))) (Some p) → c ≡ code_at p → r ≡ row_of item p → Meets table item t (Some (record { size = 1; first = c; second = 0; row = r }))
    unfolding begun start_of
    phrase-meets {p = p} f e q =
        record {
          begins = λ name o d. ap (λ g. begun name g t) (thing-goal item d h) ∙ start-by-word name word_limits item (level_of item d) t f
              ∙ ap₂ (λ c r. starts (c ∷ []) (row_goals r (level_of item d))) (sym e) (sym q);
          fits = record { items = λ d i. subst (Items d) (sym q) (row-of-phrase item p d f.1 i).items; alone = λ i. absurd (omega arith); short = omega arith };
        }
