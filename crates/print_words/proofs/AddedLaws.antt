-- Adding tokens of at most 64 bytes to a text.
use mathlib.Core.Path.{◌≡◌, refl, sym, ap, subst}
use mathlib.Core.List.{List, [], ◌∷◌, ◌++◌}
use Prim.Native.Nat.{ℕ, zero, suc, ◌+◌, ◌*◌, ◌-◌, ◌≤◌, ◌<◌}
use native.Mathlib.Omega.{arith}
use lib.Dec.{T, leb, ltb}
use lib.ListN.{length, get_or, take, drop, length-take}
use borrow.Author.Tests.{ltb-true, leb-true}
use Rattle.logic.specs.Limits.{Kind, label_number, arrow_number, node_number, least_count, most_count, ranges, max_nodes, fits}
use Rattle.logic.proofs.Bools.{is_true, both_so}
use Rattle.names.specs.Token.{Token, ascii}
use Rattle.names.specs.Names.{Naming, longest_name}
use Rattle.std.specs.Prelude.{Some, None}
use Rattle.buffers.specs.Slots.{Slots, slot_at}
use Rattle.buffers.specs.Filled.{filled_from}
use Rattle.buffers.proofs.FilledLaws.{filled_none}
use Rattle.keywords.specs.Rows.{mark_of}
use Rattle.keywords.specs.Phrases.{word_table, slot_width}
use Rattle.keywords.proofs.WordSlots.{slot-word, word-slots}
use Rattle.name_table.specs.NameSlots.{name_width, name_count, slot_base, Holds}
use Rattle.lay_words.specs.declared.Laid.{Laid}
use Rattle.lay_words.specs.Laying.{piece, laid_from, After}
use Rattle.lay_words.proofs.LayingLaws.{piece-most, brackets_most, ifs_most, laid_on}
use Rattle.print_words.specs.Opening.{words_at}
use Rattle.print_words.specs.Added.{Added}

-- A token, and no token.
pub token-added : {s r : Laid} {t : Token} (u : Token) {o o' : List ℕ} → t ≡ u → length t ≤ longest_name → After s t r
    → o' ≡ filled_from s.size (piece s t) o → Added s (u ∷ []) r o o'
token-added {s} {r} {t} u {o} {o'} e h a w = subst (λ x. Added s (x ∷ []) r o o') e (record {
  bytes = piece s t;
  lays = λ us. laid_on us a;
  size = a.size;
  written = w;
  short = omega (arith, piece-most s t);
  brackets_most = omega (arith, a.brackets_are, brackets_most s.brackets t);
  ifs_most = omega (arith, a.ifs_are, ifs_most s.brackets s.ifs t);
})

pub none-added : (s : Laid) (ts : List Token) (o : List ℕ) → ts ≡ [] → Added s ts s o o
none-added s ts o e = record {
  bytes = [];
  lays = λ us. ap (λ l. laid_from s (l ++ us)) e;
  size = omega arith;
  written = sym (filled_none s.size o);
  short = omega arith;
  brackets_most = omega arith;
  ifs_most = omega arith;
}

-- The marks.
pub mark-at : (item : ℕ) → 1 ≤ item → item < 4 → take (item - (item - 1)) (drop (item - 1) (0x28 ∷ 0x2C ∷ 0x29 ∷ [])) ≡ mark_of item
unfolding mark_of ascii
mark-at zero l h = absurd (omega arith)
mark-at (suc zero) l h = refl
mark-at (suc (suc zero)) l h = refl
mark-at (suc (suc (suc zero))) l h = refl
mark-at (suc (suc (suc (suc x)))) l h = absurd (omega arith)

pub mark-short : (item : ℕ) (marks : List ℕ) → length (take (item - (item - 1)) marks) ≤ longest_name
mark-short item marks = omega (arith, length-take (item - (item - 1)) marks)

-- Names, and words of the notation, are in slots.
slot-short : (width : ℕ) (table : List ℕ) (i : ℕ) → get_or table (width * i) 0 < width → length (slot_at width table i) < width
unfolding slot_at
slot-short width table i h = omega (arith, length-take (get_or table (width * i) 0) (drop (width * i + 1) table))

-- The naming that a table of names holds, read from its slots.
unfoldable pub own : List ℕ → Naming
own table k x = slot_at name_width table (slot_base k + x)

pub own_held : (table : List ℕ) → Slots name_width name_count table → Holds table (own table)
unfolding own
own_held table s = record { slots = s; each = λ k x h. refl }

slot-there : (k : Kind) (x : ℕ) → T (fits (ranges max_nodes) k x) → slot_base k + x < name_count
slot-there label_number x h = omega (arith, ltb-true x 48 (is_true (ltb x 48) h))
slot-there arrow_number x h = omega (arith, ltb-true x 16 (is_true (ltb x 16) h))
slot-there node_number x h = omega (arith, ltb-true x 60 (is_true (ltb x 60) h))
slot-there least_count x h = omega (arith, leb-true x 60 (is_true (leb x 60) (both_so (leb 1 x) (leb x 60) h).1))
slot-there most_count x h = omega (arith, leb-true x 59 (is_true (leb x 59) h))

pub name-short : {table token : List ℕ} (k : Kind) (x : ℕ) → Slots name_width name_count table → T (fits (ranges max_nodes) k x)
    → ((name : Naming) → Holds table name → token ≡ name k x) → length token ≤ longest_name
unfolding own
name-short {table} k x s h e =
    let i = slot_base k + x in
    omega (arith, ap length (e (own table) (own_held table s)), slot-short name_width table i (s.short i (slot-there k x h)))

-- No word, and the word of a slot.
pub no_word : words_at None ≡ []
no_word = unfold words_at in refl

module _ (word : ℕ) (l : word < 29) where
  a_word : words_at (Some word) ≡ slot_at slot_width word_table word ∷ []
  a_word = unfold words_at in ap (◌∷ []) (sym (slot-word word l))

  pub word-there : (slot_width * word + slot_width ≤ length word_table) × (get_or word_table (slot_width * word) 0 < slot_width)
  word-there = (omega (arith, word-slots.room), word-slots.short word (omega arith))

  pub word-short : {token : List ℕ} → token ≡ slot_at slot_width word_table word → length token ≤ longest_name
  word-short e = omega (arith, ap length e, slot-short slot_width word_table word word-there.1)

  pub word-added : {token : List ℕ} {s r : Laid} {o o' : List ℕ} → token ≡ slot_at slot_width word_table word → After s token r
      → o' ≡ filled_from s.size (piece s token) o → Added s (words_at (Some word)) r o o'
  word-added {s = s} {r = r} {o = o} {o' = o'} e a w = subst (λ ts. Added s ts r o o') (sym a_word) (token-added (slot_at slot_width word_table word) e (word-short e) a w)
