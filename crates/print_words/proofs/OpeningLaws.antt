-- What codes write first if an item is wanted.
use mathlib.Core.Path.{◌≡◌, refl, sym, ◌∙◌, ap, ap₂, subst}
use mathlib.Core.Bool.{Bool, true, false}
use mathlib.Core.List.{[], ◌∷◌}
use mathlib.Core.Logic.{◌⊎◌, inl, inr}
use Prim.Native.Nat.{ℕ, suc, ◌≤◌, ◌<◌}
use native.Mathlib.Omega.{arith}
use lib.Dec.{eqb}
use borrow.Author.Tests.{eqb-true, eqb-false, eq-eqb, ne_eqb}
use Rattle.notation.specs.Grammar.{phrases}
use Rattle.notation.specs.Spell.{phrase_of_def, bare, opens}
use Rattle.keywords.specs.Rows.{kind_of, slot_of, goal_of, goals_of, row_goals, row_of}
use Rattle.keywords.specs.Phrases.{all_phrases, phrase_at, words, Picked}
use Rattle.std.specs.Prelude.{Option, Some, None}
use Rattle.keywords.proofs.PickLaws.{phrase-below}
use Rattle.keywords.proofs.PhraseRows.{opens-by-phrase, opens-bare}
use Rattle.keywords.proofs.WordSlots.{slot-word, phrase-word}
use Rattle.print_words.specs.declared.print.Opened.{Opened}
use Rattle.print_words.specs.Opening.{words_at, Known, Opening}
use Rattle.keywords.proofs.RowItems.{row-of-phrase}
use Rattle.print_words.proofs.KnownRows.{known-one}

-- A code without a phrase, by its word and row.
abbrev Bare : (item c : ℕ) (word : Option ℕ) (row : ℕ) → Type 0
Bare item c word row = Opening (λ d. bare (slot_of item) c) (record { word = word; row = row })

bare-at : (i item c : ℕ) (word : Option ℕ) (row : ℕ) → item ≡ i → Bare i c word row → Bare item c word row
bare-at i item c word row e h = subst (λ i. Bare i c word row) (sym e) h

-- just a name
module _ (item c : ℕ) where
  pub bare-label : item ≡ 9 → c ≡ 3 → Bare item c None 4
  unfolding bare slot_of words_at goals_of goal_of kind_of
  bare-label e h = bare-at 9 item c None 4 e (record { is = λ d. rw (eq-eqb c 3 h, bare); known = known-one 4 (omega arith); is_word = tt })

  pub bare-node : item ≡ 9 → (c ≡ 3 → ⊥) → Bare item c None 6
  unfolding bare slot_of words_at goals_of goal_of kind_of
  bare-node e h = bare-at 9 item c None 6 e (record { is = λ d. rw (ne_eqb c 3 h, bare); known = known-one 6 (omega arith); is_word = tt })

  pub bare-arrow : item ≡ 10 → Bare item c None 5
  unfolding bare slot_of words_at goals_of goal_of kind_of
  bare-arrow e = bare-at 10 item c None 5 e (record { is = λ d. refl; known = known-one 5 (omega arith); is_word = tt })

  -- the ends of steps
  pub bare-else : (item ≡ 12) ⊎ (item ≡ 14) → Bare item c (Some 27) 0
  unfolding bare slot_of words_at words all_phrases phrases goals_of
  bare-else (inl e) = bare-at 12 item c (Some 27) 0 e (record { is = λ d. refl; known = known-one 0 (omega arith); is_word = omega arith })
  bare-else (inr e) = bare-at 14 item c (Some 27) 0 e (record { is = λ d. refl; known = known-one 0 (omega arith); is_word = omega arith })

  pub bare-end : (item ≡ 13) ⊎ (item ≡ 15) → Bare item c (Some 28) 0
  unfolding bare slot_of words_at words all_phrases phrases goals_of
  bare-end (inl e) = bare-at 13 item c (Some 28) 0 e (record { is = λ d. refl; known = known-one 0 (omega arith); is_word = omega arith })
  bare-end (inr e) = bare-at 15 item c (Some 28) 0 e (record { is = λ d. refl; known = known-one 0 (omega arith); is_word = omega arith })

past : (n item : ℕ) → n ≤ item → (item ≡ n → ⊥) → suc n ≤ item
past n item l h = omega arith

only : (item : ℕ) → 17 ≤ item → item < 18 → item ≡ 17
only item l m = omega arith

-- what writes nothing: the other items
module _ (item c : ℕ) (least : 9 ≤ item) (most : item < 18) where
  pub bare-none : (item ≡ 9 → ⊥) → (item ≡ 10 → ⊥) → (((item ≡ 12) ⊎ (item ≡ 14)) → ⊥) → (((item ≡ 13) ⊎ (item ≡ 15)) → ⊥) → Bare item c None 0
  unfolding bare slot_of words_at goals_of
  bare-none n₉ n₁₀ n₁₂ n₁₃ = go (eqb item 11) refl (eqb item 16) refl where
    nothing : (i : ℕ) → bare (slot_of i) c ≡ record { tokens = []; then = [] } → item ≡ i → Bare item c None 0
    nothing i h e = bare-at i item c None 0 e (record { is = λ d. h; known = known-one 0 (omega arith); is_word = tt })

    go : (x : Bool) → eqb item 11 ≡ x → (y : Bool) → eqb item 16 ≡ y → Bare item c None 0
    go true e y f = nothing 11 refl (eqb-true item 11 e)
    go false e true f = nothing 16 refl (eqb-true item 16 f)
    go false e false f =
        let l₁₁ = past 10 item (past 9 item least n₉) n₁₀ in
        let l₁₃ = past 12 item (past 11 item l₁₁ (eqb-false item 11 e)) (λ q. n₁₂ (inl q)) in
        let l₁₅ = past 14 item (past 13 item l₁₃ (λ q. n₁₃ (inl q))) (λ q. n₁₂ (inr q)) in
        let l₁₇ = past 16 item (past 15 item l₁₅ (λ q. n₁₃ (inr q))) (eqb-false item 16 f) in
        nothing 17 refl (only item l₁₇ most)

-- A code with a phrase, whose word has the phrase's number; and one without.
word-of-phrase : (p : ℕ) → p < 27 → words_at (Some p) ≡ (phrase_at p).word ∷ []
unfolding words_at
word-of-phrase p h = ap (◌∷ []) (sym (slot-word p (omega arith)) ∙ phrase-word p h)

module _ (item c : ℕ) where
  pub opening-phrase : {p : ℕ} → Picked item (phrase_of_def c (phrases (slot_of item))) (Some p) → (row : ℕ) → row ≡ row_of item p → Opening (λ d. opens (slot_of item) d c) (record { word = Some p; row = row })
  opening-phrase {p} h row e =
      let k = phrase-below item p h.1 in
      record {
        is = λ d. opens-by-phrase item d c h ∙ ap₂ (λ ts g. record { tokens = ts; then = g }) (sym (word-of-phrase p k)) (ap (λ r. row_goals r d) (sym e));
        known = subst Known (sym e) (row-of-phrase item p 1 h.1 (λ i. refl));
        is_word = omega arith;
      }

  pub opening-bare : Picked item (phrase_of_def c (phrases (slot_of item))) None → {q : Opened} → Opening (λ d. bare (slot_of item) c) q → Opening (λ d. opens (slot_of item) d c) q
  opening-bare h b = record { is = λ d. opens-bare item d c h ∙ b.is d; known = b.known; is_word = b.is_word }
