-- Item 12 of document 02 is kept: small sheets are matched with small graphs.
use mathlib.Core.Path.{◌≡◌, refl, sym, ◌∙◌, ap, ap₂, subst}
use mathlib.Core.Logic.{◌↔◌}
use mathlib.Core.Bool.{Bool, true, false, not, ◌&&◌, and-eq-true_iff}
use mathlib.Core.List.{List, [], ◌∷◌}
use Prim.Native.Nat.{ℕ}
use native.Mathlib.Omega.{arith}
use lib.Dec.{T, leb}
use Rattle.answer.specs.Asked.{passed}
use Rattle.logic.specs.Syntax.{Expr, rule, Edit}
use Rattle.logic.specs.Graph.{Graph}
use Rattle.logic.specs.Meaning.{hold_all}
use Rattle.logic.specs.Steps.{run}
use Rattle.logic.specs.Limits.{Within}
use Rattle.logic.proofs.Bools.{true-false, so, is_true}
use Rattle.logic.proofs.Inside.{run-n}
use Rattle.sheet.specs.Sheet.{present, store, graph_of}
use Rattle.store.proofs.StoredReads.{read_back}
use Rattle.sheet.proofs.SoundSheets.{sound-is-stored}
use Rattle.store.proofs.StoredPasses.{stored-passes}
use Rattle.store.proofs.StoredBytes.{store-small}
use Rattle.text.specs.Reading.{text_limits}
use Rattle.text.specs.Questions.{ask_book, ask_edit}
use Rattle.apply.specs.Apply.{after_steps}
use Rattle.runs.specs.Run.{Keeps}
use Rattle.answer.proofs.AskedLaws.{passed-same, is-then, bind-passed}
use Rattle.runs.proofs.Runs.{steps-within, keeps}
use Rattle.count_small.specs.Small.{Small}
use Rattle.count_small.specs.Names.{rules_only_first, edit_only_first}
use Rattle.count_small.specs.Exactly.{Exactly}
use Rattle.count_small.specs.Questions.{most_small, Texts, ask_count, counts_of}
use Rattle.count_small.specs.Examples.{cases}
use Rattle.count_small.proofs.Matched.{matched}
use Rattle.count_small.proofs.ExactCounts.{SmallAnd}
use Rattle.count_small.proofs.CountsRight.{counted-graphs, total-is}
use Rattle.count_small.proofs.Examples.{cases-right}
use Rattle.promises.specs.Item12.{SmallSheet, Counted, Item12}

-- A test or its negation, and a statement or its negation.
abbrev test : Bool → Bool → Bool
test true x = x
test false x = not x

abbrev Said : Bool → Type 0 → Type 0
Said true A = A
Said false A = ¬ A

said : (b x : Bool) {A : Type 0} → (x ≡ true) ↔ A → (test b x ≡ true) ↔ Said b A
said true x e = e
said false true e = (λ p. true-false p refl, λ not_a. absurd (not_a (e.0 refl)))
said false false e = (λ p a. true-false (e.1 a) refl, λ not_a. refl)

module _ (n : ℕ) (book : List ℕ) (rules : List (Expr rule)) (book_read : ask_book (text_limits n) book ≡ passed rules) where
  -- The sheet that stores a graph keeps the book exactly when the rules hold on the graph.
  kept : (g : Graph) → Within g → g.n ≡ n → (hold_all g rules ≡ true) ↔ Keeps book (store g)
  kept g w e = (there, back) where
    there : hold_all g rules ≡ true → Keeps book (store g)
    there h = keeps book rules g (record { within = w; book_read = subst (λ m. ask_book (text_limits m) book ≡ passed rules) (sym e) book_read; hold = so h })

    back : Keeps book (store g) → hold_all g rules ≡ true
    back k =
        let same : graph_of (store g) ≡ g = read_back g w in
        let read : ask_book (text_limits n) book ≡ passed k.rules = subst (λ m. ask_book (text_limits m) book ≡ passed k.rules) (ap (λ h. h.n) same ∙ e) k.book_read in
        let one : k.rules ≡ rules = passed-same (sym read ∙ book_read) in
        is_true _ (subst (λ h. T (hold_all h rules)) same (subst (λ rs. T (hold_all (graph_of (store g)) rs)) one k.hold))

  module _ (edit : List ℕ) (Z : Edit) (edit_read : ask_edit (text_limits n) edit ≡ passed Z) (b c : Bool) where
    -- small graphs and small sheets, by whether the book is kept before and after
    abbrev Graphs : Graph → Type 0
    Graphs = SmallAnd n (λ g. test b (hold_all g rules) && test c (hold_all (run Z g) rules))

    abbrev Sheets : List ℕ → Type 0
    Sheets sheet = SmallSheet n sheet × Said b (Keeps book sheet) × Said c (Keeps book (after_steps Z sheet))

    before : (g : Graph) → Small n g → (test b (hold_all g rules) ≡ true) ↔ Said b (Keeps book (store g))
    before g s = said b (hold_all g rules) (kept g s.within s.count)

    next : (g : Graph) → Small n g → (test c (hold_all (run Z g) rules) ≡ true) ↔ Said c (Keeps book (store (run Z g)))
    next g s =
        let within : Within (run Z g) = steps-within g edit Z s.within (subst (λ m. ask_edit (text_limits m) edit ≡ passed Z) (sym s.count) edit_read) in
        said c (hold_all (run Z g) rules) (kept (run Z g) within (run-n Z g ∙ s.count))

    there : (g : Graph) → Graphs g → Sheets (store g) × (graph_of (store g) ≡ g)
    there g (s, p) =
        let same : graph_of (store g) ≡ g = read_back g s.within in
        let (x, y) = (and-eq-true_iff (test b (hold_all g rules)) (test c (hold_all (run Z g) rules))).0 p in
        let sheet : SmallSheet n (store g) = record { are_bytes = store-small g (omega (arith, s.within.few_nodes)); sound = stored-passes g s.within; small = subst (Small n) (sym same) s } in
        ((sheet, (before g s).0 x, subst (λ h. Said c (Keeps book (store (run Z h)))) (sym same) ((next g s).0 y)), same)

    back : (sheet : List ℕ) → Sheets sheet → Graphs (graph_of sheet) × (store (graph_of sheet) ≡ sheet)
    back sheet (s, x, y) =
        let stored : sheet ≡ store (graph_of sheet) = (sound-is-stored present sheet s.are_bytes s.sound).stored in
        let first : test b (hold_all (graph_of sheet) rules) ≡ true = (before (graph_of sheet) s.small).1 (subst (λ t. Said b (Keeps book t)) stored x) in
        ((s.small, ap₂ ◌&&◌ first ((next (graph_of sheet) s.small).1 y)), sym stored)

    as_many : {m : ℕ} → Exactly Graphs m → Exactly Sheets m
    as_many x = matched Graphs Sheets store graph_of there back x

module _ (n : ℕ) (book edit : List ℕ) (t : Texts) (h : ask_count n book edit ≡ passed t) where
  texts-read : (ask_book (text_limits n) book ≡ passed t.rules) × (ask_edit (text_limits n) edit ≡ passed t.edit)
  unfolding ask_count
  texts-read =
      let (range, more) = is-then (leb 1 n && leb n most_small) 61 0 _ h in
      let (rules, book_read, rest) = bind-passed (ask_book (text_limits n) book) _ t more in
      let (Z, edit_read, last) = bind-passed (ask_edit (text_limits n) edit) _ t rest in
      let same = passed-same (is-then (rules_only_first rules && edit_only_first Z) 61 0 _ last).1 in
      (book_read ∙ ap (λ x. passed x.rules) same, edit_read ∙ ap (λ x. passed x.edit) same)

  counts-right : Counted n book t.edit (counts_of n book edit)
  counts-right =
      let x = counted-graphs n book edit t h in
      let (book_read, edit_read) = texts-read in
      record {
        kept_twice = as_many n book t.rules book_read edit t.edit edit_read true true x.kept-are;
        kept_then_broken = as_many n book t.rules book_read edit t.edit edit_read true false x.lost-are;
        broken_then_kept = as_many n book t.rules book_read edit t.edit edit_read false true x.repaired-are;
        broken_twice = as_many n book t.rules book_read edit t.edit edit_read false false x.broken-are;
      }

marked-case : counts_of 1 (0x21 ∷ 0x01 ∷ 0x03 ∷ 0x00 ∷ []) (0x30 ∷ []) ≡ record { kept = 2; lost = 0; repaired = 0; broken = 2 }
marked-case = unfold cases in let e = cases-right in cc

pub item_12 : Item12
item_12 = record { counted = counts-right; total_of_one = total-is 1; total_of_two = total-is 2; total_of_three = total-is 3; marked = marked-case }
