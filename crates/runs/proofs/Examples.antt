-- Enter on the bytes of sheet T, by computation. That these bytes pass the sheet's questions and store T comes from the laws of sheets.
use mathlib.Core.Path.{◌≡◌, refl, sym, ◌∙◌, ap}
use mathlib.Core.Bool.{false, and-false, and_self}
use mathlib.Core.List.{List, [], ◌∷◌}
use Prim.Native.Nat.{ℕ, ◌≤◌}
use native.Mathlib.Omega.{arith}
use lib.Dec.{eqb, ltb}
use lib.ListN.{length}
use borrow.Author.Tests.{ne_eqb, le-leb, le-ltb, ltb-false}
use Rattle.answer.specs.Asked.{Asked, passed, refused, ◌>>=◌, ◌>>◌, is, after, outcome}
use Rattle.logic.specs.Syntax.{Expr, rule, Edit}
use Rattle.logic.specs.Graph.{Graph, is_node, any_below, all_below, count_below}
use Rattle.logic.specs.Meaning.{value}
use Rattle.logic.specs.Steps.{update, run}
use Rattle.logic.specs.Carry.{substitute, put_label, put_arrow, carry, carried_book}
use Rattle.logic.specs.Limits.{Within}
use Rattle.bitset.specs.Words.{set_of, bytes}
use Rattle.logic.specs.Arity.{by_arity}
use Rattle.seal.specs.Seal.{sealed, stored, sums_from}
use Rattle.sheet.specs.Sheet.{store_in, store, graph_of, block, label_block, arrow_block, chunks}
use Rattle.store.proofs.StoredReads.{read_back}
use Rattle.text.specs.Code.{code, levels, book_code, book_levels}
use Rattle.text.specs.Reading.{text_limits, codes, choice, follow}
use Rattle.text.specs.Reading as reading
use Rattle.text.specs.Questions.{whole, read_rules, ask_book, ask_edit, ask_one}
use Rattle.text.specs.Marked.{sheet_t, B}
use Rattle.judge.specs.Questions.{ask_rules}
use Rattle.carry.specs.Carrying.{ask_carried}
use Rattle.runs.specs.Scratch.{longest, ask_scratch, up_to_broken, overwritten, writings}
use Rattle.runs.specs.Enter.{StepsAndCarried, ask_before41, ask_enter, enter_answer, enter_sheet, enter_scratch}
use Rattle.runs.specs.Examples.{Result, scratch_of, two, entered_on_t, calls, results}
use Rattle.runs.proofs.OneCall.{asked-of-stored}

not-node : (i : ℕ) → is_node sheet_t i ≡ false → 3 ≤ i
not-node i h = unfold sheet_t is_node in ltb-false i 3 (sym (and_self (ltb i 3)) ∙ h)

T-within : Within sheet_t
unfolding sheet_t any_below
T-within =
    record {
      some_node = refl;
      few_nodes = omega arith;
      use_below = λ i l. le-ltb i 3 l;
      labels_in = λ k i h. let l : 3 ≤ i = not-node i h in rw (le-ltb i 2 (omega arith), ne_eqb i 2 (omega arith), and-false (eqb k 0), and-false (eqb k 1));
      arrows_in = λ a. record {
        starts = λ i j h. let l : 3 ≤ i = not-node i h in rw (le-ltb i 2 (omega arith), and-false);
        ends = λ i j h. let l : 3 ≤ j = not-node j h in rw (ne_eqb j 2 (omega arith), and-false, and-false);
      };
      no_more_labels = λ k i l. rw (ne_eqb k 0 (omega arith), ne_eqb k 1 (omega arith));
      no_more_arrows = λ a i j l. rw (ne_eqb a 0 (omega arith));
    }

-- The questions of enter before 41, on a graph.
ask_of : Graph → List ℕ → List ℕ → ℕ → Asked StepsAndCarried
ask_of g book edit room = do
  rules ← ask_book (text_limits g.n) book
  Z ← ask_edit (text_limits g.n) edit
  ask_scratch (carried_book Z rules) room
  passed (record { steps = Z; carried = carried_book Z rules })

carried_of : (g : Graph) (book edit : List ℕ) (room : ℕ) → Within g → ask_before41 (store g) book edit room ≡ ask_of g book edit room
unfolding ask_before41 ask_of
carried_of g book edit room w = ap (◌>>= size (graph_of (store g))) (asked-of-stored g book w) ∙ ap (λ h. ask_book (text_limits g.n) book >>= size h) (read_back g w) where
  size : Graph → List (Expr rule) → Asked StepsAndCarried
  size h rules = ask_edit (text_limits h.n) edit >>= (λ Z. ask_scratch (carried_book Z rules) room >> passed (record { steps = Z; carried = carried_book Z rules }))

-- The outcome, from the questions on T.
result_of : Graph → Asked StepsAndCarried → Asked StepsAndCarried → ℕ → Result
result_of g a b room =
    let q : Asked Edit = a >>= (λ c. ask_rules g c.carried 0 >> passed c.steps) in
    record {
      answer = outcome q;
      sheet = after q (λ Z. store (run Z g)) (store sheet_t);
      scratch = after b (λ c. writings g c.carried (scratch_of room)) (scratch_of room);
    }

on-graph : (book edit : List ℕ) (room : ℕ) → entered_on_t book edit room ≡ result_of sheet_t (ask_of sheet_t book edit room) (ask_of sheet_t book edit (length (scratch_of room))) room
unfolding entered_on_t enter_sheet enter_scratch ask_enter result_of
on-graph book edit room = λ t. result_of (read_back sheet_t T-within t) (carried_of sheet_t book edit room T-within t) (carried_of sheet_t book edit (length (scratch_of room)) T-within t) room

pub examples : calls entered_on_t ≡ results
unfolding calls results two result_of ask_of sheet_t store_in block label_block arrow_block chunks set_of bytes sealed stored sums_from value is_node any_below all_below count_below update run substitute put_label put_arrow carry code book_code levels by_arity book_levels longest ask_carried ask_scratch up_to_broken overwritten whole read_rules ask_book ask_one ask_rules after outcome ◌>>=◌ ◌>>◌ is codes choice follow reading.◌>>=◌
examples = (λ t. calls (λ book edit room. on-graph book edit room t)) ∙ refl

-- Example 8 with any scratch that holds its carried rule, of 12 bytes.
abbrev edit-8 : List ℕ
edit-8 = 0x32 ∷ 0x01 ∷ 0x04 ∷ 0x02 ∷ 0x30 ∷ []

judged-of : Graph → Asked StepsAndCarried → Asked (Unit {0})
judged-of g a = outcome (a >>= (λ c. ask_rules g c.carried 0 >> passed c.steps))

judged-8 : (room : ℕ) → 12 ≤ room → judged-of sheet_t (ask_of sheet_t B edit-8 room) ≡ refused 41 0
unfolding judged-of ask_of sheet_t value is_node any_below all_below count_below update substitute put_label put_arrow carry code book_code levels by_arity book_levels longest ask_carried ask_scratch whole read_rules ask_book ask_one ask_rules outcome ◌>>=◌ ◌>>◌ is codes choice follow reading.◌>>=◌
judged-8 room h = rw (le-leb 12 room h)

pub example_8 : (room : ℕ) → 12 ≤ room → enter_answer (store sheet_t) B edit-8 room ≡ refused 41 0
example_8 room h = unfold ask_enter judged-of in (λ t. judged-of (read_back sheet_t T-within t) (carried_of sheet_t B edit-8 room T-within t)) ∙ judged-8 room h
