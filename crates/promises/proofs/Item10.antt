-- Item 10 of document 02 is kept.
use mathlib.Core.Path.{◌≡◌, refl, sym, ap, ◌∙◌}
use mathlib.Core.Logic.{◌≢◌, ◌⊎◌, inl, inr}
use mathlib.Core.List.{List, [], ◌∷◌, ◌++◌, map, map-append, concat, concat-eq-append, eq-nil-or-concat}
use Prim.Native.Nat.{ℕ, ◌≤◌}
use native.Mathlib.Omega.{arith}
use lib.ListN.{length, take, drop}
use Rattle.answer.specs.Asked.{Asked, passed, refused, ◌>>◌, is, after, outcome}
use Rattle.logic.specs.Syntax.{Expr, rule, Edit}
use Rattle.logic.specs.Carry.{carried_book}
use Rattle.sheet.specs.Sheet.{graph_of}
use Rattle.text.specs.Code.{code, book_code}
use Rattle.text.specs.Reading.{longest_carried, text_limits}
use Rattle.text.specs.Questions.{read_rules, ask_book}
use Rattle.text.proofs.TextSpelling.{book-is-spelled}
use Rattle.judge.specs.Questions.{ask_sheet_and_book, ask_rules}
use Rattle.runs.specs.Scratch.{longest_rule_def, up_to_broken, overwritten, writings}
use Rattle.runs.proofs.ScratchLaws.{passed-fits, length-stays, rest-stays, last-at-start, longest-written, Broken, broken-at, all-written}
use Rattle.apply.specs.Apply.{after_steps}
use Rattle.runs.specs.Enter.{StepsAndCarried, ask_before41, ask_enter, enter_answer, enter_sheet, enter_scratch}
use Rattle.runs.specs.Leaves.{ScratchWritten}
use Rattle.judge.proofs.SheetAndBook.{book-passed}
use Rattle.answer.proofs.AskedLaws.{passed-same, after_on, after-ends}
use Rattle.runs.proofs.OneCall.{Passed33, passed-33, answers-41}
use Rattle.runs.proofs.Leaves.{leaves}
use Rattle.runs.proofs.Unmoved.{any-room-asks, unmoved}
use Rattle.promises.specs.Item10.{Written, Item10}

any_scratch : (sheet book edit : List ℕ) (room : ℕ) → ((p : ℕ) → enter_answer sheet book edit room ≢ refused 33 p)
    → (enter_answer sheet book edit room ≡ enter_answer sheet book edit longest_carried) × (enter_sheet sheet book edit room ≡ enter_sheet sheet book edit longest_carried)
unfolding enter_sheet
any_scratch sheet book edit room h =
    let same : ask_enter sheet book edit room ≡ ask_enter sheet book edit longest_carried = any-room-asks sheet book edit room h in
    (ap outcome same, ap (λ (q : Asked Edit). after q (λ Z. after_steps Z sheet) sheet) same)

module _ (sheet book edit scratch : List ℕ) where
  abbrev answer : Asked (Unit {0})
  answer = enter_answer sheet book edit (length scratch)

  -- The scratch, from the rules that were written.
  module _ (s : ScratchWritten sheet book edit scratch) where
    known : Passed33 sheet book edit (length scratch) s.what
    known = passed-33 sheet book edit (length scratch) s.what s.passes

    to-41 : answer ≡ ask_rules (graph_of sheet) s.what.carried 0
    to-41 = answers-41 sheet book edit (length scratch) s.what s.passes

    left : (before : List (Expr rule)) (last : Expr rule) (unwritten : List (Expr rule))
        → s.what.carried ≡ before ++ (last ∷ unwritten) → up_to_broken (graph_of sheet) s.what.carried ≡ before ++ (last ∷ []) → Written sheet book edit scratch
    left before last unwritten rules written =
        let is-left : enter_scratch sheet book edit scratch ≡ overwritten (map code (before ++ (last ∷ []))) scratch = s.written ∙ ap (λ Ks. overwritten (map code Ks) scratch) written in
        let stays : (k : ℕ) → longest_rule_def (before ++ (last ∷ [])) ≤ k → drop k (enter_scratch sheet book edit scratch) ≡ drop k scratch =
        λ k h. ap (drop k) is-left ∙ rest-stays (map code (before ++ (last ∷ []))) scratch k h in
        record {
          what = s.what;
          passes = s.passes;
          before = before;
          last = last;
          unwritten = unwritten;
          rules = rules;
          at_start =
              ap (take (length (code last))) (is-left ∙ ap (λ texts. overwritten texts scratch) (map-append code before (last ∷ [])))
              ∙ last-at-start (map code before) (code last) scratch;
          rest = stays (longest_rule_def (before ++ (last ∷ []))) (omega arith);
        }

  pub after_41 : (p : ℕ) → answer ≡ refused 41 p → (w : Written sheet book edit scratch) × (length w.before ≡ p)
  unfolding left
  after_41 p e =
      let s : ScratchWritten sheet book edit scratch = leaves.scratch_written sheet book edit scratch p (inr e) in
      let b : Broken (graph_of sheet) s.what.carried 0 p = broken-at (graph_of sheet) s.what.carried 0 41 p (sym (to-41 s) ∙ e) in
      (left s b.before b.last b.others b.rules_are b.written, omega (arith, b.place_is))

  some-rule : (rules : List (Expr rule)) (Z : Edit) → ask_sheet_and_book sheet book ≡ passed rules → carried_book Z rules ≡ [] → book ≡ []
  unfolding book_code
  some-rule [] Z read e = (book-is-spelled (text_limits (graph_of sheet).n) book [] (book-passed sheet book read)).spells.text-is
  some-rule (K ∷ rules) Z read e = let z : ◌≡◌ {A = ℕ} 0 1 = cc in absurd (omega arith)

  after_done : book ≢ [] → answer ≡ passed tt → (w : Written sheet book edit scratch) × (w.unwritten ≡ [])
  unfolding left
  after_done some e = go (eq-nil-or-concat s.what.carried) where
    s : ScratchWritten sheet book edit scratch
    s = leaves.scratch_written sheet book edit scratch 0 (inl e)

    go : (s.what.carried ≡ []) ⊎ ((before : List (Expr rule)) × (last : Expr rule) × (s.what.carried ≡ concat before last)) → (w : Written sheet book edit scratch) × (w.unwritten ≡ [])
    go (inl none) = absurd (some (some-rule (known s).rules s.what.steps (known s).read (sym (known s).carried-are ∙ none)))
    go (inr (before, last, are)) =
        let rules : s.what.carried ≡ before ++ (last ∷ []) = are ∙ concat-eq-append before last in
        (left s before last [] rules (all-written (graph_of sheet) s.what.carried 0 (sym (to-41 s) ∙ e) ∙ rules), refl)

  same_length : length (enter_scratch sheet book edit scratch) ≡ length scratch
  unfolding enter_scratch
  same_length = go (ask_before41 sheet book edit (length scratch)) refl where
    go : (a : Asked StepsAndCarried) → ask_before41 sheet book edit (length scratch) ≡ a → length (enter_scratch sheet book edit scratch) ≡ length scratch
    go (refused n p) e = ap length (after-ends e _ scratch)
    go (passed c) e =
        ap length (after_on e _ scratch) ∙ length-stays (map code (up_to_broken (graph_of sheet) c.carried)) scratch
        (omega (arith, longest-written (graph_of sheet) c.carried, passed-fits c.carried (length scratch) (passed-33 sheet book edit (length scratch) c e).fits))

empty_book : (sheet edit scratch : List ℕ) → enter_scratch sheet [] edit scratch ≡ scratch
unfolding enter_scratch ask_book read_rules up_to_broken overwritten ◌>>◌ is
empty_book sheet edit scratch = go (ask_before41 sheet [] edit (length scratch)) refl where
  go : (a : Asked StepsAndCarried) → ask_before41 sheet [] edit (length scratch) ≡ a → enter_scratch sheet [] edit scratch ≡ scratch
  go (refused n p) e = after-ends e _ scratch
  go (passed c) e =
      let k = passed-33 sheet [] edit (length scratch) c e in
      let none : k.rules ≡ [] = passed-same (sym (book-passed sheet [] k.read)) in
      after_on e _ scratch ∙ ap (λ rules. writings (graph_of sheet) rules scratch) (k.carried-are ∙ ap (carried_book c.steps) none)

pub item_10 : Item10
item_10 = record {
  unmoved = unmoved;
  any_scratch = any_scratch;
  leaves = leaves;
  after_41 = after_41;
  after_done = after_done;
  empty_book = empty_book;
  same_length = same_length;
}
