-- What enter leaves in sheet and scratch.
use mathlib.Core.Path.{◌≡◌, refl, sym, ◌∙◌, subst}
use mathlib.Core.Logic.{◌≢◌, ◌⊎◌, ⊎_elim}
use mathlib.Core.List.{List, [], ◌∷◌}
use Prim.Native.Nat.{ℕ}
use native.Mathlib.Omega.{arith}
use lib.ListN.{length}
use Rattle.answer.specs.Asked.{Asked, passed, refused}
use Rattle.sheet.specs.Sheet.{graph_of}
use Rattle.judge.specs.Questions.{ask_sheet_and_book}
use Rattle.judge.proofs.RuleRefusals.{rules-refuse}
use Rattle.runs.specs.Enter.{StepsAndCarried, ask_before41, ask_enter, enter_answer, enter_sheet, enter_scratch}
use Rattle.runs.specs.Run.{Call, log}
use Rattle.logic.specs.Lists.{All}
use Rattle.runs.specs.Leaves.{ScratchWritten, Leaves}
use Rattle.answer.proofs.AskedLaws.{refused-not-passed, after_on, bind-ends, after-ends, outcome-ends}
use Rattle.answer.proofs.AnswerLaws.{not-learned}
use Rattle.runs.proofs.OneCall.{answers-41}
use Rattle.runs.proofs.EnterRefusals.{before-41-refuses, refused-between}

stays : (sheet book edit : List ℕ) (room q p : ℕ) → enter_answer sheet book edit room ≡ refused q p → enter_sheet sheet book edit room ≡ sheet
stays sheet book edit room q p e = unfold enter_sheet in after-ends (not-learned _ q p (sym e)) _ sheet

module _ (sheet book edit scratch : List ℕ) where
  abbrev asked_here : Asked StepsAndCarried
  asked_here = ask_before41 sheet book edit (length scratch)

  scratch-same : (q p : ℕ) → enter_answer sheet book edit (length scratch) ≡ refused q p → q ≢ 41 → enter_scratch sheet book edit scratch ≡ scratch
  unfolding enter_scratch
  scratch-same q p e other = go asked_here refl where
    go : (a : Asked StepsAndCarried) → asked_here ≡ a → enter_scratch sheet book edit scratch ≡ scratch
    go (refused n m) f = after-ends f _ scratch
    go (passed c) f =
        let b = refused-between (rules-refuse (graph_of sheet) c.carried 0) (sym (answers-41 sheet book edit (length scratch) c f) ∙ e) in
        absurd (other (omega (arith, b.0, b.1)))

  done-or-41 : (p : ℕ) → (enter_answer sheet book edit (length scratch) ≡ passed tt) ⊎ (enter_answer sheet book edit (length scratch) ≡ refused 41 p) → ScratchWritten sheet book edit scratch
  unfolding ask_enter enter_scratch
  done-or-41 p e = go asked_here refl where
    go : (a : Asked StepsAndCarried) → asked_here ≡ a → ScratchWritten sheet book edit scratch
    go (passed c) f = record { what = c; passes = f; written = after_on f _ scratch }
    go (refused n m) f =
        let stops : enter_answer sheet book edit (length scratch) ≡ refused n m = outcome-ends (bind-ends f _) in
        let b = refused-between (before-41-refuses sheet book edit (length scratch)) f in
        absurd (⊎_elim (λ d. refused-not-passed (sym stops ∙ d)) (λ d. let same : refused n m ≡ refused 41 p = sym stops ∙ d in let z : n ≡ 41 = cc in omega (arith, b.1)) e)

-- A sheet or book that is refused, through all calls.
answers : (sheet book edit : List ℕ) (room q p : ℕ) → ask_sheet_and_book sheet book ≡ refused q p → enter_answer sheet book edit room ≡ refused q p
answers sheet book edit room q p e = unfold ask_enter ask_before41 in outcome-ends (bind-ends (bind-ends e _) _)

others : (opening book : List ℕ) (calls : List Call) (q p : ℕ) → ask_sheet_and_book opening book ≡ refused q p → All (λ l. (l.answer ≡ refused q p) × (l.sheet ≡ opening)) (log book opening calls)
unfolding log
others opening book [] q p e = tt
others opening book (c ∷ cs) q p e =
    let answer : enter_answer opening book c.edit (length c.scratch) ≡ refused q p = answers opening book c.edit (length c.scratch) q p e in
    let same : enter_sheet opening book c.edit (length c.scratch) ≡ opening = stays opening book c.edit (length c.scratch) q p answer in
    ((answer, same), subst (λ s. All (λ l. (l.answer ≡ refused q p) × (l.sheet ≡ opening)) (log book s cs)) (sym same) (others opening book cs q p e))

pub leaves : Leaves
leaves = record { sheet_stays = stays; scratch_stays = scratch-same; scratch_written = done-or-41; others_stay = others }
