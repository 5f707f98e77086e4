-- The refusals of enter: the numbers of its questions, in their order, and no place above 16,384, whatever the input.
use mathlib.Core.Path.{◌≡◌, sym, ap}
use mathlib.Core.List.{List}
use Prim.Native.Nat.{ℕ, ◌≤◌}
use native.Mathlib.Omega.{arith}
use lib.ListN.{length, length-map}
use Rattle.answer.specs.Asked.{Asked, passed, refused}
use Rattle.answer.proofs.Refusals.{Refuses, passes, refuses, bind-refuses, then-refuses, wider}
use Rattle.logic.specs.Carry.{carry, carried_book}
use Rattle.sheet.specs.Sheet.{present, graph_of}
use Rattle.sheet.proofs.SheetRefusals.{sheet-refuses}
use Rattle.text.specs.Reading.{longest_text, longest_carried, text_limits}
use Rattle.text.specs.Questions.{most_rules}
use Rattle.text.proofs.TextRefusals.{book-refuses, edit-refuses}
use Rattle.text.proofs.TextSpelling.{book-is-spelled}
use Rattle.judge.specs.Questions.{ask_sheet_and_book}
use Rattle.judge.proofs.RuleRefusals.{rules-refuse}
use Rattle.runs.proofs.ScratchLaws.{scratch-refuses}
use Rattle.runs.specs.Enter.{StepsAndCarried, ask_before41, ask_enter}
use Rattle.answer.proofs.AskedLaws.{refused-not-passed}
use Rattle.judge.proofs.SheetAndBook.{book-passed}
use Rattle.runs.proofs.OneCall.{passed-33}

pub sheet-and-book-refuse : (sheet book : List ℕ) → Refuses 1 16 longest_text (ask_sheet_and_book sheet book)
unfolding ask_sheet_and_book
sheet-and-book-refuse sheet book =
    then-refuses (wider (omega arith) (omega arith) (omega arith) (sheet-refuses present sheet)) (wider (omega arith) (omega arith) (omega arith) (book-refuses (text_limits (graph_of sheet).n) book))

pub before-41-refuses : (sheet book edit : List ℕ) (room : ℕ) → Refuses 1 33 longest_carried (ask_before41 sheet book edit room)
unfolding ask_before41
before-41-refuses sheet book edit room =
    bind-refuses (wider (omega arith) (omega arith) (omega arith) (sheet-and-book-refuse sheet book))
    (λ rules e. bind-refuses (wider (omega arith) (omega arith) (omega arith) (edit-refuses (text_limits (graph_of sheet).n) edit))
    (λ Z f. then-refuses (wider (omega arith) (omega arith) (omega arith) (scratch-refuses (carried_book Z rules) room)) passes))

-- There are as many carried rules as rules, so the place of 41 is below 32.
few-carried : (sheet book edit : List ℕ) (room : ℕ) (c : StepsAndCarried) → ask_before41 sheet book edit room ≡ passed c → length c.carried ≤ most_rules
few-carried sheet book edit room c e =
    let p = passed-33 sheet book edit room c e in
    let spelled = book-is-spelled (text_limits (graph_of sheet).n) book p.rules (book-passed sheet book p.read) in
    omega (arith, spelled.spells.few, length-map p.rules (carry c.steps), ap length p.carried-are)

pub enter-refuses : (sheet book edit : List ℕ) (room : ℕ) → Refuses 1 41 longest_carried (ask_enter sheet book edit room)
unfolding ask_enter
enter-refuses sheet book edit room =
    bind-refuses (wider (omega arith) (omega arith) (omega arith) (before-41-refuses sheet book edit room))
    (λ c e. then-refuses (wider (omega arith) (omega arith) (omega (arith, few-carried sheet book edit room c e)) (rules-refuse (graph_of sheet) c.carried 0)) passes)

-- Every refusal has such a number.
pub refused-between : {A : Type 0} {from to most q p : ℕ} {x : Asked A} → Refuses from to most x → x ≡ refused q p → (from ≤ q) × (q ≤ to)
refused-between passes e = refused-not-passed (sym e)
refused-between {q = q} (refuses n m i j k) e = let z : n ≡ q = cc in (omega arith, omega arith)
