-- The lines of enter and replay give their answers.
use mathlib.Core.Path.{◌≡◌, refl, sym, ap}
use mathlib.Core.List.{List}
use Prim.Native.Nat.{ℕ}
use native.Mathlib.Omega.{arith}
use lib.ListN.{length}
use Rattle.answer.specs.Asked.{Asked, passed, asked_number, asked_place}
use Rattle.answer.proofs.Refusals.{Refuses, passes, refuses, number_by, place-by, outcome-refuses, wider}
use Rattle.runs.specs.Enter.{enter_answer}
use Rattle.runs.proofs.EnterRefusals.{enter-refuses}
use Rattle.runs.proofs.Examples as examples
use Rattle.decimal.specs.Digits.{digits, said}
use Rattle.printed.specs.AnswerLine.{answer_line, asked_line, early_line}
use Rattle.printed.proofs.AnswerLineLaws.{says-number, says-place, lines-tell, not_early}
use Rattle.printed.specs.Printed.{scratch_bytes}
use Rattle.log_blocks.specs.Replay.{stop_line}
use Rattle.log_blocks.proofs.LogRefusals.{log-refuses}
use Rattle.promises.specs.Lines.{Says, Lines}

-- Answers of enter, and the end of a log, have no more digits than a line.
entered : (sheet book edit : List ℕ) (room : ℕ) → Refuses 1 41 16384 (enter_answer sheet book edit room)
entered sheet book edit room = outcome-refuses (enter-refuses sheet book edit room)

of-enter : {x : Asked (Unit {0})} → Refuses 1 41 16384 x → Refuses 1 98 99999 x
of-enter r = wider (omega arith) (omega arith) (omega arith) r

of-log : {x : Asked (Unit {0})} → Refuses 52 53 65535 x → Refuses 1 98 99999 x
of-log r = wider (omega arith) (omega arith) (omega arith) r

line : (sheet book edit : List ℕ) → Refuses 1 98 99999 (enter_answer sheet book edit scratch_bytes)
line sheet book edit = of-enter (entered sheet book edit scratch_bytes)

-- A replay that does not stop prints no line, which is none of these.
no_line : (number place : ℕ) → stop_line (passed tt) ≡ answer_line number place → ⊥
no_line number place e = unfold stop_line answer_line digits in let z : ◌≡◌ {A = ℕ} 0 9 = ap length e in omega arith

says : {x : Asked (Unit {0})} → Refuses 52 53 65535 x → Says (stop_line x) x
unfolding stop_line asked_number asked_place said
says passes = record { number = refl; place = refl }
says (refuses q p i j k) = record { number = says-number (of-log (refuses q p i j k)); place = says-place (of-log (refuses q p i j k)) }

apart : {x y : Asked (Unit {0})} → Refuses 52 53 65535 x → Refuses 1 41 16384 y → stop_line x ≡ asked_line y → ⊥
unfolding stop_line asked_number asked_place
apart {y = y} passes s e = no_line (asked_number y) (asked_place y) e
apart (refuses q p i j k) s e = omega (arith, ap asked_number (lines-tell (of-log (refuses q p i j k)) (of-enter s) e), number_by s)

tells : {x y : Asked (Unit {0})} → Refuses 52 53 65535 x → Refuses 52 53 65535 y → stop_line x ≡ stop_line y → x ≡ y
unfolding stop_line asked_number asked_place
tells passes passes e = refl
tells passes (refuses q p i j k) e = absurd (no_line q p e)
tells (refuses q p i j k) passes e = absurd (no_line q p (sym e))
tells (refuses q p i j k) (refuses q' p' i' j' k') e = lines-tell (of-log (refuses q p i j k)) (of-log (refuses q' p' i' j' k')) e

early-apart : {x : Asked (Unit {0})} → Refuses 52 53 65535 x → stop_line x ≡ early_line → ⊥
unfolding stop_line asked_number asked_place
early-apart passes e = no_line 99 0 e
early-apart (refuses q p i j k) e = not_early (of-log (refuses q p i j k)) e

pub lines : Lines
unfolding answer_line digits asked_number asked_place
lines = record {
  enter_number = λ sheet book edit room. number_by (entered sheet book edit room);
  enter_place = λ sheet book edit room. place-by (entered sheet book edit room);
  line_says = λ sheet book edit. record { number = says-number (line sheet book edit); place = says-place (line sheet book edit) };
  line_tells = λ sheet book edit sheet' book' edit' e. lines-tell (line sheet book edit) (line sheet' book' edit') e;
  not_early = λ sheet book edit e. not_early (line sheet book edit) e;
  log_number = λ log. number_by (log-refuses log);
  log_place = λ log. place-by (log-refuses log);
  stop_says = λ log. says (log-refuses log);
  stop_tells = λ log log' e. tells (log-refuses log) (log-refuses log') e;
  stop_apart = λ log sheet book edit e. apart (log-refuses log) (entered sheet book edit scratch_bytes) e;
  stop_not_early = λ log e. early-apart (log-refuses log) e;
  example_8 = ap asked_line (examples.example_8 scratch_bytes (omega arith));
}
