-- What holds for edits that join.
use mathlib.Core.Path.{◌≡◌, ◌∙◌, ap}
use mathlib.Core.List.{List}
use Prim.Native.Nat.{ℕ}
use Rattle.answer.specs.Asked.{passed, outcome}
use Rattle.join_edits.specs.Chain.{ask_joined, ask_join_edits}
use Rattle.join_edits.proofs.Joining.{bytes-are}
use Rattle.join_edits.proofs.JoinedPasses.{Joins, joins, call-joins}
use Rattle.promises.specs.Chained.{Chained}
use Rattle.promises.proofs.JoinedReading.{read-for-60, passes_when}
use Rattle.promises.proofs.CarriedJoined.{is_carried, same_answer, same_output}
use Rattle.promises.proofs.JoinedCarriedOut.{applies_when, same-sheet}
use Rattle.promises.proofs.EnteredJoined.{joined-leaves, joined-when, one_by_one}

pub chained : (p q joined : List ℕ) → ask_joined p q ≡ passed joined → Chained p q joined
unfolding outcome
chained p q joined h =
    let j : Joins p q joined = joins p q joined h in
    record {
      bytes = j.bytes-are ∙ bytes-are {p = p} {q = q} (record { what = j.P; is = j.p-read }) (record { what = j.Q; is = j.q_read });
      passes = ap outcome (read-for-60 j).joined-read;
      passes_when = λ n l. passes_when j n l;
      carried_text = λ book text c. is_carried c;
      same_answer = λ book text c room. same_answer c j room;
      same_output = λ book text c output. same_output c j output;
      applies_when = λ sheet b. applies_when j sheet b;
      applied = λ sheet b. same-sheet j sheet b;
      entered_leaves = λ sheet book room b. joined-leaves j sheet book room b;
      entered_when = λ sheet book room b asked. joined-when j sheet book room b asked;
      one_by_one = λ sheet book room₁ room₂ room b e f asked. one_by_one j sheet book room b asked room₁ room₂ e f;
    }

-- So for what a call of joining writes.
pub chained_call : (p q : List ℕ) (room : ℕ) (joined : List ℕ) → ask_join_edits p q room ≡ passed joined → Chained p q joined
chained_call p q room joined h = chained p q joined (call-joins p q room joined h)
