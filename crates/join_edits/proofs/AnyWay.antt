-- A chain of three edits joins to the same edit whichever two are joined first.
use mathlib.Core.Path.{◌≡◌, refl, sym, ◌∙◌, ap}
use mathlib.Core.Logic.{◌↔◌}
use mathlib.Core.List.{List}
use Prim.Native.Nat.{ℕ, ◌≤◌}
use native.Mathlib.Omega.{arith}
use lib.ListN.{length}
use borrow.Author.Tests.{le-leb}
use Rattle.answer.specs.Asked.{passed, ◌>>=◌, ◌>>◌, is}
use Rattle.logic.specs.Syntax.{Edit, finish, add_label, take_label, add_arrow, take_arrow, choose}
use Rattle.logic.specs.Carry.{followed_by}
use Rattle.logic.specs.Limits.{max_nodes}
use Rattle.text.specs.Code.{edit_code}
use Rattle.text.specs.Reading.{longest_text, text_limits}
use Rattle.text.specs.Questions.{ask_edit}
use Rattle.join_edits.specs.Chain.{ask_joined, JoinsByFirst, JoinsByLast}
use Rattle.join_edits.proofs.JoinedBytes.{some_byte, joined_length}
use Rattle.join_edits.proofs.JoinedPasses.{Joins, joins, joined-passes}

followed-assoc : (P Q R : Edit) → followed_by (followed_by P Q) R ≡ followed_by P (followed_by Q R)
unfolding followed_by
followed-assoc finish Q R = refl
followed-assoc (add_label k E P) Q R = ap (add_label k E) (followed-assoc P Q R)
followed-assoc (take_label k E P) Q R = ap (take_label k E) (followed-assoc P Q R)
followed-assoc (add_arrow a S P) Q R = ap (add_arrow a S) (followed-assoc P Q R)
followed-assoc (take_arrow a S P) Q R = ap (take_arrow a S) (followed-assoc P Q R)
followed-assoc (choose K P₁ Q₁ P) Q R = ap (choose K P₁ Q₁) (followed-assoc P Q R)

module _ (p q : List ℕ) (P Q : Edit) (p-read : ask_edit (text_limits max_nodes) p ≡ passed P) (q_read : ask_edit (text_limits max_nodes) q ≡ passed Q) (short : length (edit_code (followed_by P Q)) ≤ longest_text) where
  join-so : ask_joined p q ≡ passed (edit_code (followed_by P Q))
  join-so = unfold ask_joined ◌>>=◌ ◌>>◌ is in rw (p-read, q_read, le-leb (length (edit_code (followed_by P Q))) longest_text short)

  read-so : ask_edit (text_limits max_nodes) (edit_code (followed_by P Q)) ≡ passed (followed_by P Q)
  read-so = joined-passes (text_limits max_nodes) p q P Q p-read q_read short

-- joined bytes are read as the joined edit
read-joined : {p q joined : List ℕ} (j : Joins p q joined) → ask_edit (text_limits max_nodes) joined ≡ passed (followed_by j.P j.Q)
read-joined {p} {q} j = ap (ask_edit (text_limits max_nodes)) j.bytes-are ∙ read-so p q j.P j.Q j.p-read j.q_read (omega (arith, j.short, ap length j.bytes-are))

module _ (p q r y : List ℕ) where
  first-then-last : JoinsByFirst p q r y → JoinsByLast p q r y
  first-then-last f =
      let j : Joins p q f.joined = joins p q f.joined f.first in
      let k : Joins f.joined r y = joins f.joined r y f.then in
      let x-read = read-joined j in
      let k-read = k.p-read in
      let same : k.P ≡ followed_by j.P j.Q = cc in
      let y-is : y ≡ edit_code (followed_by j.P (followed_by j.Q k.Q)) = k.bytes-are ∙ ap (λ Z. edit_code (followed_by Z k.Q)) same ∙ ap edit_code (followed-assoc j.P j.Q k.Q) in
      let long : length (edit_code (followed_by j.P (followed_by j.Q k.Q))) ≤ longest_text = omega (arith, k.short, ap length y-is) in
      let short : length (edit_code (followed_by j.Q k.Q)) ≤ longest_text = omega (arith, long, joined_length j.P (followed_by j.Q k.Q)) in
      record {
        joined = edit_code (followed_by j.Q k.Q);
        last = join-so q r j.Q k.Q j.q_read k.q_read short;
        then = join-so p _ j.P (followed_by j.Q k.Q) j.p-read (read-so q r j.Q k.Q j.q_read k.q_read short) long ∙ ap passed (sym y-is);
      }

  last-then-first : JoinsByLast p q r y → JoinsByFirst p q r y
  last-then-first l =
      let j : Joins q r l.joined = joins q r l.joined l.last in
      let k : Joins p l.joined y = joins p l.joined y l.then in
      let z-read = read-joined j in
      let k-read = k.q_read in
      let same : k.Q ≡ followed_by j.P j.Q = cc in
      let y-is : y ≡ edit_code (followed_by (followed_by k.P j.P) j.Q) = k.bytes-are ∙ ap (λ Z. edit_code (followed_by k.P Z)) same ∙ ap edit_code (sym (followed-assoc k.P j.P j.Q)) in
      let long : length (edit_code (followed_by (followed_by k.P j.P) j.Q)) ≤ longest_text = omega (arith, k.short, ap length y-is) in
      let short : length (edit_code (followed_by k.P j.P)) ≤ longest_text = omega (arith, long, joined_length (followed_by k.P j.P) j.Q, some_byte j.Q) in
      record {
        joined = edit_code (followed_by k.P j.P);
        first = join-so p q k.P j.P k.p-read j.p-read short;
        then = join-so _ r (followed_by k.P j.P) j.Q (read-so p q k.P j.P k.p-read j.p-read short) j.q_read long ∙ ap passed (sym y-is);
      }

  pub any_way : JoinsByFirst p q r y ↔ JoinsByLast p q r y
  any_way = (first-then-last, last-then-first)
