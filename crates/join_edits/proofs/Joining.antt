-- Joining, by its questions.
use mathlib.Core.Path.{◌≡◌, sym, ◌∙◌, ap, ap₂}
use mathlib.Core.List.{List, ◌++◌, append_assoc}
use Prim.Native.Nat.{ℕ, ◌+◌, ◌-◌, ◌≤◌, ◌<◌}
use native.Mathlib.Omega.{arith}
use borrow.Author.Tests.{le-leb, lt-leb}
use lib.ListN.{length, take, drop, length-take}
use lib.Seq.{take_at, drop_at, drop-drop}
use Rattle.answer.specs.declared.Refusal.{Refusal}
use Rattle.answer.specs.Answers.{refusal_number_def, refusal_place_def}
use Rattle.answer.specs.Asked.{passed, refused, ◌>>=◌, ◌>>◌, is, outcome}
use Rattle.answer.specs.Outputs.{ask_room, written_at_start}
use Rattle.answer.proofs.AnswerLaws.{learned, not-learned}
use Rattle.answer.proofs.OutputLaws.{room-short, room-enough}
use Rattle.logic.specs.Syntax.{Edit}
use Rattle.logic.specs.Carry.{followed_by}
use Rattle.logic.specs.Limits.{max_nodes}
use Rattle.text.specs.Code.{edit_code}
use Rattle.text.specs.Reading.{longest_text, text_limits}
use Rattle.text.specs.Questions.{ask_edit}
use Rattle.text.proofs.TextSpelling.{edit-is-spelled}
use Rattle.join_edits.specs.Chain.{ask_joined, ask_join_edits, without_last}
use Rattle.join_edits.proofs.JoinedBytes.{some_byte, joined_bytes, joined_length}

-- An edit that has passed, with n as 60.
pub record Passed (t : List ℕ) : Type 0 where
  pub what : Edit
  pub is : ask_edit (text_limits max_nodes) t ≡ passed what

pub edit-passed : (t : List ℕ) → passed tt ≡ outcome (ask_edit (text_limits max_nodes) t) → Passed t
edit-passed t e = let l = learned _ e in record { what = l.what; is = l.is }

-- its text is the edit's bytes
pub spelled : (t : List ℕ) (s : Passed t) → t ≡ edit_code s.what
spelled t s = (edit-is-spelled (text_limits max_nodes) t s.what s.is).text-is

pub passed-some : (t : List ℕ) → Passed t → 0 < length t
passed-some t s = omega (arith, ap length (spelled t s), some_byte s.what)

module _ (p q : List ℕ) (room : ℕ) where
  -- 21 to 26 for the first
  pub first_refused : (r : Refusal) → refused (refusal_number_def r) (refusal_place_def r) ≡ outcome (ask_edit (text_limits max_nodes) p) → ask_join_edits p q room ≡ refused (refusal_number_def r) (refusal_place_def r)
  first_refused r e = unfold ask_join_edits ask_joined ◌>>=◌ in rw (not-learned _ _ _ e)

  -- and for the second
  pub second-refused : Passed p → (r : Refusal) → refused (refusal_number_def r) (refusal_place_def r) ≡ outcome (ask_edit (text_limits max_nodes) q) → ask_join_edits p q room ≡ refused (refusal_number_def r) (refusal_place_def r)
  second-refused s r e = unfold ask_join_edits ask_joined ◌>>=◌ in rw (s.is, not-learned _ _ _ e)

module _ {p q : List ℕ} (s : Passed p) (t : Passed q) where
  abbrev pub joined : List ℕ
  joined = edit_code (followed_by s.what t.what)

  pub size_is : length p - 1 + length q ≡ length joined
  size_is = omega (arith, ap length (spelled p s), ap length (spelled q t), joined_length s.what t.what)

  pub bytes-are : joined ≡ without_last p ++ q
  bytes-are = joined_bytes s.what t.what ∙ sym (ap₂ (λ (x y : List ℕ). without_last x ++ y) (spelled p s) (spelled q t))

  module _ (room : ℕ) where
    -- 21 for the joined edit
    pub too_long : longest_text < length p - 1 + length q → ask_join_edits p q room ≡ refused 21 0
    too_long h = unfold ask_join_edits ask_joined ◌>>=◌ ◌>>◌ is in rw (s.is, t.is, lt-leb (length joined) longest_text (omega (arith, h, size_is)))

    module _ (fits : length p - 1 + length q ≤ longest_text) where
      to_room : ask_join_edits p q room ≡ ask_room joined room
      to_room = unfold ask_join_edits ask_joined ◌>>=◌ ◌>>◌ is in rw (s.is, t.is, le-leb (length joined) longest_text (omega (arith, fits, size_is)))

      -- 33
      pub short : room < length p - 1 + length q → ask_join_edits p q room ≡ refused 33 (length p - 1 + length q)
      short h = to_room ∙ room-short joined room _ size_is h

      pub enough : length p - 1 + length q ≤ room → ask_join_edits p q room ≡ passed joined
      enough h = to_room ∙ room-enough joined room _ size_is h

  -- What the two copies leave.
  pub written-so : (output : List ℕ) {out₁ out₂ : List ℕ} → out₁ ≡ without_last p → out₂ ≡ q
      → take (length p - 1) (out₁ ++ drop (length p - 1) output) ++ (out₂ ++ drop (length p - 1 + length q - (length p - 1)) (drop (length p - 1) (out₁ ++ drop (length p - 1) output))) ≡ written_at_start joined output
  written-so output {out₁} {out₂} u v =
      let end = length p - 1 in
      let n : length out₁ ≡ end = ap length u ∙ omega (arith, length-take end p) in
      let m : end + length q - end ≡ length q = omega arith in
      ap₂ (λ (x y : List ℕ). x ++ (out₂ ++ drop (end + length q - end) y)) (take_at out₁ (drop end output) end n) (drop_at out₁ (drop end output) end n)
      ∙ ap (λ (k : ℕ). out₁ ++ (out₂ ++ drop k (drop end output))) m
      ∙ ap₂ (λ (x y : List ℕ). x ++ (y ++ drop (length q) (drop end output))) u v
      ∙ ap (λ (l : List ℕ). without_last p ++ (q ++ l)) (drop-drop (length q) end output)
      ∙ sym (append_assoc (without_last p) q _)
      ∙ ap₂ (λ (x : List ℕ) (k : ℕ). x ++ drop k output) (sym bytes-are) size_is
