-- A joined edit passes the questions of an edit where both edits do.
use mathlib.Core.Path.{◌≡◌, refl, sym, ap, ◌∙◌}
use mathlib.Core.Logic.{◌↔◌}
use mathlib.Core.List.{List}
use Prim.Native.Nat.{ℕ, ◌≤◌}
use native.Mathlib.Omega.{arith}
use lib.ListN.{length}
use borrow.Author.Tests.{leb-true}
use Rattle.answer.specs.Asked.{passed}
use Rattle.answer.specs.Outputs.{ask_room}
use Rattle.answer.proofs.AskedLaws.{passed-same, bind-passed, is-then}
use Rattle.logic.specs.Syntax.{Edit, finish, add_label, take_label, add_arrow, take_arrow, choose}
use Rattle.logic.specs.Carry.{followed_by}
use Rattle.logic.specs.Limits.{max_nodes, Ranges, EditInRange}
use Rattle.text.specs.Code.{edit_code, edit_levels}
use Rattle.text.specs.Reading.{longest_text, Limits, limits_by, text_limits}
use Rattle.text.specs.Questions.{ask_edit}
use Rattle.text.proofs.TextSpelling.{edit-is-spelled, spelled-edit-passes}
use Rattle.join_edits.specs.Chain.{ask_joined, ask_join_edits}

-- its numbers are those of both
in-range : (r : Ranges) (Q P : Edit) → EditInRange r (followed_by P Q) ↔ (EditInRange r P × EditInRange r Q)
unfolding EditInRange followed_by
in-range r Q finish = (λ i. (tt, i), λ i. i.1)
in-range r Q (add_label k E P) = let (b, c) = in-range r Q P in (λ i. let (p, q) = b i.2 in ((i.0, i.1, p), q), λ i. (i.0.0, i.0.1, c (i.0.2, i.1)))
in-range r Q (take_label k E P) = let (b, c) = in-range r Q P in (λ i. let (p, q) = b i.2 in ((i.0, i.1, p), q), λ i. (i.0.0, i.0.1, c (i.0.2, i.1)))
in-range r Q (add_arrow a R P) = let (b, c) = in-range r Q P in (λ i. let (p, q) = b i.2 in ((i.0, i.1, p), q), λ i. (i.0.0, i.0.1, c (i.0.2, i.1)))
in-range r Q (take_arrow a R P) = let (b, c) = in-range r Q P in (λ i. let (p, q) = b i.2 in ((i.0, i.1, p), q), λ i. (i.0.0, i.0.1, c (i.0.2, i.1)))
in-range r Q (choose K P₁ Q₁ P) = let (b, c) = in-range r Q P in (λ i. let (p, q) = b i.3 in ((i.0, i.1, i.2, p), q), λ i. (i.0.0, i.0.1, i.0.2, c (i.0.3, i.1)))

-- and so are its levels
no_deeper : (d : ℕ) (Q P : Edit) → edit_levels P ≤ d → edit_levels Q ≤ d → edit_levels (followed_by P Q) ≤ d
unfolding edit_levels followed_by
no_deeper d Q finish i j = j
no_deeper d Q (add_label k E P) i j = omega (arith, i, no_deeper d Q P (omega (arith, i)) j)
no_deeper d Q (take_label k E P) i j = omega (arith, i, no_deeper d Q P (omega (arith, i)) j)
no_deeper d Q (add_arrow a R P) i j = omega (arith, i, no_deeper d Q P (omega (arith, i)) j)
no_deeper d Q (take_arrow a R P) i j = omega (arith, i, no_deeper d Q P (omega (arith, i)) j)
no_deeper d Q (choose K P₁ Q₁ P) i j = omega (arith, i, no_deeper d Q P (omega (arith, i)) j)

module _ (l : Limits) (p q : List ℕ) (P Q : Edit) where
  -- Under any limits that both pass, if it is short enough,
  pub joined-passes : ask_edit l p ≡ passed P → ask_edit l q ≡ passed Q → length (edit_code (followed_by P Q)) ≤ l.longest
      → ask_edit l (edit_code (followed_by P Q)) ≡ passed (followed_by P Q)
  joined-passes e f short =
      let s = edit-is-spelled l p P e in
      let t = edit-is-spelled l q Q f in
      spelled-edit-passes l _ (followed_by P Q)
      (record {
        text-is = refl;
        short = short;
        within = record {
          numbers_fit = (in-range l.numbers Q P).1 (s.within.numbers_fit, t.within.numbers_fit);
          levels-fit = omega (arith, no_deeper l.deepest Q P (omega (arith, s.within.levels-fit)) (omega (arith, t.within.levels-fit)));
        };
      })

-- and where its numbers are in range, both edits, read before with other ranges, pass.
module _ (r r' : Ranges) (p q : List ℕ) (P Q : Edit) where
  pub both-pass : ask_edit (limits_by r) p ≡ passed P → ask_edit (limits_by r) q ≡ passed Q → EditInRange r' (followed_by P Q)
      → (ask_edit (limits_by r') p ≡ passed P) × (ask_edit (limits_by r') q ≡ passed Q)
  both-pass e f i =
      let s = edit-is-spelled (limits_by r) p P e in
      let t = edit-is-spelled (limits_by r) q Q f in
      let (j, k) = (in-range r' Q P).0 i in (
        spelled-edit-passes (limits_by r') p P (record { text-is = s.text-is; short = s.short; within = record { numbers_fit = j; levels-fit = s.within.levels-fit } }),
        spelled-edit-passes (limits_by r') q Q (record { text-is = t.text-is; short = t.short; within = record { numbers_fit = k; levels-fit = t.within.levels-fit } }),
      )

-- Edits that join: what they mean, and what the joined bytes are.
pub record Joins (p q joined : List ℕ) : Type 0 where
  pub P : Edit
  pub Q : Edit
  pub p-read : ask_edit (text_limits max_nodes) p ≡ passed P
  pub q_read : ask_edit (text_limits max_nodes) q ≡ passed Q
  pub bytes-are : joined ≡ edit_code (followed_by P Q)
  pub short : length joined ≤ longest_text

pub joins : (p q joined : List ℕ) → ask_joined p q ≡ passed joined → Joins p q joined
unfolding ask_joined
joins p q joined h =
    let (P, f, e) = bind-passed _ _ _ h in
    let (Q, g, d) = bind-passed _ _ _ e in
    let (l, same) = is-then _ _ _ _ d in
    let bytes = passed-same same in
    record { P = P; Q = Q; p-read = f; q_read = g; bytes-are = sym bytes; short = omega (arith, ap length bytes, leb-true (length (edit_code (followed_by P Q))) longest_text l) }

-- The call writes these joined bytes.
pub call-joins : (p q : List ℕ) (room : ℕ) (joined : List ℕ) → ask_join_edits p q room ≡ passed joined → ask_joined p q ≡ passed joined
call-joins p q room joined h = unfold ask_join_edits ask_room in let (x, e, f) = bind-passed _ _ _ h in e ∙ (is-then _ _ _ _ f).1
