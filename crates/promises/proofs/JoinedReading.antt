-- The joined edit read with the n of a sheet: there, too, it is P followed by Q.
use mathlib.Core.Path.{◌≡◌, ◌∙◌, ap, subst}
use mathlib.Core.Logic.{◌↔◌}
use mathlib.Core.List.{List}
use Prim.Native.Nat.{ℕ, ◌≤◌}
use native.Mathlib.Omega.{arith}
use lib.ListN.{length}
use Rattle.answer.specs.Asked.{passed, outcome}
use Rattle.logic.specs.Syntax.{Edit}
use Rattle.logic.specs.Carry.{followed_by}
use Rattle.logic.specs.Limits.{max_nodes, ranges, EditInRange}
use Rattle.text.specs.Reading.{text_limits}
use Rattle.text.specs.Questions.{ask_edit}
use Rattle.text.proofs.TextSpelling.{edit-is-spelled}
use Rattle.rewrite_counts.proofs.Wider.{edit-wider, now-below}
use Rattle.answer.proofs.AskedLaws.{outcome-passed}
use Rattle.join_edits.proofs.JoinedPasses.{Joins, joined-passes, both-pass}
use Rattle.promises.specs.Chained.{Passes}

-- an edit that passes for n is the same edit for 60
one-edit : (n : ℕ) → n ≤ max_nodes → (t : List ℕ) (Z Y : Edit) → ask_edit (text_limits n) t ≡ passed Z → ask_edit (text_limits max_nodes) t ≡ passed Y → Z ≡ Y
one-edit n l t Z Y e f = let w : ask_edit (text_limits max_nodes) t ≡ passed Z = edit-wider (ranges n) (ranges max_nodes) (now-below n l) t Z e in cc

module _ {p q joined : List ℕ} (j : Joins p q joined) where
  -- read for n: both edits, and the joined one
  pub record ReadFor (n : ℕ) : Type 0 where
    pub p-read : ask_edit (text_limits n) p ≡ passed j.P
    pub q_read : ask_edit (text_limits n) q ≡ passed j.Q
    pub joined-read : ask_edit (text_limits n) joined ≡ passed (followed_by j.P j.Q)

  read-for : (n : ℕ) → ask_edit (text_limits n) p ≡ passed j.P → ask_edit (text_limits n) q ≡ passed j.Q → ReadFor n
  read-for n e f = record {
    p-read = e;
    q_read = f;
    joined-read = ap (ask_edit (text_limits n)) j.bytes-are ∙ joined-passes (text_limits n) p q j.P j.Q e f (omega (arith, j.short, ap length j.bytes-are));
  }

  pub read-for-60 : ReadFor max_nodes
  read-for-60 = read-for max_nodes j.p-read j.q_read

  module _ (n : ℕ) (l : n ≤ max_nodes) where
    pub from-both : (P Q : Edit) → ask_edit (text_limits n) p ≡ passed P → ask_edit (text_limits n) q ≡ passed Q → ReadFor n
    from-both P Q e f = read-for n (e ∙ ap passed (one-edit n l p P j.P e j.p-read)) (f ∙ ap passed (one-edit n l q Q j.Q f j.q_read))

    pub from-joined : (Z : Edit) → ask_edit (text_limits n) joined ≡ passed Z → ReadFor n
    from-joined Z e =
        let same : Z ≡ followed_by j.P j.Q = one-edit n l joined Z _ e read-for-60.joined-read in
        let i : EditInRange (ranges n) (followed_by j.P j.Q) = subst (EditInRange (ranges n)) same (edit-is-spelled (text_limits n) joined Z e).within.numbers_fit in
        let (f, g) = both-pass (ranges max_nodes) (ranges n) p q j.P j.Q j.p-read j.q_read i in
        read-for n f g

    pub passes_when : Passes n joined ↔ (Passes n p × Passes n q)
    unfolding outcome
    passes_when = (both, one) where
      both : Passes n joined → Passes n p × Passes n q
      both h =
          let (Z, e) = outcome-passed (ask_edit (text_limits n) joined) h in
          let r = from-joined Z e in
          (ap outcome r.p-read, ap outcome r.q_read)

      one : Passes n p × Passes n q → Passes n joined
      one h =
          let (P, e) = outcome-passed (ask_edit (text_limits n) p) h.0 in
          let (Q, f) = outcome-passed (ask_edit (text_limits n) q) h.1 in
          ap outcome (from-both P Q e f).joined-read
