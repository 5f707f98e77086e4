-- A log that ends badly: the first place with a question that is answered no, and the edits before it.
use mathlib.Core.Path.{◌≡◌, refl, sym, ◌∙◌, ap}
use mathlib.Core.Bool.{true, false, not, cond}
use mathlib.Core.List.{List, [], ◌∷◌, ◌++◌}
use Prim.Native.Nat.{ℕ, zero, suc, ◌+◌, ◌≤◌, ◌<◌}
use native.Mathlib.Omega.{arith}
use lib.ListN.{length, take}
use Rattle.answer.specs.Asked.{Asked, passed, refused}
use Rattle.log_blocks.specs.Log.{is_last, content, is_begun, ask_log_block, ask_log_end, Recorded, recorded}
use Rattle.log_blocks.specs.Faults.{ask_from, edits_from}
use Rattle.log_blocks.proofs.ReadLaws.{read-bad, gathered_then, edits_then, read-on, each-passed}
use Rattle.log_blocks.proofs.PassedLaws.{passes, bad-place, end-place, still-begun}

abbrev edits_of : Recorded → List (List ℕ)
edits_of r = r.edits

abbrev ending_of : Recorded → Asked (Unit {0})
ending_of r = r.ending

-- The first m of these blocks pass, what follows them does not; the edits are those of the first m.
pub record Bad (number : ℕ) (g : List ℕ) (ks : List (List ℕ)) (q p m : ℕ) : Type 0 where
  pub place : p ≡ number + m
  pub within : m ≤ length ks
  pub before : (i : ℕ) → i < m → ask_from number (is_begun g) ks i ≡ passed tt
  pub at : ask_from number (is_begun g) ks m ≡ refused q p
  pub edits : (recorded number g ks).edits ≡ edits_from g (take m ks)
  pub part : (recorded number g (take m ks)).edits ≡ (recorded number g ks).edits

pub data Somewhere (number : ℕ) (g : List ℕ) (ks : List (List ℕ)) (q p : ℕ) : Type 0 where
  after : (m : ℕ) → Bad number g ks q p m → Somewhere number g ks q p

-- after a block that passed
module _ (number : ℕ) (g k : List ℕ) (ks : List (List ℕ)) (f : ask_log_block (is_begun g) number k ≡ passed tt) where
  abbrev then : List ℕ
  then = gathered_then g k

  begun-then : not (is_last k) ≡ is_begun then
  begun-then =
      elim (is_last k) as (λ l. not l ≡ is_begun (cond l [] (g ++ content k))) [ true ↦ refl | false ↦ sym (still-begun g (passes (is_begun g) number k f)) ]

  edits-then : (es : List (List ℕ)) → edits_from g (k ∷ es) ≡ edits_then g k (edits_from then es)
  unfolding edits_from
  edits-then es =
      let e : List ℕ = g ++ content k in
      elim (is_last k) as (λ l. cond l (e ∷ edits_from [] es) (edits_from e es) ≡ (let r = edits_from (cond l [] e) es in cond l (e ∷ r) r)) [ true ↦ refl | false ↦ refl ]

  past : {q p : ℕ} → Somewhere (suc number) then ks q p → Somewhere number g (k ∷ ks) q p
  unfolding ask_from
  past {q} {p} (after m s) = after (suc m) (record {
    place = s.place ∙ omega arith;
    within = omega (arith, s.within);
    before = firsts;
    at = ap (λ x. ask_from (suc number) x ks m) begun-then ∙ s.at;
    edits = cc (read-on number g k ks f, s.edits, edits-then (take m ks));
    part = cc (read-on number g k ks f, read-on number g k (take m ks) f, s.part);
  }) where
    firsts : (i : ℕ) → i < suc m → ask_from number (is_begun g) (k ∷ ks) i ≡ passed tt
    firsts zero h = f
    firsts (suc i) h = ap (λ x. ask_from (suc number) x ks i) begun-then ∙ s.before i (omega arith)

at-end : (number : ℕ) (g : List ℕ) (q p : ℕ) → ask_log_end (is_begun g) number ≡ refused q p → Bad number g [] q p 0
unfolding ask_from edits_from recorded
at-end number g q p e =
    record { place = end-place (is_begun g) number q p e ∙ omega arith; within = omega arith; before = λ i h. absurd (omega arith); at = e; edits = refl; part = refl }

at_block : (number : ℕ) (g k : List ℕ) (ks : List (List ℕ)) (q p : ℕ) → ask_log_block (is_begun g) number k ≡ refused q p → Bad number g (k ∷ ks) q p 0
unfolding ask_from edits_from recorded
at_block number g k ks q p f =
    let none = ap edits_of (read-bad number g k ks q p f) in
    record { place = bad-place (is_begun g) number k q p f ∙ omega arith; within = omega arith; before = λ i h. absurd (omega arith); at = f; edits = none; part = sym none }

pub ends_badly : (number : ℕ) (g : List ℕ) (ks : List (List ℕ)) (q p : ℕ) → (recorded number g ks).ending ≡ refused q p → Somewhere number g ks q p
unfolding recorded
ends_badly = each-passed (λ number g ks. (q p : ℕ) → (recorded number g ks).ending ≡ refused q p → Somewhere number g ks q p)
    (λ number g q p e. after 0 (at-end number g q p e))
    (λ number g k ks a b f q p e. after 0 (at_block number g k ks q p (cc (read-bad number g k ks a b f))))
    (λ number g k ks f on q p e. past number g k ks f (on q p (cc (read-on number g k ks f))))

-- the first such place is where the log ends
pub first_bad : (number : ℕ) (g : List ℕ) (ks : List (List ℕ)) (q p m : ℕ) → ((i : ℕ) → i < m → ask_from number (is_begun g) ks i ≡ passed tt) → ask_from number (is_begun g) ks m ≡ refused q p
    → (recorded number g ks).ending ≡ refused q p
unfolding recorded ask_from
first_bad number g [] q p m b e = e
first_bad number g (k ∷ ks) q p zero b e = ap ending_of (read-bad number g k ks q p e)
first_bad number g (k ∷ ks) q p (suc m) b e =
    let f : ask_log_block (is_begun g) number k ≡ passed tt = b 0 (omega arith) in
    let begun = begun-then number g k ks f in
    ap ending_of (read-on number g k ks f)
    ∙ first_bad (suc number) (gathered_then g k) ks q p m (λ i h. ap (λ x. ask_from (suc number) x ks i) (sym begun) ∙ b (suc i) (omega arith)) (ap (λ x. ask_from (suc number) x ks m) (sym begun) ∙ e)

-- the edits of a log that ends well are those of all its blocks
pub ends_well : (number : ℕ) (g : List ℕ) (ks : List (List ℕ)) → (recorded number g ks).ending ≡ passed tt → (recorded number g ks).edits ≡ edits_from g ks
unfolding recorded edits_from
ends_well = each-passed (λ number g ks. (recorded number g ks).ending ≡ passed tt → (recorded number g ks).edits ≡ edits_from g ks)
    (λ number g e. refl)
    (λ number g k ks a b f e. cc (read-bad number g k ks a b f))
    (λ number g k ks f on e. cc (read-on number g k ks f, on (cc (read-on number g k ks f)), edits-then number g k ks f ks))
