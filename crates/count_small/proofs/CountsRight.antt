-- The counts in the answer: on graphs, their total, and that those kept after the edit are those on which the carried rules hold.
use mathlib.Core.Path.{◌≡◌, refl, sym, ap, ◌∙◌, subst}
use mathlib.Core.Bool.{Bool, true, false, not, ◌&&◌, cond}
use mathlib.Core.List.{List}
use Prim.Native.Nat.{ℕ, zero, suc, ◌+◌, ◌^◌, ◌≤◌}
use native.Mathlib.Omega.{arith}
use Rattle.answer.specs.Asked.{Asked, passed, after, outcome}
use Rattle.logic.specs.Syntax.{Expr, rule, Edit}
use Rattle.logic.specs.Graph.{Nodes, count_below}
use Rattle.logic.specs.Steps.{run}
use Rattle.logic.specs.Limits.{max_nodes}
use Rattle.logic.specs.Carry.{carried_book}
use Rattle.logic.proofs.Theorem.{hold-carried}
use Rattle.logic.proofs.Below.{count-cong}
use Rattle.count_small.specs.declared.Four.{Four}
use Rattle.logic.specs.Meaning.{hold_all}
use Rattle.count_small.specs.Small.{bits, small_sheet, four_of, four_counts, total}
use Rattle.count_small.specs.Exactly.{Exactly}
use Rattle.count_small.specs.Questions.{Texts, ask_count, no_counts, counts_of}
use Rattle.count_small.proofs.Totals.{totals}
use Rattle.count_small.proofs.ExactCounts.{SmallAnd, CountedGraphs, exactly, counted}
use Rattle.count_small.proofs.CountStages.{found}

-- whatever `before` is, those with `next` are counted
next-counted : (m : ℕ) (before next : Nodes) → count_below m (λ x. before x && next x) + count_below m (λ x. not (before x) && next x) ≡ count_below m next
unfolding count_below
next-counted zero before next = refl
next-counted (suc m) before next = go (before m) (next m) (next-counted m before next) where
  go : (b a : Bool) → count_below m (λ x. before x && next x) + count_below m (λ x. not (before x) && next x) ≡ count_below m next
      → cond (b && a) (suc (count_below m (λ x. before x && next x))) (count_below m (λ x. before x && next x))
      + cond (not b && a) (suc (count_below m (λ x. not (before x) && next x))) (count_below m (λ x. not (before x) && next x)) ≡ cond a (suc (count_below m next)) (count_below m next)
  go true true h = omega arith
  go true false h = omega arith
  go false true h = omega arith
  go false false h = omega arith

kept-after : (n : ℕ) (rules : List (Expr rule)) (Z : Edit) → (four_counts n rules Z).kept + (four_counts n rules Z).repaired ≡ count_below (2 ^ bits n) (λ x. hold_all (small_sheet n x) (carried_book Z rules))
unfolding four_counts four_of
kept-after n rules Z =
    next-counted (2 ^ bits n) (λ x. hold_all (small_sheet n x) rules) (λ x. hold_all (run Z (small_sheet n x)) rules)
    ∙ count-cong (2 ^ bits n) _ _ (λ x l. sym (hold-carried Z rules (small_sheet n x)))

module _ (n : ℕ) (book edit : List ℕ) (t : Texts) (is_read : ask_count n book edit ≡ passed t) where
  counts : counts_of n book edit ≡ four_counts n t.rules t.edit
  counts = unfold counts_of after in ap (λ (q : Asked Texts). after q (λ u. four_counts n u.rules u.edit) no_counts) is_read

  pub in-range : (1 ≤ n) × (n ≤ max_nodes)
  in-range = unfold outcome in let q = found n book edit (sym (ap outcome is_read)) in (q.some, omega (arith, q.few))

  -- "each is the exact number by the definitions", on graphs; crate `promises`, Item12, says it for sheets
  pub counted-graphs : CountedGraphs n t.rules t.edit (counts_of n book edit)
  counted-graphs = subst (CountedGraphs n t.rules t.edit) (sym counts) (counted n t.rules t.edit in-range.0 in-range.1)

  pub total-is : total (counts_of n book edit) ≡ 2 ^ bits n
  total-is = ap total counts ∙ totals n t.rules t.edit

  -- Those that are kept after the edit are those on which all carried rules hold before it.
  pub carried-counted : Exactly (SmallAnd n (λ g. hold_all g (carried_book t.edit t.rules))) ((counts_of n book edit).kept + (counts_of n book edit).repaired)
  carried-counted =
      subst (Exactly (SmallAnd n (λ g. hold_all g (carried_book t.edit t.rules)))) (sym (kept-after n t.rules t.edit) ∙ sym (ap (λ (f : Four). f.kept + f.repaired) counts))
      (exactly n (λ g. hold_all g (carried_book t.edit t.rules)) in-range.0 in-range.1)
