-- What is in range is in any wider range, and a book or an edit that passes under some ranges passes under any wider ones.
use mathlib.Core.Path.{◌≡◌}
use mathlib.Core.List.{List}
use Prim.Native.Nat.{ℕ, ◌≤◌}
use native.Mathlib.Omega.{arith}
use lib.Dec.{T, leb, leb→le, le→leb, ltb→lt, lt→ltb}
use Rattle.answer.specs.Asked.{passed}
use Rattle.logic.specs.Syntax.{Sort, rule, Expr, Edit, finish, add_label, take_label, add_arrow, take_arrow, choose}
use Rattle.logic.specs.Limits.{max_nodes, Kind, label_number, arrow_number, node_number, least_count, most_count, Ranges, ranges, former_ranges, fits, InRange, EditInRange}
use Rattle.logic.specs.Arity.{numbers0, numbers1, numbers2, by_arity}
use Rattle.logic.proofs.ArityLaws.{Fit, range-0, range-1, range-2}
use Rattle.logic.proofs.ListLaws.{all_so}
use Rattle.logic.proofs.Bools.{so-both, both_so}
use Rattle.text.specs.Reading.{limits_by}
use Rattle.text.specs.Questions.{ask_book, ask_edit}
use Rattle.text.proofs.TextSpelling.{EachAllowed, book-is-spelled, spelled-book-passes, edit-is-spelled, spelled-edit-passes}

abbrev pub Wider : Ranges → Ranges → Type 0
Wider r r' = (k : Kind) (x : ℕ) → T (fits r k x) → T (fits r' k x)

module _ (r r' : Ranges) (w : Wider r r') where
  in-wider : {s : Sort} (e : Expr s) → InRange r e → InRange r' e
  in-wider = by_arity (λ s e. InRange r e → InRange r' e) (λ s b h. (range-0 r' b).1 (fit (numbers0 b) ((range-0 r b).0 h)))
      (λ u t b x p h. let q = (range-1 r b x).0 h in (range-1 r' b x).1 (fit (numbers1 b) q.0, p q.1))
      (λ u v t b x y p o h. let q = (range-2 r b x y).0 h in (range-2 r' b x y).1 (fit (numbers2 b) q.0, (p q.1.0, o q.1.1))) where
        fit : (ns : List (Kind × ℕ)) → Fit r ns → Fit r' ns
        fit = all_so (λ n. w n.0 n.1)

  each-wider : (rules : List (Expr rule)) → EachAllowed (limits_by r) rules → EachAllowed (limits_by r') rules
  each-wider = all_so (λ K a. record { numbers_fit = in-wider K a.numbers_fit; levels-fit = a.levels-fit })

  pub book-wider : (t : List ℕ) (rules : List (Expr rule)) → ask_book (limits_by r) t ≡ passed rules → ask_book (limits_by r') t ≡ passed rules
  book-wider t rules h =
      let s = book-is-spelled (limits_by r) t rules h in
      spelled-book-passes (limits_by r') t rules
      (record { short = s.short; spells = record { text-is = s.spells.text-is; few = s.spells.few; rules = each-wider rules s.spells.rules } })

  edit-in-wider : (Z : Edit) → EditInRange r Z → EditInRange r' Z
  unfolding EditInRange
  edit-in-wider finish h = tt
  edit-in-wider (add_label k E Z) h = (w label_number k h.0, in-wider E h.1, edit-in-wider Z h.2)
  edit-in-wider (take_label k E Z) h = (w label_number k h.0, in-wider E h.1, edit-in-wider Z h.2)
  edit-in-wider (add_arrow a R Z) h = (w arrow_number a h.0, in-wider R h.1, edit-in-wider Z h.2)
  edit-in-wider (take_arrow a R Z) h = (w arrow_number a h.0, in-wider R h.1, edit-in-wider Z h.2)
  edit-in-wider (choose K P Q Z) h = (in-wider K h.0, edit-in-wider P h.1, edit-in-wider Q h.2, edit-in-wider Z h.3)

  pub edit-wider : (t : List ℕ) (Z : Edit) → ask_edit (limits_by r) t ≡ passed Z → ask_edit (limits_by r') t ≡ passed Z
  edit-wider t Z h =
      let s = edit-is-spelled (limits_by r) t Z h in
      spelled-edit-passes (limits_by r') t Z
      (record { text-is = s.text-is; short = s.short; within = record { numbers_fit = edit-in-wider Z s.within.numbers_fit; levels-fit = s.within.levels-fit } })

-- The former ranges are wider,
pub former-of-now : (n : ℕ) → Wider (ranges n) (former_ranges n)
former-of-now n label_number x h = h
former-of-now n arrow_number x h = h
former-of-now n node_number x h = h
former-of-now n least_count x h = so-both (leb 0 x) (leb x 255) (le→leb 0 x (omega arith)) (le→leb x 255 (omega (arith, leb→le x max_nodes (both_so (leb 1 x) (leb x max_nodes) h).1)))
former-of-now n most_count x h = le→leb x 255 (omega (arith, leb→le x 59 h))

-- and so are those of more nodes.
more-nodes : (n from to most : ℕ) → n ≤ max_nodes → Wider (record { nodes = n; least_from = from; least_to = to; most_to = most }) (record { nodes = max_nodes; least_from = from; least_to = to; most_to = most })
more-nodes n from to most l label_number x h = h
more-nodes n from to most l arrow_number x h = h
more-nodes n from to most l node_number x h = lt→ltb x max_nodes (omega (arith, ltb→lt x n h))
more-nodes n from to most l least_count x h = h
more-nodes n from to most l most_count x h = h

pub former-below : (n : ℕ) → n ≤ max_nodes → Wider (former_ranges n) (former_ranges max_nodes)
former-below n l = more-nodes n _ _ _ l

pub now-below : (n : ℕ) → n ≤ max_nodes → Wider (ranges n) (ranges max_nodes)
now-below n l = more-nodes n _ _ _ l
