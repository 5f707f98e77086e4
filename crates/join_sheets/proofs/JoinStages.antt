-- The answer of joining and what it leaves, by where it stops.
use mathlib.Core.Path.{◌≡◌}
use mathlib.Core.List.{List}
use Prim.Native.Nat.{ℕ, ◌≤◌, ◌<◌}
use borrow.Author.Tests.{le-leb, lt-leb, leb-true}
use Rattle.answer.specs.Asked.{passed, refused, ◌>>◌, is, after}
use Rattle.answer.specs.Answers.{asked}
use Rattle.answer.specs.declared.Refusal.{Refusal}
use Rattle.answer.specs.declared.Answer.{Answer}
use Rattle.answer.specs.declared.Answer.TheVariants.{Refused}
use Rattle.answer.proofs.AskedLaws.{is-yes, then-passed}
use Rattle.logic.specs.Limits.{max_nodes}
use Rattle.sheet.specs.Sheet.{store, graph_of}
use Rattle.sheet.specs.Questions.{ask_sheet, Sound}
use Rattle.join_sheets.specs.Joined.{joined_graph, nodes_total, ask_join, joined_sheet}

-- Both sheets are sound, and their nodes fit into one.
pub record Joins (first second : List ℕ) : Type 0 where
  pub first-sound : Sound first
  pub second-sound : Sound second
  pub few : nodes_total first second ≤ max_nodes

module _ (first second : List ℕ) where
  pub first_stops : {a : Answer} {r : Refusal} → a ≡ Refused r → asked a ≡ ask_sheet first → asked a ≡ ask_join first second
  first_stops e s = unfold ask_join ◌>>◌ in rw (← s, e)

  module _ (sound : Sound first) where
    module _ (other : Sound second) where
      pub passes : nodes_total first second ≤ max_nodes → ask_join first second ≡ passed tt
      passes h = unfold ask_join ◌>>◌ is in rw (sound, other, le-leb (nodes_total first second) max_nodes h)

      pub too_many : max_nodes < nodes_total first second → ask_join first second ≡ refused 58 (nodes_total first second)
      too_many h = unfold ask_join ◌>>◌ is in rw (sound, other, lt-leb (nodes_total first second) max_nodes h)

  -- what is known when all questions have passed
  pub joins : ask_join first second ≡ passed tt → Joins first second
  unfolding ask_join
  joins e =
      let (u, one, others) = then-passed (ask_sheet first) _ tt e in
      let (v, two, few) = then-passed (ask_sheet second) _ tt others in
      record { first-sound = one; second-sound = two; few = leb-true (nodes_total first second) max_nodes (is-yes _ 58 (nodes_total first second) few) }

  pub joined_is : ask_join first second ≡ passed tt → joined_sheet first second ≡ store (joined_graph (graph_of first) (graph_of second))
  joined_is e = unfold joined_sheet after in rw e

  pub refused-stays : (number place : ℕ) → ask_join first second ≡ refused number place → joined_sheet first second ≡ first
  refused-stays number place e = unfold joined_sheet after in rw e
