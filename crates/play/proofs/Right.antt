-- The call's outcome is right in the words of item 13.
use mathlib.Core.Path.{◌≡◌, sym, ap, ◌∙◌, subst}
use mathlib.Core.Bool.{◌&&◌}
use mathlib.Core.Logic.{◌↔◌}
use mathlib.Core.List.{List, [], ◌∷◌}
use Prim.Native.Nat.{ℕ, zero, suc, ◌-◌, ◌<◌}
use native.Mathlib.Omega.{arith}
use lib.Dec.{T}
use lib.ListN.{length, get_or}
use borrow.Author.Tests.{lt-ltb}
use Rattle.answer.specs.Asked.{passed}
use Rattle.logic.specs.Syntax.{Expr, rule, Edit, finish}
use Rattle.logic.specs.Graph.{Graph}
use Rattle.logic.specs.Carry.{carried_book}
use Rattle.sheet.specs.Sheet.{graph_of}
use Rattle.judge.specs.Questions.{ask_rules}
use Rattle.logic.specs.Meaning.{hold_all}
use Rattle.game.specs.Game.{Game, dispatcher, edit, leaves, may_leave_def, can_make, Outcome}
use Rattle.logic.proofs.Theorem.{hold-carried}
use Rattle.judge.proofs.QuestionLaws.{hold-asked, asked-hold}
use Rattle.answer.proofs.AskedLaws.{passed-same, bind-passed, then-passed}
use Rattle.game.proofs.Answer.{right}
use Rattle.carry.specs.Carrying.{ask_carried}
use Rattle.play.specs.Questions.{ask_fits, ask_game, ask_play}
use Rattle.play.specs.Right.{Answered, PlayRight}
use Rattle.play.proofs.PlayStages.{some-moves, all-passed, all_fit}

-- What passes for all edits passes for each.
pub each_fits : (rules : List (Expr rule)) (Zs : List Edit) → ask_fits rules Zs ≡ passed tt → (i : ℕ) → i < length Zs → ask_carried (carried_book (get_or Zs i finish) rules) ≡ passed tt
unfolding ask_fits
each_fits rules [] e i l = absurd (omega arith)
each_fits rules (Z ∷ Zs) e zero l = (then-passed (ask_carried (carried_book Z rules)) _ tt e).1
each_fits rules (Z ∷ Zs) e (suc i) l = each_fits rules Zs (then-passed (ask_carried (carried_book Z rules)) _ tt e).2 i (omega arith)

module _ (G : Game) (g : Graph) (i : ℕ) (l : i < length G.dispatchers) where
  abbrev carried : List (Expr rule)
  carried = carried_book (get_or G.dispatchers i finish) G.book

  made_when : can_make G dispatcher g i ≡ hold_all g carried
  unfolding can_make may_leave_def leaves
  made_when =
      ap (◌&& hold_all (leaves G dispatcher g (edit i)) G.book) (lt-ltb i (length G.dispatchers) l)
      ∙ sym (hold-carried (get_or G.dispatchers i finish) G.book g)

  pub made-entered : T (can_make G dispatcher g i) ↔ (ask_rules g carried 0 ≡ passed tt)
  made-entered = ((λ t. hold-asked g carried 0 (subst T made_when t)), (λ e. subst T (sym made_when) (asked-hold g carried 0 e)))

module _ (sheet book goal edits lengths : List ℕ) (d moves : ℕ) where
  pub answered : (x : Outcome) → ask_play sheet book goal edits lengths d moves ≡ passed x → Answered sheet book goal edits lengths d moves x
  unfolding ask_play
  answered x e =
      let (G, r, same) = bind-passed (ask_game sheet book goal edits lengths d moves) _ x e in
      let m = some-moves edits lengths d moves (all-passed sheet book goal edits lengths d moves G r).ok in
      record {
        game = G;
        read = r;
        as_many_moves = omega arith;
        is = sym (passed-same same);
        right = right G (moves - 1) (graph_of sheet);
        -- the questions passed, and the last of them for each of the dispatcher's edits
        fit = each_fits G.book G.dispatchers (all_fit sheet book goal edits lengths d moves G r);
        entered = λ g i l. made-entered G g i l;
      }

pub play-right : PlayRight
play-right = record { answered = answered }
