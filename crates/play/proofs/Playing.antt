-- The call, once its questions are answered: the game that is searched, and its outcome.
use mathlib.Core.Path.{◌≡◌, sym, ap, ◌∙◌, subst}
use mathlib.Core.Bool.{Bool, true, false}
use mathlib.Core.List.{List, [], ◌∷◌}
use Prim.Native.Nat.{ℕ, zero, suc, ◌+◌, ◌-◌}
use native.Mathlib.Omega.{arith}
use lib.ListN.{length, take, drop, length-drop}
use lib.Seq.{length-take-le}
use Rattle.answer.specs.Asked.{passed, refused, ◌>>=◌, outcome}
use Rattle.answer.proofs.AnswerLaws.{Learned, learned, not-learned}
use Rattle.logic.specs.Syntax.{Edit}
use Rattle.logic.specs.Limits.{Ranges, ranges}
use Rattle.sheet.specs.Sheet.{graph_of}
use Rattle.text.specs.Code.{edit_code}
use Rattle.text.specs.Reading.{text_limits}
use Rattle.judge.proofs.RulesJudged.{read-book-stands}
use Rattle.game.specs.Game.{Game, edits_of}
use Rattle.game.specs.Search.{side_of, chosen}
use Rattle.game.proofs.Chosen.{chosen-answer}
use Rattle.play.specs.declared.search.Lists.{Lists}
use Rattle.play.specs.declared.search.Found.{Found}
use Rattle.play.specs.Questions.{ask_game, ask_play}
use Rattle.play.specs.Standing.{EditsStand, count_of, start_of, EditsAt, GameStands, outcome_of}
use Rattle.play.proofs.GameEdits.{edits-stand}
use Rattle.play.proofs.Goal.{goal-stands}
use Rattle.play.proofs.PlayStages.{enough, game_of, Passed, all-passed, edits-at}

-- The first of the edits that stand there stand there.
first-stand : (r : Ranges) (text : List ℕ) (m at : ℕ) (Zs : List Edit) → EditsStand r text at Zs → EditsStand r text at (take m Zs)
unfolding EditsStand
first-stand r text zero at Zs s = tt
first-stand r text (suc m) at [] s = tt
first-stand r text (suc m) at (Z ∷ Zs) s = (s.0, s.1, first-stand r text m (at + length (edit_code Z)) Zs s.2)

module _ (sheet book goal edits lengths : List ℕ) (d moves : ℕ) where
  -- A question stops.
  pub game-stops : (q p : ℕ) → refused q p ≡ outcome (ask_game sheet book goal edits lengths d moves) → refused q p ≡ ask_play sheet book goal edits lengths d moves
  game-stops q p e = unfold ask_play ◌>>=◌ in rw (not-learned (ask_game sheet book goal edits lengths d moves) q p e)

  -- All pass.
  module _ (e : passed tt ≡ outcome (ask_game sheet book goal edits lengths d moves)) where
    abbrev read : Learned (ask_game sheet book goal edits lengths d moves)
    read = learned _ e

    pub known : Passed sheet book goal edits lengths d moves read.what
    known = all-passed sheet book goal edits lengths d moves read.what read.is

    pub texts-stand : EditsAt edits d known.edits-read.what
    texts-stand = edits-at sheet book goal edits lengths d moves known.ok known.edits-read

    module _ (second : ℕ) (later : (Zs : List Edit) (t : EditsAt edits d Zs) → EditsStand t.limits edits second (drop d Zs)) where
      abbrev lists : Lists
      lists = record { ours = d; second = second; theirs = length lengths - d }

      pub game-stands : GameStands (graph_of sheet).n book goal edits lists read.what
      game-stands =
          let Zs = known.edits-read.what in
          let t = edits-stand (graph_of sheet).n edits lengths Zs known.edits-read.is in
          subst (GameStands (graph_of sheet).n book goal edits lists) known.is
          (record {
            rules = read-book-stands (text_limits (graph_of sheet).n) known.book_read.is;
            aim = goal-stands (text_limits (graph_of sheet).n) goal known.goal-read.what known.goal-read.is;
            stand = λ (ours : Bool). elim ours as (λ b. EditsStand (ranges (graph_of sheet).n) edits (start_of lists b) (edits_of (game_of sheet book goal edits lengths d moves known.book_read.what known.goal-read.what Zs) (side_of b))) [
              | true ↦ first-stand (ranges (graph_of sheet).n) edits d 0 Zs t.stand
              | false ↦ later Zs (edits-at sheet book goal edits lengths d moves known.ok known.edits-read)
            ];
            counted = λ (ours : Bool). elim ours as (λ b. count_of lists b ≡ length (edits_of (game_of sheet book goal edits lengths d moves known.book_read.what known.goal-read.what Zs) (side_of b))) [
              | true ↦ sym (length-take-le d Zs (omega (arith, t.many, enough edits lengths d moves known.ok)))
              | false ↦ ap (λ (k : ℕ). k - d) (sym t.many) ∙ sym (length-drop d Zs)
            ];
          })

      -- The search has found this.
      pub found-is : (f : Found) → ((G : Game) → GameStands (graph_of sheet).n book goal edits lists G → outcome_of f ≡ chosen G (moves - 1) true (graph_of sheet)) → passed (outcome_of f) ≡ ask_play sheet book goal edits lengths d moves
      found-is f w = unfold ask_play ◌>>=◌ in rw read.is (ap passed (w read.what game-stands ∙ chosen-answer read.what (moves - 1) (graph_of sheet)))
