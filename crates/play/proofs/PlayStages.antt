-- The questions of a game, by where they stop; and what is known once they have passed.
use mathlib.Core.Path.{◌≡◌, refl, sym, ap, ◌∙◌, subst}
use mathlib.Core.Bool.{true, false, ◌&&◌}
use mathlib.Core.List.{List}
use Prim.Native.Nat.{ℕ, ◌-◌, ◌≤◌}
use native.Mathlib.Omega.{arith}
use lib.Dec.{leb}
use lib.ListN.{length, take, drop}
use lib.Seq.{length-take-le}
use borrow.Author.Tests.{eqb-true, leb-true}
use Rattle.std.specs.Prelude.{Result, Ok, Err, IfOk}
use Rattle.answer.specs.Asked.{Asked, passed, refused, ◌>>=◌, ◌>>◌, is, after, outcome}
use Rattle.answer.proofs.AnswerLaws.{Learned, learned, not-learned}
use Rattle.answer.proofs.AskedLaws.{passed-same, is-then, bind-passed, then-passed, outcome-bind}
use Rattle.logic.specs.Syntax.{Expr, rule, Edit}
use Rattle.logic.specs.Carry.{carried_book}
use Rattle.logic.specs.Limits.{ranges}
use Rattle.sheet.specs.Sheet.{graph_of}
use Rattle.sheet.specs.Questions.{ask_sheet, Sound}
use Rattle.text.specs.Reading.{Limits, text_limits}
use Rattle.text.specs.Questions.{ask_book, ask_edit, ask_rule}
use Rattle.judge.specs.Questions.{ask_sheet_and_book}
use Rattle.judge.proofs.SheetAndBook.{sheet-sound, book-passed}
use Rattle.ends.specs.Books.{SomeBook}
use Rattle.ends.proofs.RulePlaces as ends
use Rattle.game.specs.Game.{Game}
use Rattle.logic.proofs.Bools.{and_left, and_right}
use Rattle.carry.specs.Carrying.{ask_carried}
use Rattle.play.specs.Questions.{most_edits, most_moves, in_range, total, lists_right_def, ask_aims, cut, ask_edits, ask_fits, ask_game, first_refused_def, faulty_edit}
use Rattle.play.specs.declared.questions.AtEdit.{AtEdit}
use Rattle.play.specs.Standing.{EditsAt, SomeEdits, at_edit_asked}
use Rattle.play.proofs.GameEdits.{edits-stand, none-refused}

-- Lists and moves in their ranges, and lengths that fill the edits.
module _ (edits lengths : List ℕ) (d moves : ℕ) (ok : lists_right_def edits lengths d moves ≡ true) where
  in-ranges : in_range (length lengths) d moves ≡ true
  in-ranges = unfold lists_right_def in and_left (in_range (length lengths) d moves) _ ok

  from-count : (leb d (length lengths) && (leb (length lengths - d) most_edits && (leb 1 moves && leb moves most_moves))) ≡ true
  from-count = unfold in_range in and_right (leb d most_edits) _ (and_right (leb 1 d) _ in-ranges)

  pub enough : d ≤ length lengths
  enough = leb-true d (length lengths) (and_left (leb d (length lengths)) _ from-count)

  pub some-moves : 1 ≤ moves
  some-moves = leb-true 1 moves (and_left (leb 1 moves) (leb moves most_moves) (and_right (leb (length lengths - d) most_edits) _ (and_right (leb d (length lengths)) _ from-count)))

  pub filled : total lengths ≡ length edits
  filled = unfold lists_right_def in eqb-true (total lengths) (length edits) (and_right (in_range (length lengths) d moves) _ ok)

-- Sheet, book and goal.
module _ (sheet book goal : List ℕ) where
  abbrev limits : Limits
  limits = text_limits (graph_of sheet).n

  pub sheet-stops : (q p : ℕ) → refused q p ≡ ask_sheet sheet → refused q p ≡ outcome (ask_aims sheet book goal)
  sheet-stops q p e = unfold ask_aims ask_sheet_and_book outcome ◌>>=◌ ◌>>◌ in rw (sym e)

  module _ (sound : Sound sheet) {n : ℕ} (count : n ≡ (graph_of sheet).n) where
    pub book-stops : (q p : ℕ) → refused q p ≡ outcome (ask_book (text_limits n) book) → refused q p ≡ outcome (ask_aims sheet book goal)
    book-stops q p e = unfold ask_aims ask_sheet_and_book outcome ◌>>=◌ ◌>>◌ in rw (sound, sym count, not-learned (ask_book (text_limits n) book) q p e)

    pub goal-last : passed tt ≡ outcome (ask_book (text_limits n) book) → {x : Asked (Unit {0})} → x ≡ outcome (ask_rule (text_limits n) goal) → x ≡ outcome (ask_aims sheet book goal)
    goal-last e s =
        unfold ask_aims ask_sheet_and_book ◌>>=◌ ◌>>◌ in
        let B = learned (ask_book (text_limits n) book) e in
        rw (sound, sym count, B.is) (s ∙ sym (outcome-bind (ask_rule (text_limits n) goal) (λ aim. (B.what, aim))))

  -- What is known about them once they have passed.
  pub record AimsRead (aims : List (Expr rule) × Expr rule) : Type 0 where
    pub sound : Sound sheet
    pub book-is : ask_book limits book ≡ passed aims.0
    pub goal-is : ask_rule limits goal ≡ passed aims.1

  pub aims-read : (aims : List (Expr rule) × Expr rule) → ask_aims sheet book goal ≡ passed aims → AimsRead aims
  unfolding ask_aims
  aims-read aims e =
      let (rules, both, goes) = bind-passed (ask_sheet_and_book sheet book) _ aims e in
      let (aim, goal-read, same) = bind-passed (ask_rule limits goal) _ aims goes in
      record { sound = sheet-sound _ _ both; book-is = book-passed _ _ both ∙ ap (λ x. passed x.0) (passed-same same); goal-is = goal-read ∙ ap (λ x. passed x.1) (passed-same same) }

module _ (sheet book goal edits lengths : List ℕ) (d moves : ℕ) where
  abbrev reads : Limits
  reads = text_limits (graph_of sheet).n

  abbrev pub game_of : List (Expr rule) → Expr rule → List Edit → Game
  game_of rules aim Zs = record { book = rules; goal = aim; dispatchers = take d Zs; disruptions = drop d Zs }

  abbrev All : Asked Game
  All = ask_game sheet book goal edits lengths d moves

  -- A refusal, and the edit with it.
  abbrev Stops : (q p edit : ℕ) → Type 0
  Stops q p edit = (refused q p ≡ outcome All) × (edit ≡ faulty_edit sheet book goal edits lengths d moves)

  pub lists-stop : lists_right_def edits lengths d moves ≡ false → Stops 62 0 0
  lists-stop e = unfold ask_game faulty_edit is ◌>>◌ outcome after in (rw e, rw e)

  module _ (ok : lists_right_def edits lengths d moves ≡ true) where
    pub aims-stop : (q p : ℕ) → refused q p ≡ outcome (ask_aims sheet book goal) → Stops q p 0
    aims-stop q p e = unfold ask_game faulty_edit is ◌>>◌ ◌>>=◌ outcome after in let z = not-learned (ask_aims sheet book goal) q p e in (rw (ok, z), rw (ok, z))

    module _ (A : Learned (ask_aims sheet book goal)) where
      pub edits-stop : (q p : ℕ) → refused q p ≡ outcome (ask_edits reads (cut edits lengths)) → (edit : ℕ) → edit ≡ first_refused_def (ask_edit reads) (cut edits lengths) → Stops q p edit
      unfolding ask_game faulty_edit is ◌>>◌ ◌>>=◌ outcome after
      edits-stop q p e edit f = let z = not-learned (ask_edits reads (cut edits lengths)) q p e in (rw (ok, A.is, z), rw (ok, A.is, z) f)

      module _ (E : Learned (ask_edits reads (cut edits lengths))) where
        pub fits_last : {x : Asked (Unit {0})} → x ≡ ask_fits A.what.0 (take d E.what) → x ≡ outcome All
        unfolding ask_game is ◌>>◌ ◌>>=◌ outcome
        fits_last s = rw (ok, A.is, E.is) (s ∙ last (ask_fits A.what.0 (take d E.what))) where
          last : (y : Asked (Unit {0})) → y ≡ outcome (y >> passed (game_of A.what.0 A.what.1 E.what))
          last (passed u) = refl
          last (refused q p) = refl

        pub fits-faulty : (edit : ℕ) → edit ≡ first_refused_def (λ Z. ask_carried (carried_book Z A.what.0)) (take d E.what) → edit ≡ faulty_edit sheet book goal edits lengths d moves
        unfolding faulty_edit is ◌>>◌ after
        fits-faulty edit f = rw (ok, A.is, E.is) f

        -- None is refused: the number is that of the dispatcher's edits.
        pub none-faulty : (r : Result (Unit {0}) AtEdit) → at_edit_asked r ≡ ask_fits A.what.0 (take d E.what) → IfOk r (λ u. faulty_edit sheet book goal edits lengths d moves ≡ d)
        none-faulty (Ok u) s =
            let many = (edits-stand (graph_of sheet).n edits lengths E.what E.is).many in
            let all : length (take d E.what) ≡ d = length-take-le d E.what (omega (arith, many, enough edits lengths d moves ok)) in
            sym (fits-faulty d (sym (none-refused A.what.0 E.what d (take d E.what) s ∙ all)))
        none-faulty (Err e) s = tt

    -- What carrying back requires of book and edits.
    module _ (E : Learned (ask_edits reads (cut edits lengths))) where
      abbrev pub edits-at : EditsAt edits d E.what
      edits-at = let s = edits-stand (graph_of sheet).n edits lengths E.what E.is in record { limits = ranges (graph_of sheet).n; stand = s.stand; enough = omega (arith, s.many, enough edits lengths d moves ok) }

      pub both_read : (rules : List (Expr rule)) → ask_book reads book ≡ passed rules → SomeBook book × SomeEdits edits d
      both_read rules B = (record { what = rules; is = ends.book-passed reads B }, record { what = E.what; are = edits-at })

  -- All have passed.
  pub record Passed (G : Game) : Type 0 where
    pub ok : lists_right_def edits lengths d moves ≡ true
    pub sound : Sound sheet
    pub book_read : Learned (ask_book reads book)
    pub goal-read : Learned (ask_rule reads goal)
    pub edits-read : Learned (ask_edits reads (cut edits lengths))
    pub is : game_of book_read.what goal-read.what edits-read.what ≡ G
    pub fit : ask_fits book_read.what (take d edits-read.what) ≡ passed tt

  pub all-passed : (G : Game) → All ≡ passed G → Passed G
  unfolding ask_game
  all-passed G e =
      let (ok, from-aims) = is-then (lists_right_def edits lengths d moves) 62 0 _ e in
      let (aims, aims-are, from-edits) = bind-passed (ask_aims sheet book goal) _ G from-aims in
      let (Zs, edits-are, from-fits) = bind-passed (ask_edits reads (cut edits lengths)) _ G from-edits in
      let (u, fit, same) = then-passed (ask_fits aims.0 (take d Zs)) _ G from-fits in
      let a = aims-read sheet book goal aims aims-are in
      record {
        ok = ok;
        sound = a.sound;
        book_read = record { what = aims.0; is = a.book-is };
        goal-read = record { what = aims.1; is = a.goal-is };
        edits-read = record { what = Zs; is = edits-are };
        is = passed-same same;
        fit = fit;
      }

  pub all_fit : (G : Game) → All ≡ passed G → ask_fits G.book G.dispatchers ≡ passed tt
  all_fit G e = let p = all-passed G e in subst (λ (H : Game). ask_fits H.book H.dispatchers ≡ passed tt) p.is p.fit
