-- Moves by calls: a dispatcher's edit can be made where enter enters it, a disruption's is carried out by apply.
use mathlib.Core.Path.{◌≡◌, refl, sym, ap, ◌∙◌, subst}
use mathlib.Core.Logic.{◌↔◌}
use mathlib.Core.List.{List, [], ◌∷◌}
use Prim.Native.Nat.{ℕ, zero, suc, ◌+◌, ◌≤◌, ◌<◌}
use native.Mathlib.Omega.{arith}
use lib.Dec.{T}
use lib.ListN.{length, get_or, take, drop, length-drop}
use lib.Seq.{get_or-take, get_or-drop, length-take-le}
use Rattle.answer.specs.Asked.{passed, outcome}
use Rattle.logic.specs.Syntax.{Expr, rule, Edit, finish}
use Rattle.logic.specs.Steps.{run}
use Rattle.logic.specs.Carry.{carried_book}
use Rattle.logic.proofs.Inside.{run-n}
use Rattle.sheet.specs.Sheet.{graph_in, graph_of}
use Rattle.store.proofs.StoredBytes.{store-small}
use Rattle.text.specs.Reading.{Limits, text_limits}
use Rattle.text.specs.Questions.{ask_book, ask_edit}
use Rattle.runs.specs.Scratch.{longest_rule_def, ask_scratch}
use Rattle.apply.specs.Apply.{after_steps, ask_apply}
use Rattle.runs.specs.Enter.{enter_answer}
use Rattle.runs.specs.Run.{Given}
use Rattle.answer.proofs.AskedLaws.{passed-same, bind-passed}
use Rattle.judge.proofs.QuestionLaws.{hold-asked, asked-hold}
use Rattle.runs.proofs.After.{applied-is, applies, after-sound, after-graph, after-n}
use Rattle.runs.proofs.ScratchLaws.{long-enough}
use Rattle.runs.proofs.Demand3.{demand_3, entered-hold}
use Rattle.game.specs.Game.{Side, dispatcher, disruption, Game, edits_of, leaves, can_make}
use Rattle.play.specs.Questions.{cut, ask_edits}
use Rattle.play.proofs.GameEdits.{edits-stand}
use Rattle.play.proofs.PlayStages.{Passed, all-passed, enough, game_of}
use Rattle.play.proofs.Right.{each_fits, made-entered}
use Rattle.promises.specs.Played.{Held, Made, ByCalls, PlayedByCalls}

-- Each text reads as the edit of its number.
each_read : (l : Limits) (ts : List (List ℕ)) (Zs : List Edit) → ask_edits l ts ≡ passed Zs → (i : ℕ) → i < length Zs → ask_edit l (get_or ts i []) ≡ passed (get_or Zs i finish)
unfolding ask_edits
each_read l [] Zs e i h = let same : [] ≡ Zs = passed-same e in absurd (omega (arith, ap length same))
each_read l (t ∷ ts) Zs e i h =
    let (Z, r, e₁) = bind-passed (ask_edit l t) _ Zs e in
    let (Ys, rs, e₂) = bind-passed (ask_edits l ts) _ Zs e₁ in
    let same : Z ∷ Ys ≡ Zs = passed-same e₂ in
    subst (λ Xs. i < length Xs → ask_edit l (get_or (t ∷ ts) i []) ≡ passed (get_or Xs i finish)) same (go Z Ys r (λ j k. each_read l ts Ys rs j k) i) h where
      go : (Z : Edit) (Ys : List Edit) → ask_edit l t ≡ passed Z → ((j : ℕ) → j < length Ys → ask_edit l (get_or ts j []) ≡ passed (get_or Ys j finish)) → (i : ℕ) → i < suc (length Ys)
          → ask_edit l (get_or (t ∷ ts) i []) ≡ passed (get_or (Z ∷ Ys) i finish)
      go Z Ys r rest zero h = r
      go Z Ys r rest (suc i) h = rest i (omega arith)

-- The sheet that the steps of an edit leave is one that the game may reach.
module _ (nodes : ℕ) (sheet : List ℕ) (k : Held nodes sheet) (text : List ℕ) (Z : Edit) (read : ask_edit (text_limits nodes) text ≡ passed Z) where
  edit_read : ask_edit (text_limits (graph_of sheet).n) text ≡ passed Z
  edit_read = subst (λ n. ask_edit (text_limits n) text ≡ passed Z) (sym k.as_many) read

  few : (run Z (graph_of sheet)).n < 256
  few = unfold graph_in in omega (arith, run-n Z (graph_of sheet), k.are_bytes 2)

  left : Held nodes (after_steps Z sheet)
  left = record {
    are_bytes = store-small (run Z (graph_of sheet)) few;
    sound = after-sound sheet k.are_bytes k.sound text Z edit_read;
    as_many = after-n sheet k.are_bytes k.sound text Z edit_read ∙ k.as_many;
  }

  made : (G : Game) (s : Side) (i : ℕ) → get_or (edits_of G s) i finish ≡ Z → (after : List ℕ) → after ≡ after_steps Z sheet → Made nodes G s i sheet after
  unfolding leaves
  made G s i e after a =
      subst (Made nodes G s i sheet) (sym a) (record {
        held = left;
        graph = after-graph sheet k.are_bytes k.sound text Z edit_read ∙ ap (λ Y. run Y (graph_of sheet)) (sym e);
      })

-- A game as it is read: its rules, its aim and all its edits, the first d of them the dispatcher's.
module _ (sheet book goal edits lengths : List ℕ) (d moves : ℕ) (G : Game) (p : Passed sheet book goal edits lengths d moves G) where
  abbrev nodes : ℕ
  nodes = (graph_of sheet).n

  abbrev rules : List (Expr rule)
  rules = p.book_read.what

  abbrev Zs : List Edit
  Zs = p.edits-read.what

  abbrev read : Game
  read = game_of sheet book goal edits lengths d moves rules p.goal-read.what Zs

  abbrev texts : List (List ℕ)
  texts = cut edits lengths

  as_many : d ≤ length Zs
  as_many = omega (arith, (edits-stand nodes edits lengths Zs p.edits-read.is).many, enough edits lengths d moves p.ok)

  first-d : length (take d Zs) ≡ d
  first-d = length-take-le d Zs as_many

  dispatcher-read : (i : ℕ) → i < length (take d Zs) → ask_edit (text_limits nodes) (get_or texts i []) ≡ passed (get_or (take d Zs) i finish)
  dispatcher-read i l =
      let first : i < d = omega (arith, first-d) in
      each_read (text_limits nodes) texts Zs p.edits-read.is i (omega (arith, as_many)) ∙ ap passed (sym (get_or-take d Zs i finish first))

  disruption-read : (i : ℕ) → i < length (drop d Zs) → ask_edit (text_limits nodes) (get_or texts (length (take d Zs) + i) []) ≡ passed (get_or (drop d Zs) i finish)
  disruption-read i l =
      ap (λ m. ask_edit (text_limits nodes) (get_or texts (m + i) [])) first-d
      ∙ each_read (text_limits nodes) texts Zs p.edits-read.is (d + i) (omega (arith, length-drop d Zs)) ∙ ap passed (sym (get_or-drop d Zs i finish))

  module _ (held : List ℕ) (k : Held nodes held) where
    abbrev for-enter : (i : ℕ) → i < length (take d Zs) → Given book (get_or texts i []) held
    for-enter i l = record {
      are_bytes = k.are_bytes;
      sound = k.sound;
      rules = rules;
      book_read = subst (λ n. ask_book (text_limits n) book ≡ passed rules) (sym k.as_many) p.book_read.is;
      steps = get_or (take d Zs) i finish;
      edit_read = edit_read nodes held k (get_or texts i []) (get_or (take d Zs) i finish) (dispatcher-read i l);
    }

    can-make : (i : ℕ) (l : i < length (take d Zs)) (room : ℕ) → longest_rule_def (carried_book (get_or (take d Zs) i finish) rules) ≤ room
        → T (can_make read dispatcher (graph_of held) i) ↔ (enter_answer held book (get_or texts i []) room ≡ passed tt)
    unfolding ask_scratch
    can-make i l room h =
        let carried : List (Expr rule) = carried_book (get_or (take d Zs) i finish) rules in
        let m = made-entered read (graph_of held) i l in
        let w = demand_3.entered_when (for-enter i l) room (long-enough carried (each_fits rules (take d Zs) p.fit i l) (longest_rule_def carried) room h) in
        ((λ t. w.1 (asked-hold (graph_of held) carried 0 (m.0 t))), (λ e. m.1 (hold-asked (graph_of held) carried 0 (w.0 e))))

    made_if : (i : ℕ) → i < length (take d Zs) → (room : ℕ) → enter_answer held book (get_or texts i []) room ≡ passed tt → T (can_make read dispatcher (graph_of held) i)
    made_if i l room e = (made-entered read (graph_of held) i l).1 (hold-asked (graph_of held) (carried_book (get_or (take d Zs) i finish) rules) 0 (entered-hold (for-enter i l) room e))

    by-calls-read : ByCalls nodes book texts read held
    unfolding outcome
    by-calls-read = record {
      made_when = can-make;
      made_if = made_if;
      entered = λ i l room e. made nodes held k (get_or texts i []) (get_or (take d Zs) i finish) (dispatcher-read i l) read dispatcher i refl _ (demand_3.entered_leaves (for-enter i l) room e);
      applies = λ i l. ap outcome (carried-out i l);
      applied = λ i l. made nodes held k (get_or texts (length (take d Zs) + i) []) (get_or (drop d Zs) i finish) (disruption-read i l) read disruption i refl _ (applied-is held _ _ (carried-out i l));
    } where
      carried-out : (i : ℕ) → i < length (drop d Zs) → ask_apply held (get_or texts (length (take d Zs) + i) []) ≡ passed (get_or (drop d Zs) i finish)
      carried-out i l = applies held _ _ k.sound (edit_read nodes held k _ _ (disruption-read i l))

    pub by-calls : ByCalls nodes book texts G held
    by-calls = subst (λ H. ByCalls nodes book texts H held) p.is by-calls-read

-- As many of the texts belong to a side as the game has edits for it.
length_cut : (edits lengths : List ℕ) → length (cut edits lengths) ≡ length lengths
unfolding cut
length_cut edits [] = refl
length_cut edits (l ∷ ls) = ap suc (length_cut (drop l edits) ls)

pub lists-split : (sheet book goal edits lengths : List ℕ) (d moves : ℕ) (G : Game) → Passed sheet book goal edits lengths d moves G
    → (length G.dispatchers ≡ d) × (length (cut edits lengths) ≡ length G.dispatchers + length G.disruptions)
lists-split sheet book goal edits lengths d moves G p =
    let Zs = p.edits-read.what in
    let many = (edits-stand (graph_of sheet).n edits lengths Zs p.edits-read.is).many in
    let d-of = first-d sheet book goal edits lengths d moves G p in
    subst (λ H. (length H.dispatchers ≡ d) × (length (cut edits lengths) ≡ length H.dispatchers + length H.disruptions)) p.is
    (d-of, omega (arith, length_cut edits lengths, many, d-of, length-drop d Zs, as_many sheet book goal edits lengths d moves G p))

pub played-by-calls : PlayedByCalls
played-by-calls = record {
  given = λ sheet book goal edits lengths d moves G e bytes. record { are_bytes = bytes; sound = (all-passed sheet book goal edits lengths d moves G e).sound; as_many = refl };
  each = λ sheet book goal edits lengths d moves G e held k. by-calls sheet book goal edits lengths d moves G (all-passed sheet book goal edits lengths d moves G e) held k;
}
