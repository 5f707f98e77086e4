-- Courses by calls: each move by a call is one of the game, each of the game is one by a call.
use mathlib.Core.Path.{◌≡◌, refl, sym, ap, ◌∙◌, subst}
use mathlib.Core.Bool.{Bool, true, false, not, ◌&&◌}
use mathlib.Core.Logic.{◌↔◌}
use mathlib.Core.List.{List, [], ◌∷◌}
use Prim.Native.Nat.{ℕ, zero, suc, ◌+◌, ◌-◌, ◌<◌}
use native.Mathlib.Omega.{arith}
use borrow.Author.Tests.{lt-ltb}
use lib.Dec.{T}
use lib.ListN.{length, get_or}
use Rattle.answer.specs.Asked.{Asked, passed, refused, ◌>>=◌, ◌>>◌, is}
use Rattle.answer.proofs.AskedLaws.{refused-not-passed}
use Rattle.logic.specs.Syntax.{finish}
use Rattle.logic.specs.Graph.{Graph}
use Rattle.logic.specs.Meaning.{value, hold_all}
use Rattle.logic.specs.Carry.{carried_book}
use Rattle.logic.proofs.Below.{any_none, any-one}
use Rattle.sheet.specs.Sheet.{graph_of}
use Rattle.text.specs.Reading.{text_limits}
use Rattle.text.specs.Questions.{ask_book}
use Rattle.judge.specs.Questions.{ask_rules, ask_sheet_and_book, ask_judge}
use Rattle.runs.specs.Scratch.{longest_rule_def}
use Rattle.apply.specs.Apply.{applied_sheet}
use Rattle.runs.specs.Enter.{enter_sheet}
use Rattle.bitset.specs.Words.{Bytes}
use Rattle.judge.proofs.QuestionLaws.{hold-asked, asked-hold}
use Rattle.game.specs.Game.{Side, dispatcher, disruption, Game, Move, pass, edit, edits_of, leaves, may_leave_def, can_make, legal, Outcome, cannot, first, answer}
use Rattle.game.specs.Strategies.{Strategy, continued, Replies, Course, ended, wrong, course, Legal, Won, Broken, Wins, AlwaysLegal, SomeBreaks, Begins, Right}
use Rattle.logic.proofs.Bools.{both_so, so-both, true-false, so, is_true, is_false}
use Rattle.game.proofs.Search.{edit-below}
use Rattle.game.proofs.Strategies.{dispatcher-moves, disruption-moves, first-legal, won-legal}
use Rattle.play.specs.Questions.{cut, ask_game, ask_play}
use Rattle.play.proofs.Goal.{goal-read}
use Rattle.play.proofs.PlayStages.{all-passed}
use Rattle.play.proofs.Right.{play-right}
use Rattle.promises.specs.Played.{Held, Made, ByCalls}
use Rattle.promises.specs.Course.{Lent, Makes, Moves, Calls, Follows, WinsByCalls, BrokenByCalls, OverBytes, BeginsByCalls, StatedByCalls}
use Rattle.promises.proofs.Played.{played-by-calls, lists-split}

-- A game whose moves are calls, on each sheet that it may reach.
module _ (nodes : ℕ) (book : List ℕ) (texts : List (List ℕ)) (G : Game) (split : length texts ≡ length G.dispatchers + length G.disruptions)
    (by-calls : (sheet : List ℕ) → Held nodes sheet → ByCalls nodes book texts G sheet) where
  abbrev lent : Lent
  lent = record { book = book; texts = texts; dispatchers = length G.dispatchers }

  module _ (sheet : List ℕ) (k : Held nodes sheet) where
    abbrev g : Graph
    g = graph_of sheet

    -- A call makes an edit exactly when it can be made.
    can : (s : Side) (i : ℕ) (next : List ℕ) → Makes lent s sheet i next → (can_make G s g i ≡ true) × Made nodes G s i sheet next
    unfolding Makes can_make may_leave_def
    can dispatcher i next (l, room, e, n) =
        let b = by-calls sheet k in
        (is_true (can_make G dispatcher g i) (b.made_if i l room e), subst (Made nodes G dispatcher i sheet) (sym n) (b.entered i l room e))
    can disruption i next (l, e, n) =
        let b = by-calls sheet k in
        let below : i < length G.disruptions = omega (arith, split) in
        (ap (◌&& true) (lt-ltb i (length G.disruptions) below), subst (Made nodes G disruption i sheet) (sym n) (b.applied i below))

    makes : (s : Side) (i : ℕ) → can_make G s g i ≡ true → (next : List ℕ) × Makes lent s sheet i next
    unfolding Makes legal
    makes dispatcher i c =
        let b = by-calls sheet k in
        let l = edit-below G dispatcher g i c in
        let room = longest_rule_def (carried_book (get_or G.dispatchers i finish) G.book) in
        (enter_sheet sheet book (get_or texts i []) room, (l, room, (b.made_when i l room (omega arith)).0 (so c), refl))
    makes disruption i c =
        let b = by-calls sheet k in
        let l = edit-below G disruption g i c in
        (applied_sheet sheet (get_or texts (length G.dispatchers + i) []), (omega (arith, split), b.applies i l, refl))

    -- So a move is one of the game, and leaves its graph.
    pub record OfGame (s : Side) (x : Move) (next : List ℕ) : Type 0 where
      pub may : legal G s g x ≡ true
      pub held : Held nodes next
      pub graph : graph_of next ≡ leaves G s g x

    of-game : (s : Side) (x : Move) (next : List ℕ) → Moves lent s sheet x next → OfGame s x next
    unfolding Moves legal leaves
    of-game s (edit i) next m = let (c, d) = can s i next m in record { may = c; held = d.held; graph = d.graph }
    of-game s pass next (none, n) = record {
      may = ap not (any_none (length (edits_of G s)) (can_make G s g) (λ i l. is_false (can_make G s g i) (λ c. let (other, m) = makes s i c in none i other m)));
      held = subst (Held nodes) (sym n) k;
      graph = ap graph_of n;
    }

    by_call : (s : Side) (x : Move) → legal G s g x ≡ true → (next : List ℕ) × Moves lent s sheet x next
    unfolding Moves legal
    by_call s (edit i) a = makes s i a
    by_call s pass a =
        (sheet, ((λ i other m. let c = (can s i other m).0 in true-false a (ap not (any-one (length (edits_of G s)) (can_make G s g) i (edit-below G s g i c) c))), refl))

  -- A course by calls is one of the game,
  pub record AsGame (m : ℕ) (s : Side) (sheet : List ℕ) (p : Strategy) (q : Replies) (last : List ℕ) : Type 0 where
    pub held : Held nodes last
    pub ends : course G m s (graph_of sheet) p q ≡ ended (graph_of last)

  as-game : (m : ℕ) (s : Side) (sheet : List ℕ) → Held nodes sheet → (p : Strategy) (q : Replies) (last : List ℕ) → Calls lent m s sheet p q last → AsGame m s sheet p q last
  unfolding Calls course
  as-game zero s sheet k p q last e = record { held = subst (Held nodes) (sym e) k; ends = ap (λ t. ended (graph_of t)) (sym e) }
  as-game (suc m) dispatcher sheet k p q last (next, move, rest) =
      let o = of-game sheet k dispatcher (p []) next move in
      let r = as-game m disruption next o.held (continued p (p [])) q last rest in
      record { held = r.held; ends = dispatcher-moves G m (graph_of sheet) p q o.may ∙ ap (λ h. course G m disruption h (continued p (p [])) q) (sym o.graph) ∙ r.ends }
  as-game (suc m) disruption sheet k p [] last c = absurd c
  as-game (suc m) disruption sheet k p (x ∷ q) last (next, move, rest) =
      let o = of-game sheet k disruption x next move in
      let r = as-game m dispatcher next o.held (continued p x) q last rest in
      record { held = r.held; ends = disruption-moves G m (graph_of sheet) p x q o.may ∙ ap (λ h. course G m dispatcher h (continued p x) q) (sym o.graph) ∙ r.ends }

  -- and each course of the game that ends is one by calls: a move, and what follows it.
  module _ (sheet : List ℕ) (k : Held nodes sheet) (s : Side) (x : Move) (rest : Graph → Course) (h : Graph) (then : List ℕ → List ℕ → Type 0)
      (others : (next : List ℕ) → Held nodes next → rest (graph_of next) ≡ ended h → (last : List ℕ) × then next last) where
    one_more : (b : Bool) → legal G s (graph_of sheet) x ≡ b → (elim b as (λ c. Course) [ true ↦ rest (leaves G s (graph_of sheet) x) | false ↦ wrong s ]) ≡ ended h
        → (last : List ℕ) × ((next : List ℕ) × Moves lent s sheet x next × then next last)
    one_more false a c = let z : ◌≡◌ {A = ℕ} 0 1 = cc in absurd (omega arith)
    one_more true a c =
        let (next, move) = by_call sheet k s x a in
        let o = of-game sheet k s x next move in
        let (last, t) = others next o.held (ap rest o.graph ∙ c) in
        (last, (next, move, t))

  as-calls : (m : ℕ) (s : Side) (sheet : List ℕ) → Held nodes sheet → (p : Strategy) (q : Replies) (h : Graph) → course G m s (graph_of sheet) p q ≡ ended h → (last : List ℕ) × Calls lent m s sheet p q last
  unfolding Calls course
  as-calls zero s sheet k p q h e = (sheet, refl)
  as-calls (suc m) dispatcher sheet k p q h e =
      one_more sheet k dispatcher (p []) (λ f. course G m disruption f (continued p (p [])) q) h (λ next last. Calls lent m disruption next (continued p (p [])) q last)
      (λ next held c. as-calls m disruption next held (continued p (p [])) q h c) (legal G dispatcher (graph_of sheet) (p [])) refl e
  as-calls (suc m) disruption sheet k p [] h e = let z : ◌≡◌ {A = ℕ} 0 1 = cc in absurd (omega arith)
  as-calls (suc m) disruption sheet k p (x ∷ q) h e =
      one_more sheet k disruption x (λ f. course G m dispatcher f (continued p x) q) h (λ next last. Calls lent m dispatcher next (continued p x) q last)
      (λ next held c. as-calls m dispatcher next held (continued p x) q h c) (legal G disruption (graph_of sheet) x) refl e

  -- A strategy that can be followed by calls names no move that cannot be made, and the other way round.
  module _ (sheet : List ℕ) (k : Held nodes sheet) (x : Move) (rest : Graph → Course) (others : (next : List ℕ) → Held nodes next → Moves lent disruption sheet x next → Legal (rest (graph_of next))) where
    legal-move : (b : Bool) → legal G disruption (graph_of sheet) x ≡ b → Legal (elim b as (λ c. Course) [ true ↦ rest (leaves G disruption (graph_of sheet) x) | false ↦ wrong disruption ])
    legal-move false a = tt
    legal-move true a =
        let (next, move) = by_call sheet k disruption x a in
        let o = of-game sheet k disruption x next move in
        subst (λ f. Legal (rest f)) o.graph (others next o.held move)

  follow-legal : (m : ℕ) (s : Side) (sheet : List ℕ) → Held nodes sheet → (p : Strategy) → Follows lent m s sheet p → (q : Replies) → Legal (course G m s (graph_of sheet) p q)
  unfolding Follows course
  follow-legal zero s sheet k p f q = tt
  follow-legal (suc m) dispatcher sheet k p (next, move, f) q =
      let o = of-game sheet k dispatcher (p []) next move in
      subst Legal (sym (dispatcher-moves G m (graph_of sheet) p q o.may ∙ ap (λ h. course G m disruption h (continued p (p [])) q) (sym o.graph)))
      (follow-legal m disruption next o.held (continued p (p [])) f q)
  follow-legal (suc m) disruption sheet k p f [] = tt
  follow-legal (suc m) disruption sheet k p f (x ∷ q) =
      legal-move sheet k x (λ h. course G m dispatcher h (continued p x) q) (λ next held move. follow-legal m dispatcher next held (continued p x) (f x next move) q)
      (legal G disruption (graph_of sheet) x) refl

  legal-follow : (m : ℕ) (s : Side) (sheet : List ℕ) → Held nodes sheet → (p : Strategy) → AlwaysLegal G m s (graph_of sheet) p → Follows lent m s sheet p
  unfolding Follows
  legal-follow zero s sheet k p f = tt
  legal-follow (suc m) dispatcher sheet k p f =
      let a = first-legal G m (graph_of sheet) p f in
      let (next, move) = by_call sheet k dispatcher (p []) a in
      let o = of-game sheet k dispatcher (p []) next move in
      let rest = legal-follow m disruption next o.held (continued p (p [])) (λ q. subst Legal (dispatcher-moves G m (graph_of sheet) p q a ∙ ap (λ h. course G m disruption h (continued p (p [])) q) (sym o.graph)) (f q)) in
      (next, move, rest)
  legal-follow (suc m) disruption sheet k p f = λ x next move.
      let o = of-game sheet k disruption x next move in
      legal-follow m dispatcher next o.held (continued p x) (λ q. subst Legal (disruption-moves G m (graph_of sheet) p x q o.may ∙ ap (λ h. course G m dispatcher h (continued p x) q) (sym o.graph)) (f (x ∷ q)))

  -- Judge, for the goal.
  module _ (goal : List ℕ) (read : ask_book (text_limits nodes) goal ≡ passed (G.goal ∷ [])) where
    judge-asks : (sheet : List ℕ) → Held nodes sheet → ask_judge sheet goal ≡ ask_rules (graph_of sheet) (G.goal ∷ []) 0
    unfolding ask_judge ask_sheet_and_book ◌>>◌ ◌>>=◌
    judge-asks sheet k =
        let there : ask_book (text_limits (graph_of sheet).n) goal ≡ passed (G.goal ∷ []) = subst (λ n. ask_book (text_limits n) goal ≡ passed (G.goal ∷ [])) (sym k.as_many) read in
        rw (k.sound, there)

    judged : (sheet : List ℕ) → Held nodes sheet → T (value (graph_of sheet) G.goal) ↔ (ask_judge sheet goal ≡ passed tt)
    unfolding hold_all
    judged sheet k = (
      (λ t. judge-asks sheet k ∙ hold-asked (graph_of sheet) (G.goal ∷ []) 0 (so-both (value (graph_of sheet) G.goal) true t tt)),
      (λ e. (both_so (value (graph_of sheet) G.goal) true (asked-hold (graph_of sheet) (G.goal ∷ []) 0 (sym (judge-asks sheet k) ∙ e))).0),
    )

    judged-broken : (sheet : List ℕ) → Held nodes sheet → T (not (value (graph_of sheet) G.goal)) ↔ (ask_judge sheet goal ≡ refused 41 0)
    unfolding ask_rules is ◌>>◌
    judged-broken sheet k = subst (λ (a : Asked (Unit {0})). T (not (value (graph_of sheet) G.goal)) ↔ (a ≡ refused 41 0)) (sym (judge-asks sheet k)) (go (value (graph_of sheet) G.goal))
      where
        go : (b : Bool) → T (not b) ↔ (◌≡◌ {A = Asked (Unit {0})} (is b 41 0 >> passed tt) (refused 41 0))
        go true = ((λ t. absurd t), (λ e. refused-not-passed (sym e)))
        go false = ((λ t. refl), (λ e. tt))

    module _ (sheet : List ℕ) (k : Held nodes sheet) (m : ℕ) (p : Strategy) where
      abbrev Comes : Replies → Course
      Comes q = course G m dispatcher (graph_of sheet) p q

      won-judged : (q : Replies) (last : List ℕ) → Calls lent m dispatcher sheet p q last → Won G (Comes q) ↔ (ask_judge last goal ≡ passed tt)
      won-judged q last c = let a = as-game m dispatcher sheet k p q last c in subst (λ x. Won G x ↔ (ask_judge last goal ≡ passed tt)) (sym a.ends) (judged last a.held)

      each-course : (q : Replies) (h : Graph) → Comes q ≡ ended h → (last : List ℕ) × Calls lent m dispatcher sheet p q last × (graph_of last ≡ h)
      each-course q h e =
          let (last, c) = as-calls m dispatcher sheet k p q h e in
          let a = as-game m dispatcher sheet k p q last c in
          let same : graph_of last ≡ h = cc in
          (last, c, same)

      wins-won : WinsByCalls lent m sheet goal p → Wins G m dispatcher (graph_of sheet) p
      wins-won w q = go (Comes q) refl where
        go : (x : Course) → Comes q ≡ x → Won G (Comes q)
        go (ended h) e = let (last, c, same) = each-course q h e in (won-judged q last c).1 (w.wins q last c)
        go (wrong dispatcher) e = absurd (subst Legal e (follow-legal m dispatcher sheet k p w.follows q))
        go (wrong disruption) e = subst (Won G) (sym e) tt

      won-wins : Wins G m dispatcher (graph_of sheet) p → WinsByCalls lent m sheet goal p
      won-wins w = record { follows = legal-follow m dispatcher sheet k p (λ q. won-legal G (Comes q) (w q)); wins = λ q last c. (won-judged q last c).0 (w q) }

      broken-breaks : BrokenByCalls lent m sheet goal p → SomeBreaks G m dispatcher (graph_of sheet) p
      broken-breaks (q, last, c, e) = let a = as-game m dispatcher sheet k p q last c in (q, subst (Broken G) (sym a.ends) ((judged-broken last a.held).1 e))

      breaks-broken : SomeBreaks G m dispatcher (graph_of sheet) p → BrokenByCalls lent m sheet goal p
      breaks-broken (q, b) = go (Comes q) refl b where
        go : (x : Course) → Comes q ≡ x → Broken G x → BrokenByCalls lent m sheet goal p
        go (wrong s) e b = absurd b
        go (ended h) e b =
            let (last, c, same) = each-course q h e in
            (q, last, c, (judged-broken last (as-game m dispatcher sheet k p q last c).held).0 (subst (λ f. T (not (value f G.goal))) (sym same) b))

    pub over-bytes : (sheet : List ℕ) → (graph_of sheet).n ≡ nodes → Held nodes sheet → OverBytes sheet goal lent G
    over-bytes sheet n k = record {
      held = λ m p q last c. subst (λ j. Held j last) (sym n) (as-game m dispatcher sheet k p q last c).held;
      ends = λ m p q last c. (as-game m dispatcher sheet k p q last c).ends;
      won = λ m p q last c. won-judged sheet k m p q last c;
      each = λ m p q h e. each-course sheet k m p q h e;
      follows = λ m p. ((λ f. follow-legal m dispatcher sheet k p f), (λ f. legal-follow m dispatcher sheet k p f));
      wins = λ m p. ((λ w. wins-won sheet k m p w), (λ w. won-wins sheet k m p w));
      broken = λ m p. ((λ b. broken-breaks sheet k m p b), (λ b. breaks-broken sheet k m p b));
    }

-- For each game that was read.
pub course-by-calls : (sheet book goal edits lengths : List ℕ) (dispatchers moves : ℕ) (G : Game) → ask_game sheet book goal edits lengths dispatchers moves ≡ passed G → Bytes sheet
    → OverBytes sheet goal (record { book = book; texts = cut edits lengths; dispatchers = dispatchers }) G
course-by-calls sheet book goal edits lengths d moves G e bytes =
    let p = all-passed sheet book goal edits lengths d moves G e in
    let s = lists-split sheet book goal edits lengths d moves G p in
    let read : ask_book (text_limits (graph_of sheet).n) goal ≡ passed (G.goal ∷ []) = goal-read (text_limits (graph_of sheet).n) goal p.goal-read.what p.goal-read.is ∙ ap (λ H. passed (H.goal ∷ [])) p.is in
    subst (λ m. OverBytes sheet goal (record { book = book; texts = cut edits lengths; dispatchers = m }) G) s.0
    (over-bytes (graph_of sheet).n book (cut edits lengths) G s.1 (λ held k. played-by-calls.each sheet book goal edits lengths d moves G e held k) goal read sheet refl
    (played-by-calls.given sheet book goal edits lengths d moves G e bytes))

-- What play states, by calls.
module _ (sheet goal : List ℕ) (l : Lent) (G : Game) (o : OverBytes sheet goal l G) (m : ℕ) where
  begins : (x : Move) → BeginsByCalls l (suc m) sheet goal x → Begins G m (graph_of sheet) x
  begins x (p, e, w) = (p, e, (o.wins (suc m) p).0 w)

  begins-by-calls : (x : Move) → Begins G m (graph_of sheet) x → BeginsByCalls l (suc m) sheet goal x
  begins-by-calls x (p, e, w) = (p, e, (o.wins (suc m) p).1 w)

  -- Every outcome but "cannot" names a move with which some strategy that wins begins.
  some-wins : (x : Outcome) → x ≡ answer G m (graph_of sheet) → Right G m (graph_of sheet) → ¬ (x ≡ cannot) → (p : Strategy) × WinsByCalls l (suc m) sheet goal p
  some-wins cannot is r n = absurd (n refl)
  some-wins (first pass) is r n = let (p, e, w) = begins-by-calls pass (r.first_pass.0 (sym is)) in (p, w)
  some-wins (first (edit i)) is r n = let (p, e, w) = begins-by-calls (edit i) ((r.first_edit i).0 (sym is)).0 in (p, w)

  stated-right : (x : Outcome) → x ≡ answer G m (graph_of sheet) → Right G m (graph_of sheet) → StatedByCalls sheet goal l (suc m) x
  stated-right x is r = record {
    can_when = (
      some-wins x is r,
      (λ (p, w) e.
          let (q, last, c, b) = (o.broken (suc m) p).1 (r.cannot_when.0 (sym is ∙ e) p ((o.follows (suc m) p).0 w.follows)) in
          refused-not-passed (sym b ∙ w.wins q last c)),
    );
    first_edit = λ i. (
      (λ e. let (b, lowest) = (r.first_edit i).0 (sym is ∙ e) in (begins-by-calls (edit i) b, λ j h c. lowest j h (begins (edit j) c))),
      (λ (b, lowest). is ∙ (r.first_edit i).1 (begins (edit i) b, λ j h c. lowest j h (begins-by-calls (edit j) c))),
    );
    first_pass = ((λ e. begins-by-calls pass (r.first_pass.0 (sym is ∙ e))), (λ b. is ∙ r.first_pass.1 (begins pass b)));
    cannot_when = (
      (λ e p f. (o.broken (suc m) p).1 (r.cannot_when.0 (sym is ∙ e) p ((o.follows (suc m) p).0 f))),
      (λ h. is ∙ r.cannot_when.1 (λ p f. (o.broken (suc m) p).0 (h p ((o.follows (suc m) p).1 f)))),
    );
  }

pub stated-by-calls : (sheet book goal edits lengths : List ℕ) (dispatchers moves : ℕ) (x : Outcome) → ask_play sheet book goal edits lengths dispatchers moves ≡ passed x → Bytes sheet
    → StatedByCalls sheet goal (record { book = book; texts = cut edits lengths; dispatchers = dispatchers }) moves x
stated-by-calls sheet book goal edits lengths d moves x e bytes =
    let a = play-right.answered sheet book goal edits lengths d moves x e in
    let l : Lent = record { book = book; texts = cut edits lengths; dispatchers = d } in
    subst (λ m. StatedByCalls sheet goal l m x) a.as_many_moves
    (stated-right sheet goal l a.game (course-by-calls sheet book goal edits lengths d moves a.game a.read bytes) (moves - 1) x a.is a.right)
