-- Demand 3 holds.
use mathlib.Core.Path.{◌≡◌, refl, sym, ◌∙◌, ap, subst}
use mathlib.Core.Logic.{◌↔◌}
use mathlib.Core.List.{List, [], map}
use Prim.Native.Nat.{ℕ}
use lib.Dec.{T}
use Rattle.answer.specs.Asked.{Asked, passed, refused, ◌>>=◌, ◌>>◌, after, outcome}
use Rattle.logic.specs.Syntax.{Expr, rule, Edit}
use Rattle.logic.specs.Graph.{Graph}
use Rattle.logic.specs.Meaning.{value, hold_all}
use Rattle.logic.specs.Steps.{run}
use Rattle.logic.specs.Carry.{carry, carried_book}
use Rattle.logic.specs.Limits.{Within}
use Rattle.logic.proofs.Theorem.{carried, hold-carried}
use Rattle.logic.proofs.Inside.{run-n}
use Rattle.sheet.specs.Sheet.{present, store, graph_of}
use Rattle.store.proofs.StoredReads.{read_back}
use Rattle.sheet.proofs.SoundSheets.{Stored, sound-is-stored}
use Rattle.text.specs.Reading.{text_limits}
use Rattle.text.specs.Questions.{ask_book}
use Rattle.judge.specs.Questions.{ask_sheet_and_book, ask_rules}
use Rattle.runs.specs.Scratch.{ask_scratch}
use Rattle.apply.specs.Apply.{after_steps, applied_sheet}
use Rattle.runs.specs.Enter.{ask_before41, ask_enter, enter_answer, enter_sheet}
use Rattle.runs.specs.Clerk.{Fed, rules_of, clerk_log, clerk}
use Rattle.bitset.specs.Words.{Bytes}
use Rattle.runs.specs.Run.{Keeps, Call, fed, log, entered_after_each, made_in_order, Given}
use Rattle.logic.specs.Lists.{All}
use Rattle.runs.specs.Demand3.{RunRight, Demand3}
use Rattle.answer.proofs.AskedLaws.{outcome-passed, bind-passed}
use Rattle.judge.proofs.SheetAndBook.{sheet-sound, book-passed}
use Rattle.runs.proofs.OneCall.{ask_steps, enter-asks, Entered, when-passed, so-passed, passed-33}
use Rattle.runs.proofs.After.{applied-is, applies}
use Rattle.runs.proofs.Runs.{steps-within, Kept, keeps, kept-each, log-clerk, alone-each}

module _ {book edit sheet : List ℕ} (i : Given book edit sheet) where
  -- The sheet that the steps leave stores the graph that they leave.
  within : Within (run i.steps (graph_of sheet))
  within = steps-within (graph_of sheet) edit i.steps (sound-is-stored present sheet i.are_bytes i.sound).within i.edit_read

  left : graph_of (after_steps i.steps sheet) ≡ run i.steps (graph_of sheet)
  left = read_back (run i.steps (graph_of sheet)) within

  carried-before-after : (K : Expr rule) → value (graph_of sheet) (carry i.steps K) ≡ value (graph_of (after_steps i.steps sheet)) K
  carried-before-after K = carried i.steps K (graph_of sheet) ∙ ap (λ g. value g K) (sym left)

  -- where the sheet after the steps keeps the book, all carried rules hold before
  kept-after : Keeps book (after_steps i.steps sheet) → T (hold_all (graph_of sheet) (carried_book i.steps i.rules))
  kept-after k =
      let n-same : (graph_of (after_steps i.steps sheet)).n ≡ (graph_of sheet).n = ap (λ g. g.n) left ∙ run-n i.steps (graph_of sheet) in
      let read : ask_book (text_limits (graph_of sheet).n) book ≡ passed k.rules = subst (λ n. ask_book (text_limits n) book ≡ passed k.rules) n-same k.book_read in
      let same : k.rules ≡ i.rules = cc in
      subst T (sym (hold-carried i.steps i.rules (graph_of sheet))) (subst (λ g. T (hold_all g i.rules)) left (subst (λ rs. T (hold_all (graph_of (after_steps i.steps sheet)) rs)) same k.hold))

  carried_keeps : T (hold_all (graph_of sheet) (carried_book i.steps i.rules)) → Keeps book (after_steps i.steps sheet)
  carried_keeps h =
      keeps book i.rules (run i.steps (graph_of sheet))
      (record { within = within; book_read = rw (run-n i.steps (graph_of sheet)) i.book_read; hold = subst T (hold-carried i.steps i.rules (graph_of sheet)) h })

  sheet-and-book : ask_sheet_and_book sheet book ≡ passed i.rules
  sheet-and-book = unfold ask_sheet_and_book ◌>>◌ in ap (◌>> ask_book (text_limits (graph_of sheet).n) book) i.sound ∙ i.book_read

  abbrev call : ℕ → Fed
  call room = record { edit = edit; room = room }

  asks : (room : ℕ) → ask_enter sheet book edit room ≡ ask_steps i.rules (graph_of sheet) (call room)
  asks room = enter-asks sheet book i.rules (call room) sheet-and-book

  -- 31 to 33, and then 41 for the book's own rules on the sheet that the steps leave
  answers : (room : ℕ) → enter_answer sheet book edit room ≡ (ask_scratch (carried_book i.steps i.rules) room >> ask_rules (graph_of (after_steps i.steps sheet)) i.rules 0)
  unfolding ask_steps outcome ◌>>=◌ ◌>>◌
  answers room =
      ap outcome (asks room)
      ∙ ap (λ (q : Asked Edit). outcome (q >>= (λ Z. ask_scratch (carried_book Z i.rules) room >> (ask_rules (run Z (graph_of sheet)) i.rules 0 >> passed Z)))) i.edit_read
      ∙ go (ask_scratch (carried_book i.steps i.rules) room) (ask_rules (run i.steps (graph_of sheet)) i.rules 0)
      ∙ ap (λ g. ask_scratch (carried_book i.steps i.rules) room >> ask_rules g i.rules 0) (sym left) where
        go : (q r : Asked (Unit {0})) → outcome (q >> (r >> passed i.steps)) ≡ (q >> r)
        go (passed u) (passed v) = refl
        go (passed u) (refused n p) = refl
        go (refused n p) r = refl

  -- the answer for this edit is done, and everything else has passed
  done-with : (room : ℕ) → enter_answer sheet book edit room ≡ passed tt → Entered i.rules (graph_of sheet) (call room) i.steps
  done-with room e =
      let (Z, a) = outcome-passed (ask_enter sheet book edit room) e in
      let w : Entered i.rules (graph_of sheet) (call room) Z = when-passed i.rules (graph_of sheet) (call room) Z (sym (asks room) ∙ a) in
      let same : Z ≡ i.steps = cc in subst (Entered i.rules (graph_of sheet) (call room)) same w

  pub entered-hold : (room : ℕ) → enter_answer sheet book edit room ≡ passed tt → T (hold_all (graph_of sheet) (carried_book i.steps i.rules))
  entered-hold room e = subst T (sym (hold-carried i.steps i.rules (graph_of sheet))) (done-with room e).hold

  entered-iff : (room : ℕ) → ask_scratch (carried_book i.steps i.rules) room ≡ passed tt → (enter_answer sheet book edit room ≡ passed tt) ↔ T (hold_all (graph_of sheet) (carried_book i.steps i.rules))
  unfolding outcome
  entered-iff room fits = (
    entered-hold room,
    λ h. ap outcome (asks room ∙ so-passed i.rules (graph_of sheet) (call room) i.steps (record { edit_read = i.edit_read; fits = fits; hold = subst T (hold-carried i.steps i.rules (graph_of sheet)) h })),
  )

  -- So it is entered exactly when the sheet that its steps leave keeps the book.
  pub entered-keeps : (room : ℕ) → ask_scratch (carried_book i.steps i.rules) room ≡ passed tt → (enter_answer sheet book edit room ≡ passed tt) ↔ Keeps book (after_steps i.steps sheet)
  entered-keeps room fits = let w = entered-iff room fits in ((λ e. carried_keeps (w.0 e)), (λ k. w.1 (kept-after k)))

  leaves : (room : ℕ) → enter_answer sheet book edit room ≡ passed tt → enter_sheet sheet book edit room ≡ after_steps i.steps sheet
  unfolding enter_sheet after
  leaves room e = ap (λ q. after q (λ Z. after_steps Z sheet) sheet) (asks room ∙ so-passed i.rules (graph_of sheet) (call room) i.steps (done-with room e))

-- A run from the sheet that stores a graph which keeps the book; so from every sheet that keeps it.
pub stored-right : (book : List ℕ) (rules : List (Expr rule)) (g : Graph) (calls : List Call) → Kept book rules g → RunRight (store g) book calls
unfolding clerk rules_of after made_in_order
stored-right book rules g calls kept =
    let same : log book (store g) calls ≡ clerk_log rules g (map fed calls) = log-clerk book rules g calls kept in
    record {
      kept = subst (All (λ l. Keeps book l.sheet)) (sym same) (kept-each book rules g (map fed calls) kept);
      alone = subst (λ x. map (λ l. l.sheet) x ≡ map (made_in_order (store g)) (entered_after_each [] x)) (sym same) (alone-each book rules (store g) [] g (map fed calls) kept refl);
      clerks =
          same ∙ ap (λ q. clerk_log (after q (λ rules. rules) []) g (map fed calls)) (sym kept.book_read)
          ∙ ap (λ h. clerk_log (after (ask_book (text_limits h.n) book) (λ rules. rules) []) h (map fed calls)) (sym (read_back g kept.within));
    }

run_right : (sheet book : List ℕ) (calls : List Call) → Bytes sheet → Keeps book sheet → RunRight sheet book calls
run_right sheet book calls bytes k =
    let o : Stored present sheet = sound-is-stored present sheet bytes k.sound in
    let kept : Kept book k.rules (graph_of sheet) = record { within = o.within; book_read = k.book_read; hold = k.hold } in
    subst (λ s. RunRight s book calls) (sym o.stored) (stored-right book k.rules (graph_of sheet) calls kept)

pub demand_3 : Demand3
demand_3 =
    record {
      carried_holds = λ i K. (subst T (carried-before-after i K), subst T (sym (carried-before-after i K)));
      weakest = λ C h sheet c. kept-after (C.given sheet c) (h sheet c);
      carried_ensure = λ i h. carried_keeps i h;
      entered_when = λ i. entered-iff i;
      entered_leaves = λ i. leaves i;
      enter_answers = λ i. answers i;
      every_run = run_right;
    }

-- Where 1 to 33 have passed, sheet, book and edit are given, and the scratch is long enough.
pub record GivenRoom (sheet book edit : List ℕ) (room : ℕ) : Type 0 where
  pub given : Given book edit sheet
  pub fits : ask_scratch (carried_book given.steps given.rules) room ≡ passed tt

module _ (sheet book edit : List ℕ) (room : ℕ) (bytes : Bytes sheet) where
  pub given-room : outcome (ask_before41 sheet book edit room) ≡ passed tt → GivenRoom sheet book edit room
  given-room e =
      let (c, asked) = outcome-passed (ask_before41 sheet book edit room) e in
      let p = passed-33 sheet book edit room c asked in
      record {
        given = record { are_bytes = bytes; sound = sheet-sound sheet book p.read; rules = p.rules; book_read = book-passed sheet book p.read; steps = c.steps; edit_read = p.edit_read };
        fits = subst (λ carried. ask_scratch carried room ≡ passed tt) p.carried-are p.fits;
      }

  -- So for an edit that is entered: it leaves what it leaves when carried out alone, a sheet that keeps the book.
  module _ (e : enter_answer sheet book edit room ≡ passed tt) where
    pub entered-given : GivenRoom sheet book edit room
    unfolding ask_enter outcome
    entered-given =
        let (Z, asked) = outcome-passed (ask_enter sheet book edit room) e in
        given-room (ap outcome (bind-passed (ask_before41 sheet book edit room) _ Z asked).1)

    pub entered-applied : enter_sheet sheet book edit room ≡ applied_sheet sheet edit
    entered-applied = let i = entered-given.given in leaves i room e ∙ sym (applied-is sheet edit i.steps (applies sheet edit i.steps i.sound i.edit_read))

    pub entered-kept : Keeps book (enter_sheet sheet book edit room)
    entered-kept = let g = entered-given in subst (Keeps book) (sym (leaves g.given room e)) ((entered-keeps g.given room g.fits).0 e)
