-- The whole run, by induction over its calls.
use mathlib.Core.Path.{◌≡◌, refl, sym, ◌∙◌, ap, ap₂, subst}
use mathlib.Core.List.{List, [], ◌∷◌, ◌++◌, map}
use Prim.Native.Nat.{ℕ}
use lib.Dec.{T}
use Rattle.answer.specs.Asked.{Asked, passed, refused, ◌>>◌, after, outcome}
use Rattle.logic.specs.Syntax.{Expr, rule, Edit}
use Rattle.logic.specs.Graph.{Graph}
use Rattle.logic.specs.Steps.{run}
use Rattle.logic.specs.Limits.{Within, ranges}
use Rattle.logic.proofs.Inside.{run-n, run_within}
use Rattle.sheet.specs.Sheet.{store, graph_of}
use Rattle.store.proofs.StoredPasses.{stored-passes}
use Rattle.store.proofs.StoredReads.{read_back}
use Rattle.text.specs.Reading.{text_limits}
use Rattle.text.specs.Questions.{ask_book, ask_edit}
use Rattle.text.proofs.TextSpelling.{edit-is-spelled}
use Rattle.apply.specs.Apply.{after_steps, ask_apply, applied_sheet}
use Rattle.runs.specs.Clerk.{Fed, clerk_graph, clerk_line, clerk_log}
use Rattle.logic.specs.Meaning.{hold_all}
use Rattle.runs.specs.Run.{Keeps, Call, fed, log, entered, entered_after_each, made_in_order}
use Rattle.logic.specs.Lists.{All}
use Rattle.runs.proofs.OneCall.{ask_steps, Entered, when-passed, graph-after, clerk-line, enter-line}

-- The steps of an edit in range leave a graph within the limits, with the same nodes.
pub steps-within : (g : Graph) (edit : List ℕ) (Z : Edit) → Within g → ask_edit (text_limits g.n) edit ≡ passed Z → Within (run Z g)
steps-within g edit Z w e = run_within (ranges g.n) Z (edit-is-spelled (text_limits g.n) edit Z e).within.numbers_fit g w

made-last : (sheet : List ℕ) (edits : List (List ℕ)) (edit : List ℕ) → made_in_order sheet (edits ++ (edit ∷ [])) ≡ applied_sheet (made_in_order sheet edits) edit
unfolding made_in_order
made-last sheet [] edit = refl
made-last sheet (e ∷ edits) edit = made-last (applied_sheet sheet e) edits edit

-- An edit carried out on the sheet that stores a graph.
applied-stored : (g : Graph) (edit : List ℕ) (Z : Edit) → Within g → ask_edit (text_limits g.n) edit ≡ passed Z → applied_sheet (store g) edit ≡ store (run Z g)
unfolding applied_sheet ask_apply ◌>>◌ after
applied-stored g edit Z w e =
    ap (λ q. after (q >> ask_edit (text_limits (graph_of (store g)).n) edit) (λ Y. after_steps Y (store g)) (store g)) (stored-passes g w)
    ∙ ap (λ h. after (ask_edit (text_limits h.n) edit) (λ Y. store (run Y h)) (store g)) (read_back g w)
    ∙ ap (λ q. after q (λ Y. store (run Y g)) (store g)) e

module _ (book : List ℕ) (rules : List (Expr rule)) where
  -- A graph whose sheet keeps the book.
  pub record Kept (g : Graph) : Type 0 where
    pub within : Within g
    pub book_read : ask_book (text_limits g.n) book ≡ passed rules
    pub hold : T (hold_all g rules)

  pub keeps : (g : Graph) → Kept g → Keeps book (store g)
  keeps g k =
      record {
        sound = stored-passes g k.within;
        rules = rules;
        book_read = subst (λ h. ask_book (text_limits h.n) book ≡ passed rules) (sym (read_back g k.within)) k.book_read;
        hold = subst (λ h. T (hold_all h rules)) (sym (read_back g k.within)) k.hold;
      }

  -- After a call of the clerk his graph still keeps it.
  pub still_kept : (g : Graph) (c : Fed) → Kept g → Kept (clerk_graph rules g c)
  unfolding after
  still_kept g c k = subst Kept (sym (graph-after rules g c)) (go (ask_steps rules g c) refl) where
    go : (q : Asked Edit) → ask_steps rules g c ≡ q → Kept (after q (λ Z. run Z g) g)
    go (passed Z) e =
        let i : Entered rules g c Z = when-passed rules g c Z e in
        record {
          within = steps-within g c.edit Z k.within i.edit_read;
          book_read = rw (run-n Z g) k.book_read;
          hold = i.hold;
        }
    go (refused n p) e = k

  -- After each call of the clerk his sheet keeps the book.
  pub kept-each : (g : Graph) (calls : List Fed) → Kept g → All (λ l. Keeps book l.sheet) (clerk_log rules g calls)
  unfolding clerk_log
  kept-each g [] k = tt
  kept-each g (c ∷ cs) k = (keeps (clerk_graph rules g c) (still_kept g c k), kept-each (clerk_graph rules g c) cs (still_kept g c k))

  -- Enter's log is the clerk's.
  pub log-clerk : (g : Graph) (calls : List Call) → Kept g → log book (store g) calls ≡ clerk_log rules g (map fed calls)
  unfolding log clerk_log
  log-clerk g [] k = refl
  log-clerk g (c ∷ cs) k =
      ap (λ l. l ∷ log book l.sheet cs) (enter-line g book rules c k.within k.book_read) ∙ ap (clerk_line rules g (fed c) ∷◌) (log-clerk (clerk_graph rules g (fed c)) cs (still_kept g (fed c) k))

  -- After each call the entered edits alone leave the clerk's sheet.
  entered-one : (opening : List ℕ) (edits : List (List ℕ)) (g : Graph) (c : Fed) → Kept g → made_in_order opening edits ≡ store g → made_in_order opening (entered edits (clerk_line rules g c)) ≡ store (clerk_graph rules g c)
  unfolding after outcome
  entered-one opening edits g c k e =
      ap (λ l. made_in_order opening (entered edits l)) (clerk-line rules g c) ∙ go (ask_steps rules g c) refl ∙ ap store (sym (graph-after rules g c)) where
        go : (q : Asked Edit) → ask_steps rules g c ≡ q → made_in_order opening (after (outcome q) (λ u. edits ++ (c.edit ∷ [])) edits) ≡ store (after q (λ Z. run Z g) g)
        go (passed Z) f =
            made-last opening edits c.edit
            ∙ ap (λ s. applied_sheet s c.edit) e
            ∙ applied-stored g c.edit Z k.within (when-passed rules g c Z f).edit_read
        go (refused n p) f = e

  pub alone-each : (opening : List ℕ) (edits : List (List ℕ)) (g : Graph) (calls : List Fed) → Kept g → made_in_order opening edits ≡ store g → map (λ l. l.sheet) (clerk_log rules g calls) ≡ map (made_in_order opening) (entered_after_each edits (clerk_log rules g calls))
  unfolding clerk_log entered_after_each
  alone-each opening edits g [] k e = refl
  alone-each opening edits g (c ∷ cs) k e =
      let now : made_in_order opening (entered edits (clerk_line rules g c)) ≡ store (clerk_graph rules g c) = entered-one opening edits g c k e in
      ap₂ ◌∷◌ (sym now) (alone-each opening (entered edits (clerk_line rules g c)) (clerk_graph rules g c) cs (still_kept g c k) now)
