-- What closing and opening answer and leave, by where they stop.
use mathlib.Core.Path.{◌≡◌, refl, sym, ap, ◌∙◌}
use mathlib.Core.Bool.{Bool, true, false}
use mathlib.Core.List.{List}
use Prim.Native.Nat.{ℕ, ◌≤◌, ◌<◌}
use lib.Dec.{ltb}
use lib.ListN.{length}
use borrow.Author.Tests.{lt-ltb, le-ltb, ltb-true}
use Rattle.answer.specs.Asked.{passed, refused, ◌>>=◌, ◌>>◌, is, after, outcome}
use Rattle.answer.specs.Answers.{asked}
use Rattle.answer.specs.declared.Refusal.{Refusal}
use Rattle.answer.specs.declared.Refusal.TheVariants.{NodeTaken}
use Rattle.answer.specs.declared.Answer.{Answer}
use Rattle.answer.specs.declared.Answer.TheVariants.{Done, Refused}
use Rattle.answer.proofs.AskedLaws.{bind-passed, is-then}
use Rattle.logic.specs.Syntax.{Expr, rule}
use Rattle.logic.specs.Limits.{Within, ranges}
use Rattle.logic.specs.Closing.{close_node_def, open_node_def, can_close_def}
use Rattle.bitset.specs.Words.{Bytes}
use Rattle.sheet.specs.Sheet.{present, store, graph_of}
use Rattle.sheet.specs.Questions.{Sound}
use Rattle.sheet.proofs.SoundSheets.{sound-is-stored}
use Rattle.judge.proofs.SheetAndBook.{done-learned, refused-asked, sheet-sound, rules_stand}
use Rattle.judge.specs.Questions.{ask_sheet_and_book}
use Rattle.judge.specs.Judging.{RulesStand}
use Rattle.close_node.specs.Questions.{ask_node, ask_close, ask_open, closed_sheet, opened_sheet}
use Rattle.close_node.specs.Changing.{set_use, Judged}
use Rattle.close_node.proofs.Uses.{use-same}

module _ (sheet book : List ℕ) (node : ℕ) where
  -- What `ask` finds: sheet or book refused, or the range.
  pub ask-stops : {q p : ℕ} → ask_sheet_and_book sheet book ≡ refused q p → refused q p ≡ outcome (ask_node sheet book node)
  ask-stops e = unfold ask_node outcome ◌>>=◌ in rw e

  module _ {rules : List (Expr rule)} (e : ask_sheet_and_book sheet book ≡ passed rules) where
    pub in-range : node < (graph_of sheet).n → passed tt ≡ outcome (ask_node sheet book node)
    in-range l = unfold ask_node outcome is ◌>>=◌ ◌>>◌ in rw (e, lt-ltb node (graph_of sheet).n l)

    pub out_of_range : (graph_of sheet).n ≤ node → refused 7 0 ≡ outcome (ask_node sheet book node)
    out_of_range l = unfold ask_node outcome is ◌>>=◌ ◌>>◌ in rw (e, le-ltb node (graph_of sheet).n l)

  -- What is known once they have passed.
  pub record Ready (rules : List (Expr rule)) : Type 0 where
    pub is_read : ask_node sheet book node ≡ passed rules
    pub read : ask_sheet_and_book sheet book ≡ passed rules
    pub below : node < (graph_of sheet).n
    pub sound : Sound sheet
    pub stand : RulesStand (ranges (graph_of sheet).n) book 0 (length book) rules

  pub found : (rules : List (Expr rule)) → ask_node sheet book node ≡ passed rules → Ready rules
  unfolding ask_node
  found rules e =
      let (rs, asked, rest) = bind-passed (ask_sheet_and_book sheet book) _ rules e in
      let (below, same) = is-then (ltb node (graph_of sheet).n) 7 0 (passed rs) rest in
      let read : ask_sheet_and_book sheet book ≡ passed rules = asked ∙ same in
      record { is_read = e; read = read; below = ltb-true node (graph_of sheet).n below; sound = sheet-sound sheet book read; stand = rules_stand sheet book read }

  -- The same for a sheet of bytes.
  pub record AskPassed : Type 0 where
    pub rules : List (Expr rule)
    pub ready : Ready rules
    pub bytes : Bytes sheet
    pub within : Within (graph_of sheet)

  pub ask-passed : Bytes sheet → {a : Answer} → asked a ≡ outcome (ask_node sheet book node) → a ≡ Done → AskPassed
  ask-passed bytes s d =
      let l = done-learned s d in let q = found l.what l.is in
      record { rules = l.what; ready = q; bytes = bytes; within = (sound-is-stored present sheet bytes q.sound).within }

  -- Sheet and answer after closing, and after opening.
  abbrev pub Closed : Answer → List ℕ → Type 0
  Closed a t = (asked a ≡ ask_close sheet book node) × (t ≡ closed_sheet sheet book node)

  abbrev pub Opened : Answer → List ℕ → Type 0
  Opened a t = (asked a ≡ ask_open sheet book node) × (t ≡ opened_sheet sheet book node)

  module _ {a : Answer} {r : Refusal} (s : asked a ≡ outcome (ask_node sheet book node)) (e : a ≡ Refused r) where
    pub close-stops : Closed a sheet
    close-stops = unfold ask_close closed_sheet ◌>>=◌ after in rw (e, refused-asked s e) (refl, refl)

    pub open-stops : Opened a sheet
    open-stops = unfold ask_open opened_sheet ◌>>=◌ after in rw (e, refused-asked s e) (refl, refl)

  module _ {rules : List (Expr rule)} (q : Ready rules) where
    -- the sheet is the same where the node is already so
    same-sheet : Bytes sheet → (used : Bool) → (graph_of sheet).in_use node ≡ used → sheet ≡ store (set_use (graph_of sheet) node used)
    same-sheet small used e = (sound-is-stored present sheet small q.sound).stored ∙ ap store (sym (use-same (graph_of sheet) node used e))

    pub close-already : Bytes sheet → (graph_of sheet).in_use node ≡ false → Closed Done sheet
    close-already small e = unfold ask_close closed_sheet close_node_def after ◌>>=◌ in rw (q.is_read, e) (refl, same-sheet small false e)

    pub close-kept : (graph_of sheet).in_use node ≡ true → can_close_def (graph_of sheet) node ≡ false → Closed (Refused (NodeTaken node)) sheet
    close-kept e k = unfold ask_close closed_sheet after is ◌>>◌ ◌>>=◌ in rw (q.is_read, e, k) (refl, refl)

    pub close-judged : (graph_of sheet).in_use node ≡ true → can_close_def (graph_of sheet) node ≡ true → {a : Answer} {t : List ℕ} → Judged rules (set_use (graph_of sheet) node false) a sheet t → Closed a t
    close-judged e k j = unfold ask_close closed_sheet close_node_def is ◌>>◌ ◌>>=◌ in rw (q.is_read, e, k) (j.answer_is, j.sheet_is)

    pub open-already : Bytes sheet → (graph_of sheet).in_use node ≡ true → Opened Done sheet
    open-already small e = unfold ask_open opened_sheet open_node_def after ◌>>=◌ in rw (q.is_read, e) (refl, same-sheet small true e)

    pub open-judged : (graph_of sheet).in_use node ≡ false → {a : Answer} {t : List ℕ} → Judged rules (set_use (graph_of sheet) node true) a sheet t → Opened a t
    open-judged e j = unfold ask_open opened_sheet open_node_def ◌>>=◌ in rw (q.is_read, e) (j.answer_is, j.sheet_is)
