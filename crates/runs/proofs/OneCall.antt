-- One call of enter on a sheet that stores a graph, and the clerk's.
use mathlib.Core.Path.{◌≡◌, refl, sym, ◌∙◌, ap, subst}
use mathlib.Core.List.{List}
use Prim.Native.Nat.{ℕ}
use lib.Dec.{T}
use Rattle.answer.specs.Asked.{Asked, passed, refused, ◌>>=◌, ◌>>◌, after, outcome}
use Rattle.logic.specs.Syntax.{Expr, rule, Edit}
use Rattle.logic.specs.Graph.{Graph}
use Rattle.logic.specs.Steps.{run}
use Rattle.logic.specs.Carry.{carried_book}
use Rattle.logic.specs.Limits.{Within}
use Rattle.sheet.specs.Sheet.{store, graph_of}
use Rattle.store.proofs.StoredPasses.{stored-passes}
use Rattle.store.proofs.StoredReads.{read_back}
use Rattle.text.specs.Reading.{text_limits}
use Rattle.text.specs.Questions.{ask_book, ask_edit}
use Rattle.judge.specs.Questions.{ask_sheet_and_book, ask_rules}
use Rattle.runs.specs.Scratch.{ask_scratch}
use Rattle.runs.specs.Enter.{StepsAndCarried, ask_before41, ask_enter, enter_answer, enter_sheet}
use Rattle.runs.specs.Clerk.{Fed, Line, clerk_copy, clerk_asks, clerk_graph, clerk_line}
use Rattle.logic.specs.Meaning.{hold_all}
use Rattle.runs.specs.Run.{Call, fed, enter_line}
use Rattle.answer.proofs.AskedLaws.{passed-same, bind-on, bind-passed, then-passed, outcome-bind, bind-bind, then-bind}
use Rattle.judge.proofs.QuestionLaws.{hold-asked, asked-hold, ask-carried}

-- When sheet and book have passed, enter asks on the sheet's graph what the clerk asks.
unfoldable pub ask_steps : List (Expr rule) → Graph → Fed → Asked Edit
ask_steps rules g c = do
  Z ← ask_edit (text_limits g.n) c.edit
  ask_scratch (carried_book Z rules) c.room
  ask_rules (run Z g) rules 0
  passed Z

-- The questions of enter in one line.
pub in_order : (sheet book edit : List ℕ) (room : ℕ) → ask_enter sheet book edit room ≡ (ask_sheet_and_book sheet book >>= (λ rules. ask_edit (text_limits (graph_of sheet).n) edit >>= (λ Z. ask_scratch (carried_book Z rules) room >> (ask_rules (graph_of sheet) (carried_book Z rules) 0 >> passed Z))))
unfolding ask_enter ask_before41 ◌>>=◌
in_order sheet book edit room = simp (bind-bind, then-bind)

pub enter-asks : (sheet book : List ℕ) (rules : List (Expr rule)) (c : Fed) → ask_sheet_and_book sheet book ≡ passed rules → ask_enter sheet book c.edit c.room ≡ ask_steps rules (graph_of sheet) c
unfolding ask_steps
enter-asks sheet book rules c e =
    in_order sheet book c.edit c.room ∙ bind-on e _
    ∙ (λ t. ask_edit (text_limits (graph_of sheet).n) c.edit >>= (λ Z. ask_scratch (carried_book Z rules) c.room >> (ask-carried Z rules (graph_of sheet) 0 t >> passed Z)))

pub clerk-asks : (rules : List (Expr rule)) (g : Graph) (c : Fed) → clerk_asks rules g c ≡ (ask_steps rules g c >>= (λ Z. passed (run Z g)))
unfolding clerk_asks clerk_copy ask_steps ◌>>=◌
clerk-asks rules g c = simp (bind-bind, then-bind)

-- What is known about an edit that has passed them all.
pub record Entered (rules : List (Expr rule)) (g : Graph) (c : Fed) (Z : Edit) : Type 0 where
  pub edit_read : ask_edit (text_limits g.n) c.edit ≡ passed Z
  pub fits : ask_scratch (carried_book Z rules) c.room ≡ passed tt
  pub hold : T (hold_all (run Z g) rules)

pub when-passed : (rules : List (Expr rule)) (g : Graph) (c : Fed) (Z : Edit) → ask_steps rules g c ≡ passed Z → Entered rules g c Z
unfolding ask_steps
when-passed rules g c Z e =
    let (Y, read, e₁) = bind-passed (ask_edit (text_limits g.n) c.edit) _ Z e in
    let (u, fits, e₂) = then-passed (ask_scratch (carried_book Y rules) c.room) _ Z e₁ in
    let (v, hold, e₃) = then-passed (ask_rules (run Y g) rules 0) (passed Y) Z e₂ in let same : Y ≡ Z = cc in
    subst (Entered rules g c) same (record { edit_read = read; fits = fits; hold = asked-hold (run Y g) rules 0 hold })

pub so-passed : (rules : List (Expr rule)) (g : Graph) (c : Fed) (Z : Edit) → Entered rules g c Z → ask_steps rules g c ≡ passed Z
so-passed rules g c Z k = unfold ask_steps ◌>>=◌ ◌>>◌ in rw (k.edit_read, k.fits, hold-asked (run Z g) rules 0 k.hold)

-- The clerk's graph after a call, and what his log then says, by the questions.
pub graph-after : (rules : List (Expr rule)) (g : Graph) (c : Fed) → clerk_graph rules g c ≡ after (ask_steps rules g c) (λ Z. run Z g) g
unfolding clerk_graph ◌>>=◌ after
graph-after rules g c = ap (λ q. after q (λ copy. copy) g) (clerk-asks rules g c) ∙ go (ask_steps rules g c) where
  go : (q : Asked Edit) → after (q >>= (λ Z. passed (run Z g))) (λ copy. copy) g ≡ after q (λ Z. run Z g) g
  go (passed Z) = refl
  go (refused n p) = refl

pub clerk-line : (rules : List (Expr rule)) (g : Graph) (c : Fed) → clerk_line rules g c ≡ record { edit = c.edit; answer = outcome (ask_steps rules g c); sheet = store (after (ask_steps rules g c) (λ Z. run Z g) g) }
clerk-line rules g c = λ t. record { edit = c.edit; answer = (ap outcome (clerk-asks rules g c) ∙ outcome-bind (ask_steps rules g c) (λ Z. run Z g)) t; sheet = store (graph-after rules g c t) }

-- A sheet that stores a graph passes, and its book is read for the graph's n.
pub asked-of-stored : (g : Graph) (book : List ℕ) → Within g → ask_sheet_and_book (store g) book ≡ ask_book (text_limits g.n) book
unfolding ask_sheet_and_book ◌>>◌
asked-of-stored g book w = ap (◌>> ask_book (text_limits (graph_of (store g)).n) book) (stored-passes g w) ∙ ap (λ h. ask_book (text_limits h.n) book) (read_back g w)

-- Enter on the sheet that stores a graph: the clerk's line.
pub enter-line : (g : Graph) (book : List ℕ) (rules : List (Expr rule)) (c : Call) → Within g → ask_book (text_limits g.n) book ≡ passed rules → enter_line book (store g) c ≡ clerk_line rules g (fed c)
unfolding enter_sheet after
enter-line g book rules c w e =
    ap (line (graph_of (store g))) (enter-asks (store g) book rules (fed c) (asked-of-stored g book w ∙ e)) ∙ ap (λ h. line h (ask_steps rules h (fed c))) (read_back g w) ∙ go (ask_steps rules g (fed c)) ∙ sym (clerk-line rules g (fed c))
  where
    line : Graph → Asked Edit → Line
    line h q = record { edit = c.edit; answer = outcome q; sheet = after q (λ Z. store (run Z h)) (store g) }

    go : (q : Asked Edit) → line g q ≡ record { edit = c.edit; answer = outcome q; sheet = store (after q (λ Z. run Z g) g) }
    go (passed Z) = refl
    go (refused n p) = refl

-- What is known when 1 to 33 have passed.
pub record Passed33 (sheet book edit : List ℕ) (room : ℕ) (c : StepsAndCarried) : Type 0 where
  pub rules : List (Expr rule)
  pub read : ask_sheet_and_book sheet book ≡ passed rules
  pub edit_read : ask_edit (text_limits (graph_of sheet).n) edit ≡ passed c.steps
  pub carried-are : c.carried ≡ carried_book c.steps rules
  pub fits : ask_scratch c.carried room ≡ passed tt

pub passed-33 : (sheet book edit : List ℕ) (room : ℕ) (c : StepsAndCarried) → ask_before41 sheet book edit room ≡ passed c → Passed33 sheet book edit room c
unfolding ask_before41
passed-33 sheet book edit room c e =
    let (rules, read, e₁) = bind-passed (ask_sheet_and_book sheet book) _ c e in
    let (Z, edit_read, e₂) = bind-passed (ask_edit (text_limits (graph_of sheet).n) edit) _ c e₁ in
    let (u, fits, e₃) = then-passed (ask_scratch (carried_book Z rules) room) _ c e₂ in
    subst (Passed33 sheet book edit room) (passed-same e₃) (record { rules = rules; read = read; edit_read = edit_read; carried-are = refl; fits = fits })

-- The answer is then that of 41 for the carried rules.
pub answers-41 : (sheet book edit : List ℕ) (room : ℕ) (c : StepsAndCarried) → ask_before41 sheet book edit room ≡ passed c → enter_answer sheet book edit room ≡ ask_rules (graph_of sheet) c.carried 0
unfolding ask_enter outcome ◌>>◌
answers-41 sheet book edit room c e = ap outcome (bind-on e _) ∙ go (ask_rules (graph_of sheet) c.carried 0) where
  go : (r : Asked (Unit {0})) → outcome (r >> passed c.steps) ≡ r
  go (passed u) = refl
  go (refused n p) = refl
