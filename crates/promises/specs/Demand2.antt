-- Demand 2: truth, sheets and carried rules are those of the definitions: `value` (Table II of 004), `run` (its Definition 3.2) and `carry`
-- (its Definition 4.1), which the contracts of the evaluators, of apply and of carry back cite. proofs/Demand2 proves what ties these to the papers.
use Rattle.std.specs.Prelude.{◌≡◌, ◌↔◌, not, ◌&&◌, List, ℕ, suc}
use Rattle.answer.specs.Asked.{passed}
use Rattle.logic.specs.Syntax.{Expr, node, arrow, rule, all, complement, some, every, at_least, at_most, minus, pair, both, either, not_rule, Edit, take_label, take_arrow, choose}
use Rattle.logic.specs.Graph.{Graph, Nodes, any_below}
use Rattle.logic.specs.Limits.{Ranges, Within, EditInRange}
use Rattle.logic.specs.Meaning.{value}
use Rattle.logic.specs.Steps.{relabel, rejoin, run}
use Rattle.logic.specs.Carry.{carry, followed_by}
use Rattle.sheet.specs.Sheet.{store, graph_of}
use Rattle.sheet.specs.Questions.{Sound}
use Rattle.text.specs.Reading.{Limits}
use Rattle.text.specs.Questions.{ask_book, ask_edit}
use Rattle.text.specs.Marked.{Right, examples, texts}
use Rattle.judge.specs.Questions.{ask_judge}
use Rattle.bitset.specs.Words.{Bytes}
use Rattle.runs.specs.Run.{Keeps}
use Rattle.runs.specs.Examples.{entered_on_t, calls, results}

pub record Demand2 : Type 0 where
  -- "The truth of each rule": judge answers done exactly when the sheet keeps the book. The quantifiers and counts are those of the paper.
  pub judge_says_kept : (sheet book : List ℕ) → (ask_judge sheet book ≡ passed tt) ↔ Keeps book sheet
  pub every_is_no_other : (g : Graph) → Within g → (R : Expr arrow) (E : Expr node) → value g (every R E) ≡ value g (complement (some R (complement E)))
  pub at_least_none : (g : Graph) (R : Expr arrow) (E : Expr node) → value g (at_least 0 R E) ≡ value g all
  -- 0A counts different end nodes: 0A 0 is 01, each next count leaves one arrow out, and these two equations determine it.
  pub at_least_one_more : (g : Graph) → Within g → (m : ℕ) (R : Expr arrow) (E : Expr node) (i : ℕ)
      → value g (at_least (suc m) R E) i ≡ any_below g.n (λ j. (value g R i j && value g E j) && value g (at_least m (minus R (pair i j)) E) i)
  pub at_least_only : (g : Graph) → Within g → (A : ℕ → Expr arrow → Expr node → Nodes) → ((R : Expr arrow) (E : Expr node) → A 0 R E ≡ value g all)
      → ((m : ℕ) (R : Expr arrow) (E : Expr node) (i : ℕ) → A (suc m) R E i ≡ any_below g.n (λ j. (value g R i j && value g E j) && A m (minus R (pair i j)) E i))
      → (m : ℕ) (R : Expr arrow) (E : Expr node) → A m R E ≡ value g (at_least m R E)
  pub at_least_one_is_some : (g : Graph) → Within g → (R : Expr arrow) (E : Expr node) → value g (at_least 1 R E) ≡ value g (some R E)
  pub at_most_is_not_at_least : (g : Graph) (m : ℕ) (R : Expr arrow) (E : Expr node) → value g (at_most m R E) ≡ value g (complement (at_least (suc m) R E))
  -- "the sheet after each edit": taking away is the difference, and an edit keeps a graph within the limits.
  pub taken_label : (g : Graph) → Within g → (k : ℕ) (E : Expr node) (Z : Edit) → run (take_label k E Z) g ≡ run Z (relabel g k (λ i. g.labelled k i && not (value g E i)))
  pub taken_arrow : (g : Graph) (a : ℕ) (R : Expr arrow) (Z : Edit) → run (take_arrow a R Z) g ≡ run Z (rejoin g a (λ i j. g.joined a i j && not (value g R i j)))
  pub run_within : (r : Ranges) (Z : Edit) → EditInRange r Z → (g : Graph) → Within g → Within (run Z g)
  -- "each carried-back rule": document 01's wording of 35, each way with its end replaced by Z.
  pub carry_choose : (K₁ : Expr rule) (P Q Z : Edit) (K : Expr rule) → carry (choose K₁ P Q Z) K ≡ both (either (not_rule K₁) (carry (followed_by P Z) K)) (either K₁ (carry (followed_by Q Z) K))
  -- "the last byte for byte": one text for a book, one for an edit.
  pub one_text_of_a_book : (l l' : Limits) (t t' : List ℕ) (book : List (Expr rule)) → ask_book l t ≡ passed book → ask_book l' t' ≡ passed book → t ≡ t'
  pub one_text_of_an_edit : (l l' : Limits) (t t' : List ℕ) (Z : Edit) → ask_edit l t ≡ passed Z → ask_edit l' t' ≡ passed Z → t ≡ t'
  -- "Each graph within the limits is stored as one sheet only,
  pub stored_is_sound : (g : Graph) → Within g → Sound (store g)
  pub one_sheet : (s t : List ℕ) → Bytes s → Bytes t → Sound s → Sound t → graph_of s ≡ graph_of t → s ≡ t
  -- and that sheet reads as that graph."
  pub reads_back : (g : Graph) → Within g → graph_of (store g) ≡ g
  -- Marked examples 1 to 10 of document 01 as one table, a table of faults, and 8 and 9 through enter, on bytes.
  pub marked : Right examples
  pub faults : Right texts
  pub entered : calls entered_on_t ≡ results
