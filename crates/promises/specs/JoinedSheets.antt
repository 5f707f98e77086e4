-- What is promised about joined sheets (item 8 of document 02), over bytes. proofs/JoinedSheets proves it.
use Rattle.std.specs.Prelude.{◌≡◌, ◌↔◌, List, ℕ, ◌+◌, ◌≤◌, T}
use Rattle.answer.specs.Asked.{passed}
use Rattle.logic.specs.Syntax.{Expr, node, arrow, rule}
use Rattle.logic.specs.Meaning.{value}
use Rattle.logic.specs.Limits.{max_nodes}
use Rattle.sheet.specs.Sheet.{graph_of}
use Rattle.sheet.specs.Questions.{Sound}
use Rattle.text.specs.Reading.{text_limits}
use Rattle.text.specs.Questions.{ask_book}
use Rattle.bitset.specs.Words.{Bytes}
use Rattle.runs.specs.Run.{Keeps}
use Rattle.join_sheets.specs.Joined.{side_by_side, pairs_by_side, joined_graph, nodes_total, ask_join, joined_sheet}
use Rattle.join_sheets.specs.Joinable.{Joinable, JoinableBook}

-- For two sheets that are joined.
pub record TwoJoined (first second : List ℕ) : Type 0 where
  -- The sheet is sound, and what it stores is both graphs side by side.
  pub sound : Sound (joined_sheet first second)
  pub graph_is : graph_of (joined_sheet first second) ≡ joined_graph (graph_of first) (graph_of second)
  -- The value of an expression in which 04 and 17 do not appear is the two values side by side.
  pub nodes : (E : Expr node) → Joinable E → value (graph_of (joined_sheet first second)) E ≡ side_by_side (graph_of first).n (value (graph_of first) E) (value (graph_of second) E)
  pub pairs : (R : Expr arrow) → Joinable R → value (graph_of (joined_sheet first second)) R ≡ pairs_by_side (graph_of first).n (value (graph_of first) R) (value (graph_of second) R)
  -- "A rule built only from 21, 22 and 25, in which 04 and 17 do not appear, must hold on the joined sheet exactly when it holds on both."
  pub rule_holds : (K : Expr rule) → Joinable K → T (value (graph_of (joined_sheet first second)) K) ↔ (T (value (graph_of first) K) × T (value (graph_of second) K))
  -- A book of such rules, which is read in the same way for every n, is kept by the joined sheet exactly when both keep it.
  pub book_kept : (book : List ℕ) (n : ℕ) (rules : List (Expr rule)) → ask_book (text_limits n) book ≡ passed rules → JoinableBook rules
      → Keeps book (joined_sheet first second) ↔ (Keeps book first × Keeps book second)

-- Joining with a third sheet works from either side, and leaves the same bytes.
pub record ThreeJoined (first second third : List ℕ) : Type 0 where
  pub from_the_left : (ask_join first second ≡ passed tt) × (ask_join (joined_sheet first second) third ≡ passed tt)
  pub from_the_right : (ask_join second third ≡ passed tt) × (ask_join first (joined_sheet second third) ≡ passed tt)
  pub same_bytes : joined_sheet (joined_sheet first second) third ≡ joined_sheet first (joined_sheet second third)

pub record JoinedRight : Type 0 where
  pub two : (first second : List ℕ) → Bytes first → Bytes second → ask_join first second ≡ passed tt → TwoJoined first second
  pub three : (first second third : List ℕ) → Bytes first → Bytes second → Bytes third → Sound first → Sound second → Sound third
      → nodes_total first second + (graph_of third).n ≤ max_nodes → ThreeJoined first second third
