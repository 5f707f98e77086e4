-- Item 11 of document 02: shorter conditions from a partner's tool. proofs/Item11 proves it.
use Rattle.std.specs.Prelude.{◌≡◌, List, ℕ}
use Rattle.answer.specs.Asked.{passed}
use Rattle.logic.specs.Syntax.{Expr, rule}
use Rattle.logic.specs.Meaning.{value}
use Rattle.sheet.specs.Sheet.{graph_of}
use Rattle.sheet.specs.Questions.{Sound}
use Rattle.text.specs.Reading.{text_limits, carried_limits_def}
use Rattle.text.specs.Questions.{ask_book, ask_rule}
use Rattle.judge.specs.Questions.{ask_judge}
use Rattle.shortening.specs.Questions.{ask_check, CheckPasses}
use Rattle.bitset.specs.Words.{Bytes}

-- The check accepts the text sent for the carried one.
abbrev pub Accepts : (carried steps sent : List ℕ) → Type 0
Accepts carried steps sent = ask_check carried steps sent ≡ passed tt

-- A text is this one rule within the limits of a carried rule, and its node numbers fit n nodes; it is these rules within a book's own limits.
abbrev pub FitsAs : (n : ℕ) → List ℕ → Expr rule → Type 0
FitsAs n text K = ask_rule (carried_limits_def n) text ≡ passed K

abbrev pub BookAs : (n : ℕ) → List ℕ → List (Expr rule) → Type 0
BookAs n text rules = ask_book (text_limits n) text ≡ passed rules

pub record Item11 : Type 0 where
  -- "Accepted means that both texts have the same truth on every sheet whose node numbers fit": where the carried text fits some n, so does the text sent;
  pub fits_too : (carried steps sent : List ℕ) → Accepts carried steps sent → (n : ℕ) (K : Expr rule) → FitsAs n carried K → (L : Expr rule) × FitsAs n sent L
  -- on every sound sheet whose n both fit, both have the same truth;
  pub same_truth : (carried steps sent : List ℕ) → Accepts carried steps sent → (sheet : List ℕ) → Bytes sheet → Sound sheet → (K L : Expr rule)
      → FitsAs (graph_of sheet).n carried K → FitsAs (graph_of sheet).n sent L → value (graph_of sheet) K ≡ value (graph_of sheet) L
  -- and where both keep a book's own limits, judge gives the same answer to both, whatever the sheet.
  pub same_judged : (carried steps sent : List ℕ) → Accepts carried steps sent → (sheet : List ℕ) → Bytes sheet → (rules rules' : List (Expr rule))
      → BookAs (graph_of sheet).n carried rules → BookAs (graph_of sheet).n sent rules' → ask_judge sheet carried ≡ ask_judge sheet sent
  -- "every chain of fitting steps that ends in the text sent is accepted."
  pub chain_accepted : (carried steps sent : List ℕ) → CheckPasses carried steps sent → Accepts carried steps sent
