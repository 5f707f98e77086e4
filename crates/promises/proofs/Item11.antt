-- Item 11 of document 02 is kept.
use mathlib.Core.Path.{◌≡◌, refl, sym, ◌∙◌, ap}
use mathlib.Core.List.{List, [], ◌∷◌}
use Prim.Native.Nat.{ℕ}
use Rattle.answer.specs.Asked.{Asked, passed, refused, ◌>>=◌, ◌>>◌, is}
use Rattle.logic.specs.Syntax.{Expr, rule}
use Rattle.logic.specs.Meaning.{value}
use Rattle.logic.specs.Limits.{max_nodes}
use Rattle.sheet.specs.Sheet.{present, graph_of}
use Rattle.sheet.specs.Questions.{ask_sheet}
use Rattle.sheet.proofs.SoundSheets.{sound-is-stored}
use Rattle.text.specs.Reading.{text_limits, carried_limits_def}
use Rattle.text.specs.Questions.{ask_book}
use Rattle.judge.specs.Questions.{ask_rules, ask_sheet_and_book, ask_judge}
use Rattle.shortening.specs.Questions.{CheckPasses}
use Rattle.shortening.specs.SameTruth.{SameTruth}
use Rattle.shortening.proofs.Checked.{check-passes, check-means}
use Rattle.shortening.proofs.OneReading.{one-rule-book}
use Rattle.bitset.specs.Words.{Bytes}
use Rattle.promises.specs.Item11.{Accepts, BookAs, Item11}

module _ (carried steps sent : List ℕ) (accepts : Accepts carried steps sent) (sheet : List ℕ) (bytes : Bytes sheet) where
  truth : SameTruth carried sent
  truth = check-means carried steps sent accepts

  -- Two books of one rule each, which have the same truth on a sound sheet.
  judged : (rules rules' : List (Expr rule)) → BookAs (graph_of sheet).n carried rules → BookAs (graph_of sheet).n sent rules' → ask_judge sheet carried ≡ ask_judge sheet sent
  unfolding ask_judge ask_sheet_and_book ask_rules ◌>>=◌ ◌>>◌
  judged rules rules' h h' = go (ask_sheet sheet) refl where
    asked : (text : List ℕ) (rules : List (Expr rule)) (K : Expr rule) → BookAs (graph_of sheet).n text rules → rules ≡ K ∷ []
        → ask_book (text_limits (graph_of sheet).n) text >>= (λ rs. ask_rules (graph_of sheet) rs 0) ≡ (is (value (graph_of sheet) K) 41 0 >> passed tt)
    asked text rules K b one = ap (◌>>= (λ rs. ask_rules (graph_of sheet) rs 0)) b ∙ ap (λ rs. ask_rules (graph_of sheet) rs 0) one

    go : (q : Asked (Unit {0})) → ask_sheet sheet ≡ q → (q >> ask_book (text_limits (graph_of sheet).n) carried) >>= (λ rs. ask_rules (graph_of sheet) rs 0) ≡ (q >> ask_book (text_limits (graph_of sheet).n) sent) >>= (λ rs. ask_rules (graph_of sheet) rs 0)
    go (refused n p) e = refl
    go (passed u) e =
        let c : CheckPasses carried steps sent = (check-passes carried steps sent).0 accepts in
        let (L, read) = truth.reads_too (carried_limits_def max_nodes) c.first c.read in
        let one : rules ≡ c.first ∷ [] = one-rule-book (carried_limits_def max_nodes) (text_limits (graph_of sheet).n) carried c.first rules c.read h in
        let other : rules' ≡ L ∷ [] = one-rule-book (carried_limits_def max_nodes) (text_limits (graph_of sheet).n) sent L rules' read h' in
        let same : value (graph_of sheet) c.first ≡ value (graph_of sheet) L = truth.same_truth (carried_limits_def max_nodes) c.first L c.read read (graph_of sheet) (sound-is-stored present sheet bytes e).within in
        asked carried rules c.first h one ∙ ap (λ b. is b 41 0 >> passed tt) same ∙ sym (asked sent rules' L h' other)

pub item_11 : Item11
item_11 = record {
  fits_too = λ carried steps sent a n K. (check-means carried steps sent a).reads_too (carried_limits_def n) K;
  same_truth = λ carried steps sent a sheet b s K L k l. (check-means carried steps sent a).same_truth (carried_limits_def (graph_of sheet).n) K L k l (graph_of sheet) (sound-is-stored present sheet b s).within;
  same_judged = judged;
  chain_accepted = λ carried steps sent. (check-passes carried steps sent).1;
}
