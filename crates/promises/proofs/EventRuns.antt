-- The runs in a list of calls open on sheets that keep the book; the first opens on the sheet itself.
use mathlib.Core.Path.{◌≡◌, refl, sym, ap, ◌∙◌, subst}
use mathlib.Core.List.{List, [], ◌∷◌, ◌++◌}
use Prim.Native.Nat.{ℕ}
use Rattle.answer.specs.Asked.{Asked, passed, refused, after}
use Rattle.runs.specs.Clerk.{Line}
use Rattle.logic.specs.Lists.{All}
use Rattle.runs.specs.Run.{Keeps, Call, enter_line, log}
use Rattle.runs.specs.Demand3.{RunRight}
use Rattle.promises.specs.Events.{Run, onto, ends, logs}
use Rattle.promises.proofs.EventKept.{Good, good_right}

module _ (book : List ℕ) where
  pub record Begins (sheet : List ℕ) (rs : List Run) (ls : List Line) : Type 0 where
    pub first : Run
    pub others : List Run
    pub are : rs ≡ first ∷ others
    pub opens-here : first.opens ≡ sheet
    pub stored : All (λ r. Good book r.opens) rs
    pub lines : ls ≡ logs book rs

  -- no call
  pub opened : (sheet : List ℕ) → Good book sheet → Begins sheet (record { opens = sheet; calls = [] } ∷ []) []
  opened sheet s = unfold logs log in record { first = record { opens = sheet; calls = [] }; others = []; are = refl; opens-here = refl; stored = (s, tt); lines = refl }

  -- one more call of the first run
  pub added : (sheet t : List ℕ) (c : Call) (rs : List Run) (ls : List Line) → Good book sheet → t ≡ (enter_line book sheet c).sheet → Begins t rs ls → Begins sheet (onto sheet c rs) (enter_line book sheet c ∷ ls)
  unfolding onto logs log
  added sheet t c rs ls s q b =
      subst (λ (qs : List Run). Begins sheet (onto sheet c qs) (enter_line book sheet c ∷ ls)) (sym b.are) (record {
        first = record { opens = sheet; calls = c ∷ b.first.calls };
        others = b.others;
        are = refl;
        opens-here = refl;
        stored = (s, (subst (All (λ r. Good book r.opens)) b.are b.stored).1);
        lines = ap (enter_line book sheet c ∷◌) (b.lines ∙ ap (logs book) b.are ∙ ap (λ (t : List ℕ). log book t b.first.calls ++ logs book b.others) (b.opens-here ∙ q));
      })

  -- a call that ends the run when it is done
  pub ended : (sheet t made : List ℕ) (x : Asked (Unit {0})) (rs : List Run) (ls : List Line) → Good book sheet → t ≡ after x (λ u. made) sheet → Begins t rs ls → Begins sheet (ends x sheet rs) ls
  unfolding ends logs log after
  ended sheet t made (passed u) rs ls s q b = record { first = record { opens = sheet; calls = [] }; others = rs; are = refl; opens-here = refl; stored = (s, b.stored); lines = b.lines }
  ended sheet t made (refused n p) rs ls s q b = record { first = b.first; others = b.others; are = b.are; opens-here = b.opens-here ∙ q; stored = b.stored; lines = b.lines }

  -- Each run is right.
  pub all_right : (rs : List Run) → All (λ r. Good book r.opens) rs → All (λ r. Keeps book r.opens × RunRight r.opens book r.calls) rs
  all_right [] h = tt
  all_right (r ∷ rs) h = ((h.0.keeps, good_right book r.opens r.calls h.0), all_right rs h.1)
