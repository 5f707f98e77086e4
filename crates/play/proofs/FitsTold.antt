-- 31 and 32, found by carrying back into an output without room.
use mathlib.Core.Path.{◌≡◌, refl, sym, ap, subst}
use mathlib.Core.Bool.{Bool, true, false}
use mathlib.Core.List.{List}
use Prim.Native.Nat.{ℕ}
use native.Mathlib.Omega.{arith}
use lib.Dec.{leb}
use lib.ListN.{length}
use Rattle.answer.specs.Asked.{Asked, passed, refused, ◌>>◌, is}
use Rattle.std.specs.Prelude.{Result, Ok, Err}
use Rattle.answer.specs.Answers.{result_asked, refusal_number_def, refusal_place_def}
use Rattle.answer.specs.declared.Refusal.{Refusal}
use Rattle.answer.specs.declared.Refusal.TheVariants.{OutputLength}
use Rattle.logic.specs.Syntax.{Expr, rule}
use Rattle.text.specs.Code.{book_code, book_levels}
use Rattle.text.specs.Reading.{longest_carried, deepest_carried}
use Rattle.carry.specs.Carrying.{ask_size, ask_carried}
use Rattle.carry.specs.Into.{Into}

-- what an answer to 31, 32 and 33 says about the first two
abbrev Tells : Asked ℕ → Asked (Unit {0}) → Type 0
Tells (passed k) y = passed tt ≡ y
Tells (refused q p) y = (q ≡ 33 → passed tt ≡ y) × ((q ≡ 33 → ⊥) → refused q p ≡ y)

tells : (a b c : Bool) (len : ℕ) → Tells (((is a 31 0 >> is b 32 0) >> is c 33 len) >> passed len) (is a 31 0 >> is b 32 0)
unfolding is ◌>>◌
tells false b c len = ((λ e. absurd (omega arith)), λ n. refl)
tells true false c len = ((λ e. absurd (omega arith)), λ n. refl)
tells true true false len = ((λ e. refl), λ n. absurd (n refl))
tells true true true len = refl

-- 33 is the number of one refusal.
number-33 : (r : Refusal) → refusal_number_def r ≡ 33 → ((p : ℕ) → r ≡ OutputLength p → ⊥) → ⊥
number-33 r e n = grind arith

module _ (carried : List (Expr rule)) (w : Result ℕ Refusal) (out out' : List ℕ) (into : Into carried w out out') where
  told : Tells (result_asked w) (ask_carried carried)
  unfolding ask_carried ask_size ◌>>◌
  told = subst (λ (x : Asked ℕ). Tells x (ask_carried carried)) (sym into.answer_is) (tells (leb (length (book_code carried)) longest_carried) (leb (book_levels carried) deepest_carried) (leb (length (book_code carried)) (length out)) (length (book_code carried)))

  pub fits-length : (k : ℕ) → w ≡ Ok k → passed tt ≡ ask_carried carried
  fits-length k e = subst (λ (x : Result ℕ Refusal). Tells (result_asked x) (ask_carried carried)) e told

  module _ (r : Refusal) (e : w ≡ Err r) where
    refused-told : Tells (refused (refusal_number_def r) (refusal_place_def r)) (ask_carried carried)
    refused-told = subst (λ (x : Result ℕ Refusal). Tells (result_asked x) (ask_carried carried)) e told

    pub fits-no-room : (p : ℕ) → r ≡ OutputLength p → passed tt ≡ ask_carried carried
    fits-no-room p q = refused-told.0 (ap refusal_number_def q)

    pub fits_not : ((p : ℕ) → r ≡ OutputLength p → ⊥) → refused (refusal_number_def r) (refusal_place_def r) ≡ ask_carried carried
    fits_not n = refused-told.1 (λ e. number-33 r e n)
