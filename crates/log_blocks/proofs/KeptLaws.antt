-- The first 4,097 bytes of an edit get the same answer as the whole: an edit with more than 4,096 bytes is 21, whatever they are.
use mathlib.Core.Path.{◌≡◌, refl, sym, ◌∙◌, ap}
use mathlib.Core.Bool.{Bool}
use mathlib.Core.List.{List, [], ◌∷◌, ◌++◌}
use Prim.Native.Nat.{ℕ, ◌<◌}
use native.Mathlib.Omega.{arith}
use native.Mathlib.Decide.{dec_lt}
use borrow.Author.Tests.{lt-leb, lt-ltb}
use lib.ListN.{length, take, length-take}
use lib.Seq.{take_all, take-take, take-append-le, length-take-le}
use Rattle.answer.specs.Asked.{refused, ◌>>◌, is}
use Rattle.text.specs.Reading.{text_limits, edit, read_as}
use Rattle.text.specs.Questions.{whole, ask_edit, ask_one}
use Rattle.log_blocks.specs.Log.{is_begun}
use Rattle.log_blocks.specs.Taken.{kept}

too_long : (n : ℕ) (t : List ℕ) → 4096 < length t → ask_edit (text_limits n) t ≡ refused 21 0
too_long n t h = unfold ask_one is ◌>>◌ in ap (λ (b : Bool). is b 21 0 >> whole 20 (read_as (text_limits n) edit t 0)) (lt-leb (length t) 4096 h)

pub kept-asked : (n : ℕ) (t : List ℕ) → ask_edit (text_limits n) (kept t) ≡ ask_edit (text_limits n) t
unfolding kept
kept-asked n t = go (dec_lt 4097 (length t)) where
  go : Dec (4097 < length t) → ask_edit (text_limits n) (take 4097 t) ≡ ask_edit (text_limits n) t
  go (yes h) = too_long n (take 4097 t) (omega (arith, length-take-le 4097 t (omega arith))) ∙ sym (too_long n t (omega arith))
  go (no h) = ap (ask_edit (text_limits n)) (take_all 4097 t (omega arith))

-- an edit is begun when a byte of it is kept
pub kept-begun : (g : List ℕ) → is_begun (kept g) ≡ is_begun g
unfolding kept
kept-begun [] = refl
kept-begun (x ∷ g) = lt-ltb 0 (length (take 4097 (x ∷ g))) (omega (arith, length-take 4097 (x ∷ g))) ∙ sym (lt-ltb 0 (length (x ∷ g)) (omega arith))

-- more after what is kept
pub kept_append : (g c : List ℕ) → kept (kept g ++ c) ≡ kept (g ++ c)
unfolding kept
kept_append g c = go (dec_lt (length g) 4097) where
  go : Dec (length g < 4097) → take 4097 (take 4097 g ++ c) ≡ take 4097 (g ++ c)
  go (yes h) = ap (λ x. take 4097 (x ++ c)) (take_all 4097 g (omega arith))
  go (no h) =
      let l : length (take 4097 g) ≡ 4097 = length-take-le 4097 g (omega arith) in
      take-append-le 4097 (take 4097 g) c (omega arith) ∙ take-take 4097 4097 g (omega arith) ∙ sym (take-append-le 4097 g c (omega arith))
