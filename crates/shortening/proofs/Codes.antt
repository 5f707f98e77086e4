-- The code of a term with x at a place: the bytes before, the code of x, the bytes after. So the offset of the place is that of x's code,
-- and it is within the whole, since every code has bytes.
use mathlib.Core.Path.{◌≡◌, sym, ◌∙◌, ap}
use mathlib.Core.List.{◌++◌, append_assoc, append-nil}
use Prim.Native.Nat.{◌<◌}
use native.Mathlib.Omega.{arith}
use lib.ListN.{length, length-append}
use Rattle.logic.specs.Syntax.{Sort, Expr}
use Rattle.text.specs.Code.{code}
use Rattle.text.specs.Heads.{head1, head2}
use Rattle.text.proofs.HeadLaws.{code-1, code-2, code-some}
use Rattle.shortening.specs.Place.{Context, here, only, first, second, put, before, behind}

pub code_put : {s t : Sort} (c : Context s t) (x : Expr s) → code (put c x) ≡ before c ++ (code x ++ behind c)
unfolding put before behind
code_put here x = sym (append-nil (code x))
code_put (only u c) x = code-1 u (put c x) ∙ ap (head1 u ++◌) (code_put c x) ∙ sym (append_assoc (head1 u) (before c) (code x ++ behind c))
code_put (first b c y) x =
    code-2 b (put c x) y ∙ ap (λ z. head2 b ++ (z ++ code y)) (code_put c x) ∙ simp append_assoc
code_put (second b y c) x =
    code-2 b y (put c x) ∙ ap (λ z. head2 b ++ (code y ++ z)) (code_put c x) ∙ simp append_assoc

pub place_in : {s t : Sort} (c : Context s t) (x : Expr s) → length (before c) < length (code (put c x))
place_in c x = omega (arith, ap length (code_put c x), length-append (before c) (code x ++ behind c), length-append (code x) (behind c), code-some x)
