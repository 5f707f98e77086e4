-- Places in a term (item 11 of document 02): a term with one place left open.
use Rattle.std.specs.Prelude.{List, [], ◌++◌, ℕ}
use Rattle.logic.specs.Syntax.{Sort, Expr}
use Rattle.logic.specs.Arity.{Unary, Binary, build1, build2}
use Rattle.text.specs.Code.{code}
use Rattle.text.specs.Heads.{head1, head2}

-- A term of sort t with an open place of sort s.
pub data Context (s : Sort) : Sort → Type 0 where
  here : Context s s
  only : {u t : Sort} → Unary u t → Context s u → Context s t
  first : {u v t : Sort} → Binary u v t → Context s u → Expr v → Context s t
  second : {u v t : Sort} → Binary u v t → Expr u → Context s v → Context s t

-- The term with x put at the place.
unfoldable pub put : {s t : Sort} → Context s t → Expr s → Expr t
put here x = x
put (only u c) x = build1 u (put c x)
put (first b c y) x = build2 b (put c x) y
put (second b y c) x = build2 b y (put c x)

-- The bytes before the place, and those after it. (proofs/Codes: the code of the whole is the bytes before, the code of x, the bytes after.)
unfoldable pub before : {s t : Sort} → Context s t → List ℕ
before here = []
before (only u c) = head1 u ++ before c
before (first b c y) = head2 b ++ before c
before (second b y c) = head2 b ++ (code y ++ before c)

unfoldable pub behind : {s t : Sort} → Context s t → List ℕ
behind here = []
behind (only u c) = behind c
behind (first b c y) = behind c ++ code y
behind (second b y c) = behind c
