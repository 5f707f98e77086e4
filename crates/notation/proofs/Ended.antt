-- Anything begun can be completed, given two levels more.
use mathlib.Core.Path.{◌≡◌, sym, subst}
use mathlib.Core.List.{List, [], ◌∷◌, ◌++◌}
use Prim.Native.Nat.{ℕ, suc, ◌+◌, ◌≤◌}
use native.Mathlib.Omega.{arith}
use lib.Dec.{T}
use Rattle.logic.specs.Syntax.{node, arrow, rule}
use Rattle.logic.specs.Limits.{Kind, arrow_number, fits}
use Rattle.text.specs.Reading.{Limits}
use Rattle.names.specs.Token.{Token, ascii}
use Rattle.names.specs.Names.{Naming}
use Rattle.notation.specs.Grammar.{at_else, at_end, text_end, Slot, expr, steps, Phrase, phrases, bracketed, after_comma, Goal, mark, number, thing, goals}
use Rattle.notation.proofs.Says.{◌∈◌, first, Begins, by_word, label, nominal, arrow_kind, closing-else, closing_end, Says, nothing, last}
use Rattle.notation.proofs.PhraseLaws.{all-at}
use Rattle.notation.proofs.CodeSaid.{Said, a-mark-said, number-said, begin-said, phrase-said}

-- Two levels more, so that anything begun can be completed: a rule at the last level has no room for its operands.
abbrev pub two_deeper : Limits → Limits
two_deeper l = record { longest = l.longest; deepest = l.deepest + 2; numbers = l.numbers }

-- There is a number of each kind.
pub record SomeNumber (l : Limits) (k : Kind) : Type 0 where
  pub x : ℕ
  pub in-range : T (fits l.numbers k x)

-- Goals that arise: no level is too deep by more than one, and steps that end with the text come last.
abbrev pub Good : Limits → List Goal → Type 0
Good l [] = Unit {0}
Good l (mark t ∷ g) = Good l g
Good l (number k ∷ g) = Good l g
Good l (thing (expr s) d ∷ g) = (d ≤ suc l.deepest) × Good l g
Good l (thing (steps at_else) d ∷ g) = (d ≤ suc l.deepest) × Good l g
Good l (thing (steps at_end) d ∷ g) = (d ≤ suc l.deepest) × Good l g
Good l (thing (steps text_end) d ∷ g) = (d ≤ suc l.deepest) × (g ≡ [])

module _ (l : Limits) (d : ℕ) (g : List Goal) (h : d ≤ l.deepest) where
  deep : suc d ≤ suc l.deepest
  deep = omega arith

  pub good-phrase : (s : Slot) → Good l (thing s d ∷ g) → {r : Phrase} → r ∈ phrases s → Good l (goals s d r.items ++ g)
  unfolding phrases goals bracketed after_comma
  good-phrase (expr node) q i =
      let b = deep in
      let k = q.1 in
      all-at (λ r. Good l (goals (expr node) d r.items ++ g)) i (k, (k, ((b, k), ((b, (b, k)), ((b, (b, k)), ((b, (b, k)), ((b, (b, k)), ((b, (b, k)), ((b, (b, k)), tt)))))))))
  good-phrase (expr arrow) q i =
      let b = deep in
      let k = q.1 in
      all-at (λ r. Good l (goals (expr arrow) d r.items ++ g)) i ((b, k), ((b, (b, k)), ((b, (b, k)), ((b, (b, k)), ((b, (b, k)), (k, tt))))))
  good-phrase (expr rule) q i =
      let b = deep in
      let k = q.1 in
      all-at (λ r. Good l (goals (expr rule) d r.items ++ g)) i ((b, (b, k)), ((b, (b, k)), ((b, k), ((b, k), ((b, (b, k)), ((b, (b, k)), ((b, k), tt)))))))
  good-phrase (steps c) q i = let b = deep in all-at (λ r. Good l (goals (steps c) d r.items ++ g)) i ((b, q), ((b, q), ((b, q), ((b, q), ((b, (b, (b, q))), tt)))))

module _ (name : Naming) (l : Limits) (some : (k : Kind) → SomeNumber l k) where
  pub good-then : {s : Slot} {d : ℕ} {t : Token} {c : List ℕ} {then : List Goal} → Begins name l s d t c then → (g : List Goal) → d ≤ l.deepest → Good l (thing s d ∷ g) → Good l (then ++ g)
  good-then {s} {d} (by_word r i) g h q = good-phrase l d g h s q i
  good-then (label x f) g h q = q.1
  good-then (nominal x f) g h q = q.1
  good-then (arrow_kind x f) g h q = q.1
  good-then closing-else g h q = q.1
  good-then closing_end g h q = q.1

  -- The tokens that begin a thing also begin it if more levels are allowed.
  pub begins-wider : {s : Slot} {d : ℕ} {t : Token} {c : List ℕ} {then : List Goal} → Begins name l s d t c then → Begins name (two_deeper l) s d t c then
  begins-wider (by_word r i) = by_word r i
  begins-wider (label x f) = label x f
  begins-wider (nominal x f) = nominal x f
  begins-wider (arrow_kind x f) = arrow_kind x f
  begins-wider closing-else = closing-else
  begins-wider closing_end = closing_end

  abbrev pub Ends : List Goal → ℕ → Type 0
  Ends g m = (bytes : List ℕ) × Said name (two_deeper l) bytes g m

  an-all : (d : ℕ) (g : List Goal) (m : ℕ) → d ≤ l.deepest + 2 → Ends g m → Ends (thing (expr node) d ∷ g) m
  unfolding phrases goals bracketed
  an-all d g m h e = (0x01 ∷ e.0, phrase-said name (two_deeper l) first h e.1)

  pub ends : (g : List Goal) (m : ℕ) → Good l g → Ends g m
  unfolding phrases goals bracketed after_comma
  ends [] m q = ([], record { tokens = []; says = nothing })
  ends (mark t ∷ g) m q = let e = ends g m q in (e.0, a-mark-said name (two_deeper l) e.1)
  ends (number k ∷ g) m q = let e = ends g m q in let n = some k in (n.x ∷ e.0, number-said name (two_deeper l) n.x n.in-range e.1)
  ends (thing (expr node) d ∷ g) m q = an-all d g m (omega arith) (ends g m q.1)
  ends (thing (expr arrow) d ∷ g) m q = let e = ends g m q.1 in let n = some arrow_number in (0x11 ∷ n.x ∷ e.0, begin-said name (two_deeper l) (omega arith) (arrow_kind n.x n.in-range) e.1)
  ends (thing (expr rule) d ∷ g) m q =
      let e = ends g m q.1 in
      let f = an-all (suc d) (mark (ascii ")") ∷ g) m (omega arith) (e.0, a-mark-said name (two_deeper l) e.1) in
      let k = an-all (suc d) (mark (ascii ",") ∷ thing (expr node) (suc d) ∷ mark (ascii ")") ∷ g) m (omega arith) (f.0, a-mark-said name (two_deeper l) f.1) in
      (0x21 ∷ k.0, phrase-said name (two_deeper l) first (omega arith) (a-mark-said name (two_deeper l) k.1))
  ends (thing (steps at_else) d ∷ g) m q = let e = ends g m q.1 in (0x30 ∷ e.0, begin-said name (two_deeper l) (omega arith) closing-else e.1)
  ends (thing (steps at_end) d ∷ g) m q = let e = ends g m q.1 in (0x30 ∷ e.0, begin-said name (two_deeper l) (omega arith) closing_end e.1)
  ends (thing (steps text_end) d ∷ g) m q = (0x30 ∷ [], record { tokens = []; says = last {d = d} (omega arith) (subst (λ z. Says name (two_deeper l) [] [] z m) (sym q.1) nothing) })
