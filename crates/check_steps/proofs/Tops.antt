-- The first byte of a term, and what kind of term a byte begins.
use mathlib.Core.Path.{◌≡◌, refl, subst}
use mathlib.Core.Bool.{cond}
use Prim.Native.Nat.{ℕ, ◌≤◌}
use native.Mathlib.Omega.{arith}
use lib.Dec.{eqb}
use lib.ListN.{length, get_or}
use Rattle.logic.specs.Syntax.{Sort, node, arrow, rule, Expr, all, none, label, nominal, complement, and, or, some, every, at_least, at_most, arrow_kind, reversed, union, common, minus, ending_in, pair, sub_nodes, sub_arrows, node_in, pair_in, both, either, not_rule}
use Rattle.text.specs.Code.{code}
use Rattle.text.proofs.HeadLaws.{code-some}
use Rattle.check_steps.specs.Raised.{raised_byte_def, raised}
use Rattle.check_steps.proofs.Spans.{raised-length}
use Rattle.check_steps.proofs.Texts.{text_of}

-- Every term has a first byte.
pub text-some : {s : Sort} (e : Expr s) → 1 ≤ length (text_of e)
text-some e = omega (arith, raised-length 0 (code e), code-some e)

abbrev pub top : {s : Sort} → Expr s → ℕ
top e = get_or (text_of e) 0 0

-- What is known about a term from its first byte: if a law has that code, what the term is made of; else that it is one of the sort's codes.
abbrev pub Begun : (s : Sort) → ℕ → Expr s → Type 0
Begun node c e =
    cond (eqb c 0x01) (e ≡ all)
    (cond (eqb c 0x05) ((x : Expr node) × (e ≡ complement x))
    (cond (eqb c 0x06) ((x : Expr node) × (y : Expr node) × (e ≡ and x y))
    (cond (eqb c 0x07) ((x : Expr node) × (y : Expr node) × (e ≡ or x y)) ((0x02 ≤ c) × (c ≤ 0x0B)))))
Begun arrow c e = (0x11 ≤ c) × (c ≤ 0x17)
Begun rule c e =
    cond (eqb c 0x26) ((x : Expr rule) × (y : Expr rule) × (e ≡ either x y))
    (cond (eqb c 0x27) ((x : Expr rule) × (e ≡ not_rule x)) ((0x21 ≤ c) × (c ≤ 0x25)))

begun : {s : Sort} (e : Expr s) → Begun s (top e) e
unfolding code raised raised_byte_def
begun all = refl
begun none = omega arith
begun (label k) = omega arith
begun (nominal k) = omega arith
begun (complement E) = (E, refl)
begun (and E F) = (E, F, refl)
begun (or E F) = (E, F, refl)
begun (some R E) = omega arith
begun (every R E) = omega arith
begun (at_least k R E) = omega arith
begun (at_most k R E) = omega arith
begun (arrow_kind k) = omega arith
begun (reversed R) = omega arith
begun (union R S) = omega arith
begun (common R S) = omega arith
begun (minus R S) = omega arith
begun (ending_in R E) = omega arith
begun (pair k l) = omega arith
begun (sub_nodes E F) = omega arith
begun (sub_arrows R S) = omega arith
begun (node_in k E) = omega arith
begun (pair_in k l R) = omega arith
begun (both K L) = omega arith
begun (either K L) = (K, L, refl)
begun (not_rule K) = (K, refl)

pub begun-by : {s : Sort} (e : Expr s) (c : ℕ) → top e ≡ c → Begun s c e
begun-by {s} e c q = subst (λ c. Begun s c e) q (begun e)
