-- A rule that stands at a place, built as its code byte says.
use mathlib.Core.Path.{◌≡◌, refl, sym, ap, ◌∙◌, subst}
use mathlib.Core.Bool.{cond}
use mathlib.Core.List.{List, [], ◌∷◌, ◌++◌, append_assoc}
use Prim.Native.Nat.{ℕ, ◌+◌, ◌≤◌, ◌<◌}
use native.Mathlib.Omega.{arith}
use lib.Dec.{leb}
use lib.ListN.{length, get_or, drop, length-append}
use Rattle.logic.specs.Syntax.{Sort, node, arrow, rule, Expr, sub_nodes, sub_arrows, node_in, pair_in, both, either, not_rule}
use Rattle.logic.specs.Limits.{ranges, InRange}
use Rattle.text.specs.Code.{code}
use Rattle.text.specs.Stands.{Stands}
use Rattle.text.proofs.StandingLaws.{behind}
use Rattle.eval.proofs.CodePlaces.{code_byte, by_byte, below, above}

-- e is built from two operands, or from one
abbrev Of2 : {u v : Sort} → (Expr u → Expr v → Expr rule) → Expr rule → Type 0
Of2 {u} {v} build e = (x : Expr u) × (y : Expr v) × (e ≡ build x y)

abbrev Built : ℕ → Expr rule → Type 0
Built c e =
    cond (leb c 0x24)
    (cond (leb c 0x21) (Of2 sub_nodes e)
    (cond (leb c 0x22) (Of2 sub_arrows e)
    (cond (leb c 0x23) ((i : ℕ) × (E : Expr node) × (e ≡ node_in i E)) ((i : ℕ) × (j : ℕ) × (R : Expr arrow) × (e ≡ pair_in i j R)))))
    (cond (leb c 0x25) (Of2 both e)
    (cond (leb c 0x26) (Of2 either e) ((K : Expr rule) × (e ≡ not_rule K))))

built : (e : Expr rule) → Built (code_byte e) e
unfolding code
built (sub_nodes E F) = (E, F, refl)
built (sub_arrows R S) = (R, S, refl)
built (node_in i E) = (i, E, refl)
built (pair_in i j R) = (i, j, R, refl)
built (both K L) = (K, L, refl)
built (either K L) = (K, L, refl)
built (not_rule K) = (K, refl)

-- A rule's code byte is 21 or above.
least : (e : Expr rule) → 0x20 < code_byte e
unfolding code
least (sub_nodes E F) = omega arith
least (sub_arrows R S) = omega arith
least (node_in i E) = omega arith
least (pair_in i j R) = omega arith
least (both K L) = omega arith
least (either K L) = omega arith
least (not_rule K) = omega arith

module _ (n : ℕ) (text : List ℕ) (at : ℕ) where
  pub rule-code : (e : Expr rule) → Stands (ranges n) text at e → 0x20 < get_or text at 0
  rule-code e h = by_byte (ranges n) text at e h (λ c f. 0x20 < c) (least e) _ refl

  -- What holds for a rule built in this way holds for the rule that stands here.
  module _ (P : Expr rule → Type 0) (e : Expr rule) (h : Stands (ranges n) text at e) where
    shown : (c : ℕ) → get_or text at 0 ≡ c → Built c e
    shown = by_byte (ranges n) text at e h Built (built e)

    when : {x : Expr rule} → e ≡ x → (Stands (ranges n) text at x → P x) → P e
    when {x} q f = subst (λ y. Stands (ranges n) text at y → P y) (sym q) f h

    pub as-sub-nodes : get_or text at 0 ≤ 0x21 → ((E F : Expr node) → Stands (ranges n) text at (sub_nodes E F) → P (sub_nodes E F)) → P e
    as-sub-nodes u f = let (E, F, q) = below 0x21 _ _ (below {c = get_or text at 0} 0x24 _ _ (shown _ refl) (omega arith)) u in when q (f E F)

    pub as-sub-arrows : get_or text at 0 ≡ 0x22 → ((R S : Expr arrow) → Stands (ranges n) text at (sub_arrows R S) → P (sub_arrows R S)) → P e
    as-sub-arrows u f = let (R, S, q) = shown 0x22 u in when q (f R S)

    pub as-node-in : get_or text at 0 ≡ 0x23 → ((i : ℕ) (E : Expr node) → Stands (ranges n) text at (node_in i E) → P (node_in i E)) → P e
    as-node-in u f = let (i, E, q) = shown 0x23 u in when q (f i E)

    pub as-pair-in : get_or text at 0 ≡ 0x24 → ((i j : ℕ) (R : Expr arrow) → Stands (ranges n) text at (pair_in i j R) → P (pair_in i j R)) → P e
    as-pair-in u f = let (i, j, R, q) = shown 0x24 u in when q (f i j R)

    pub as-both : get_or text at 0 ≡ 0x25 → ((K L : Expr rule) → Stands (ranges n) text at (both K L) → P (both K L)) → P e
    as-both u f = let (K, L, q) = shown 0x25 u in when q (f K L)

    pub as-either : get_or text at 0 ≡ 0x26 → ((K L : Expr rule) → Stands (ranges n) text at (either K L) → P (either K L)) → P e
    as-either u f = let (K, L, q) = shown 0x26 u in when q (f K L)

    pub as-not : 0x26 < get_or text at 0 → ((K : Expr rule) → Stands (ranges n) text at (not_rule K) → P (not_rule K)) → P e
    as-not l f = let (K, q) = above {c = get_or text at 0} 0x26 _ _ (above {c = get_or text at 0} 0x25 _ _ (above {c = get_or text at 0} 0x24 _ _ (shown _ refl) (omega arith)) (omega arith)) l in when q (f K)

-- The two operands of a rule stand one after the other, after its code byte.
pub record Operands (n : ℕ) (text : List ℕ) (at : ℕ) (e : Expr rule) {u v : Sort} (A : Expr u) (B : Expr v) : Type 0 where
  pub first : Stands (ranges n) text (at + 1) A
  pub second : (next : ℕ) → next ≡ at + 1 + length (code A) → Stands (ranges n) text next B
  pub size : length (code e) ≡ 1 + (length (code A) + length (code B))

pub operands : {n : ℕ} {text : List ℕ} {at : ℕ} {e : Expr rule} (x : ℕ) {u v : Sort} (A : Expr u) (B : Expr v) → code e ≡ x ∷ code A ++ code B → InRange (ranges n) A → InRange (ranges n) B → Stands (ranges n) text at e → Operands n text at e A B
operands {n} {text} {at} {e} x A B c p q h =
    let here : drop at text ≡ (x ∷ []) ++ (code A ++ (code B ++ h.rest)) = h.here ∙ ap (◌++ h.rest) c ∙ ap (x ∷◌) (append_assoc (code A) (code B) h.rest) in
    let first : drop (at + 1) text ≡ code A ++ (code B ++ h.rest) = behind text at (x ∷ []) (code A ++ (code B ++ h.rest)) here in
    record {
      first = record { rest = code B ++ h.rest; here = first; range = p };
      second = λ next e. record { rest = h.rest; here = ap (λ (k : ℕ). drop k text) e ∙ behind text (at + 1) (code A) (code B ++ h.rest) first; range = q };
      size = omega (arith, ap length c, length-append (code A) (code B));
    }
