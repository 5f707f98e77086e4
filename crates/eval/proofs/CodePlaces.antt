-- What stands in a text at the place of an expression: its code, its numbers, its operands.
use mathlib.Core.Path.{◌≡◌, refl, sym, ap, ◌∙◌, subst}
use mathlib.Core.Bool.{Bool, cond}
use mathlib.Core.List.{List, [], ◌∷◌, ◌++◌, append_assoc}
use Prim.Native.Nat.{ℕ, ◌+◌, ◌≤◌, ◌<◌}
use native.Mathlib.Omega.{arith}
use lib.Dec.{leb}
use borrow.Author.Tests.{le-leb, lt-leb}
use lib.ListN.{length, get_or, drop, length-append, get_or-append}
use lib.Seq.{get_or-drop}
use Rattle.logic.specs.Syntax.{Sort, Expr}
use Rattle.logic.specs.Graph.{Graph}
use Rattle.logic.specs.Meaning.{Value, value}
use Rattle.logic.specs.Limits.{Ranges, InRange}
use Rattle.text.specs.Code.{code}
use Rattle.text.specs.Stands.{Stands, SomeStands}
use Rattle.text.proofs.StandingLaws.{byte_at, behind, within}
use Rattle.text.proofs.HeadLaws.{code-some}

-- the number bytes after a code
pub first-number : (text : List ℕ) (at x m : ℕ) (l : List ℕ) → drop at text ≡ x ∷ m ∷ l → get_or text (at + 1) 0 ≡ m
first-number text at x m l e = byte_at text (at + 1) m l (behind text at (x ∷ []) (m ∷ l) e)

pub second-number : (text : List ℕ) (at x y m : ℕ) (l : List ℕ) → drop at text ≡ x ∷ y ∷ m ∷ l → get_or text (at + 2) 0 ≡ m
second-number text at x y m l e = byte_at text (at + 2) m l (behind text at (x ∷ y ∷ []) (m ∷ l) e)

-- The code byte of an expression.
abbrev pub code_byte : {s : Sort} → Expr s → ℕ
code_byte e = get_or (code e) 0 0

module _ (r : Ranges) (text : List ℕ) (at : ℕ) {s : Sort} (e : Expr s) (h : Stands r text at e) where
  pub code_at : get_or text at 0 ≡ code_byte e
  code_at = let z : at ≡ at + 0 = omega arith in ap (λ k. get_or text k 0) z ∙ sym (get_or-drop at text 0 0) ∙ ap (λ l. get_or l 0 0) h.here ∙ get_or-append (code e) h.rest 0 0 (code-some e)

  -- What holds for a term by its code holds by the byte read.
  pub by_byte : (P : ℕ → Expr s → Type 0) → P (code_byte e) e → (c : ℕ) → get_or text at 0 ≡ c → P c e
  by_byte P x c q = subst (λ (c : ℕ). P c e) (sym code_at ∙ q) x

  pub inside-at : at + length (code e) ≤ length text
  inside-at = omega (arith, within text at (code e) h.rest h.here, code-some e)

  pub starts-inside : at < length text
  starts-inside = omega (arith, inside-at, code-some e)

pub some-inside : {r : Ranges} {text : List ℕ} {at : ℕ} {s : Sort} → SomeStands r text at s → at < length text
some-inside h = starts-inside _ _ _ h.what h.stands

-- Which of two it is, by a bound on the code.
pub below : {c : ℕ} (k : ℕ) (A B : Type 0) → cond (leb c k) A B → c ≤ k → A
below {c} k A B x h = subst (λ (b : Bool). cond b A B) (le-leb c k h) x

pub above : {c : ℕ} (k : ℕ) (A B : Type 0) → cond (leb c k) A B → k < c → B
above {c} k A B x h = subst (λ (b : Bool). cond b A B) (lt-leb c k h) x

-- A term of k bytes without operands: what is known about its numbers, and what it means by them.
pub record Leaf (text : List ℕ) (at k : ℕ) (numbers : Type 0) {s : Sort} (mean : Graph → Value s) (e : Expr s) : Type 0 where
  pub range : numbers
  pub means : (g : Graph) → value g e ≡ mean g
  pub inside : at + k ≤ length text
  pub size : length (code e) ≡ k

-- A term of one operand, k bytes after the code.
pub record One (r : Ranges) (text : List ℕ) (at k : ℕ) (numbers : Type 0) {s : Sort} (a : Sort) (mean : Graph → Value a → Value s) (e : Expr s) : Type 0 where
  pub A : Expr a
  pub range : numbers
  pub means : (g : Graph) → value g e ≡ mean g (value g A)
  pub first : Stands r text (at + k) A
  pub inside : at + k < length text
  pub size : length (code e) ≡ k + length (code A)

-- A term of two operands, the first k bytes after the code.
pub record Two (r : Ranges) (text : List ℕ) (at k : ℕ) {s : Sort} (a b : Sort) (mean : Graph → Value a → Value b → Value s) (e : Expr s) : Type 0 where
  pub A : Expr a
  pub B : Expr b
  pub means : (g : Graph) → value g e ≡ mean g (value g A) (value g B)
  pub first : Stands r text (at + k) A
  pub second : (next : ℕ) → next ≡ at + k + length (code A) → Stands r text next B
  pub behind-code : 0 < k
  pub inside : at + k < length text
  pub size : length (code e) ≡ k + (length (code A) + length (code B))

-- The operands, as something that stands there.
module _ {r : Ranges} {text : List ℕ} {at k : ℕ} {s a : Sort} {e : Expr s} where
  pub operand : {P : Type 0} {mean : Graph → Value a → Value s} → One r text at k P a mean e → SomeStands r text (at + k) a
  operand q = record { what = q.A; stands = q.first }

  module _ {b : Sort} {mean : Graph → Value a → Value b → Value s} (q : Two r text at k a b mean e) where
    pub operand-1 : SomeStands r text (at + k) a
    operand-1 = record { what = q.A; stands = q.first }

    pub operand-2 : {next : ℕ} → next ≡ at + k + length (code q.A) → SomeStands r text next b
    operand-2 {next} ends = record { what = q.B; stands = q.second next ends }

module _ {r : Ranges} {text : List ℕ} {at : ℕ} {s : Sort} {e : Expr s} (stands : Stands r text at e) where
  pub leaf-at : {P : Type 0} {mean : Graph → Value s} → P → ((g : Graph) → value g e ≡ mean g) → Leaf text at (length (code e)) P mean e
  leaf-at p m = record { range = p; means = m; inside = inside-at r text at e stands; size = refl }

  -- the bytes before the operands: the code x, the numbers l
  module _ (x : ℕ) (l : List ℕ) {a : Sort} (A : Expr a) where
    pub one_at : {P : Type 0} {mean : Graph → Value a → Value s} → P → ((g : Graph) → value g e ≡ mean g (value g A)) → code e ≡ x ∷ l ++ code A → InRange r A → One r text at (length (x ∷ l)) P a mean e
    one_at n m c q =
        let h = x ∷ l in
        let f : drop at text ≡ h ++ (code A ++ stands.rest) = stands.here ∙ ap (◌++ stands.rest) c ∙ append_assoc h (code A) stands.rest in
        record {
          A = A;
          range = n;
          means = m;
          first = record { rest = stands.rest; here = behind text at h (code A ++ stands.rest) f; range = q };
          inside = omega (arith, within text at h (code A ++ stands.rest) f, length-append (code A) stands.rest, code-some A);
          size = ap length c ∙ length-append h (code A);
        }

    pub two_at : {b : Sort} (B : Expr b) {mean : Graph → Value a → Value b → Value s} → ((g : Graph) → value g e ≡ mean g (value g A) (value g B)) → code e ≡ x ∷ l ++ code A ++ code B → InRange r A → InRange r B → Two r text at (length (x ∷ l)) a b mean e
    two_at B m c p q =
        let h = x ∷ l in
        let f : drop at text ≡ h ++ (code A ++ (code B ++ stands.rest)) = stands.here ∙ ap (◌++ stands.rest) c ∙ append_assoc (h ++ code A) (code B) stands.rest ∙ append_assoc h (code A) (code B ++ stands.rest) in
        let g : drop (at + length h) text ≡ code A ++ (code B ++ stands.rest) = behind text at h (code A ++ (code B ++ stands.rest)) f in
        record {
          A = A;
          B = B;
          means = m;
          first = record { rest = code B ++ stands.rest; here = g; range = p };
          second = λ next n. record { rest = stands.rest; here = ap (λ (k : ℕ). drop k text) n ∙ behind text (at + length h) (code A) (code B ++ stands.rest) g; range = q };
          behind-code = omega arith;
          inside = omega (arith, within text at h (code A ++ (code B ++ stands.rest)) f, length-append (code A) (code B ++ stands.rest), code-some A);
          size = omega (arith, ap length c, length-append (h ++ code A) (code B), length-append h (code A));
        }
