-- Terms in a raised text: where a byte is below 128, a term begins.
use mathlib.Core.Path.{◌≡◌, refl, sym, ap, ◌∙◌, subst}
use mathlib.Core.List.{List, [], ◌∷◌, ◌++◌, append-nil}
use Prim.Native.Nat.{ℕ, zero, suc, ◌+◌, ◌-◌, ◌≤◌, ◌<◌}
use native.Mathlib.Decide.{dec_lt}
use native.Mathlib.Omega.{arith}
use lib.ListN.{length, get_or, length-append, get_or-append}
use lib.Seq.{get_or-append-add}
use Rattle.logic.specs.Syntax.{Sort, Expr}
use Rattle.logic.specs.Arity.{Unary, Binary, build1, build2, Nullary, build0, by_arity}
use Rattle.text.specs.Code.{code}
use Rattle.text.specs.Heads.{head1, head2}
use Rattle.text.proofs.HeadLaws.{code-1, code-2}
use Rattle.shortening.proofs.StandingTerms.{StandsIn, stands-root, stands-only, stands-first, stands-second}
use Rattle.check_steps.proofs.Spans.{raised-length}
use Rattle.check_steps.proofs.TermHeads.{Head, head-0, head-1, head-2}
use Rattle.check_steps.proofs.Texts.{text_of, marks, numbers, length-marks, front, front_length, text-leaf, text-one, text-two}

-- a raised number is not below 128
marks-high : (ns : List ℕ) (i : ℕ) → i < length ns → 128 ≤ get_or (marks ns) i 0
marks-high [] i h = absurd (omega arith)
marks-high (x ∷ ns) zero h = omega arith
marks-high (x ∷ ns) (suc i) h = marks-high ns i (omega arith)

head-place : {h : List ℕ} {k : ℕ} (H : Head h k) (z : List ℕ) (at : ℕ) → at < length h → get_or (front H ++ z) at 0 < 128 → at ≡ 0
head-place H z zero l b = refl
head-place H z (suc i) l b =
    let m : i < length (marks (numbers H)) = omega (arith, ap length H.is, length-marks (numbers H)) in
    absurd (omega (arith, marks-high (numbers H) i (omega (arith, length-marks (numbers H))), get_or-append (marks (numbers H)) z 0 i m))

past_head : {h : List ℕ} {k : ℕ} (H : Head h k) (z : List ℕ) (at : ℕ) → length h ≤ at → get_or (front H ++ z) at 0 ≡ get_or z (at - length h) 0
past_head {h} H z at l =
    let e : at ≡ length (front H) + (at - length h) = omega (arith, front_length H) in
    ap (λ n. get_or (front H ++ z) n 0) e ∙ get_or-append-add (front H) z (at - length h) 0

-- "The offset must be that of the code": where a byte is below 128, a term begins.
abbrev Placed : {s : Sort} → Expr s → Type 0
Placed e = (at : ℕ) → at < length (code e) → get_or (text_of e) at 0 < 128 → StandsIn e at

pub place_at : {t : Sort} (e : Expr t) (at : ℕ) → at < length (code e) → get_or (text_of e) at 0 < 128 → StandsIn e at
place_at e = by_arity (λ s e. Placed e) leaf one two e where
  leaf : (s : Sort) (b : Nullary s) → Placed (build0 b)
  leaf s b at l q = stands-root (build0 b) at (head-place (head-0 b) [] at l (subst (λ t. get_or t at 0 < 128) (text-leaf b ∙ sym (append-nil (front (head-0 b)))) q))

  one : (u t : Sort) (b : Unary u t) (x : Expr u) → Placed x → Placed (build1 b x)
  one u t b x f at l q = go (dec_lt at h) (rw text-one at q) where
    h : ℕ
    h = length (head1 b)

    go : Dec (at < h) → get_or (front (head-1 b) ++ text_of x) at 0 < 128 → StandsIn (build1 b x) at
    go (yes k) q = stands-root (build1 b x) at (head-place (head-1 b) (text_of x) at k q)
    go (no k) q =
        let byte = past_head (head-1 b) (text_of x) at (omega arith) in
        stands-only b x (at - h) at (omega arith) (f (at - h) (omega (arith, ap length (code-1 b x), length-append (head1 b) (code x))) (omega (arith, byte)))

  two : (u v t : Sort) (b : Binary u v t) (x : Expr u) (y : Expr v) → Placed x → Placed y → Placed (build2 b x y)
  two u v t b x y f g at l q = go (dec_lt at h) (dec_lt (at - h) n) (rw text-two at q) where
    h : ℕ
    h = length (head2 b)

    n : ℕ
    n = length (code x)

    z : List ℕ
    z = text_of x ++ text_of y

    sizes : at < h + (n + length (code y))
    sizes = omega (arith, ap length (code-2 b x y), length-append (head2 b) (code x ++ code y), length-append (code x) (code y))

    go : Dec (at < h) → Dec (at - h < n) → get_or (front (head-2 b) ++ z) at 0 < 128 → StandsIn (build2 b x y) at
    go (yes k) d q = stands-root (build2 b x y) at (head-place (head-2 b) z at k q)
    go (no k) (yes d) q =
        let byte = past_head (head-2 b) z at (omega arith) ∙ get_or-append (text_of x) (text_of y) 0 (at - h) (omega (arith, raised-length 0 (code x))) in
        stands-first b x y (at - h) at (omega arith) (f (at - h) d (omega (arith, byte)))
    go (no k) (no d) q =
        let e : at - h ≡ length (text_of x) + (at - h - n) = omega (arith, raised-length 0 (code x)) in
        let byte = past_head (head-2 b) z at (omega arith) ∙ ap (λ i. get_or z i 0) e ∙ get_or-append-add (text_of x) (text_of y) (at - h - n) 0 in
        stands-second b x y (at - h - n) at (omega arith) (g (at - h - n) (omega (arith, sizes)) (omega (arith, byte)))
