-- A page written line by line at the start of an output.
use mathlib.Core.Path.{◌≡◌, refl, sym, ◌∙◌, ap, ap₂}
use mathlib.Core.List.{List, [], ◌∷◌, ◌++◌, append_assoc}
use Prim.Native.Nat.{ℕ, ◌+◌, ◌-◌, ◌*◌, ◌≤◌}
use native.Mathlib.Omega.{arith}
use lib.ListN.{length, take, drop, length-append, length-drop, length-replicate}
use lib.Seq.{take_at, drop-append-add, drop-drop}
use borrow.Rule.Slice.PartMut.{put_mid, Post-is}
use Rattle.answer.specs.Outputs.{written_at_start}
use Rattle.logic.specs.Graph.{Nodes}
use Rattle.decimal.proofs.DigitLaws.{digits-length}
use Rattle.sheet.specs.Sheet.{chunks}
use Rattle.sheet.proofs.ChunkLaws.{length-chunks, chunks-more}
use Rattle.pages.specs.Typed.{Block, arrows, labels, head_of}
use Rattle.pages.specs.Page.{head_line, square, squares, set_line}

pub length-head_line : (letter x : ℕ) → length (head_line letter x) ≡ 64
length-head_line letter x = unfold head_line in simp length-append (omega (arith, length-replicate {A = ℕ} 60 0x20, digits-length 2 x))

pub length-head_of : (n : ℕ) (b : Block) → length (head_of n b) ≡ 64
length-head_of n (arrows a) = length-head_line 0x41 a
length-head_of n labels = length-head_line 0x4C n

pub length-set_line : (n x : ℕ) (v : Nodes) → length (set_line n x v) ≡ 64
length-set_line n x v = unfold set_line squares in simp length-append (omega (arith, length-chunks 1 (λ j. square n v j ∷ []) (λ j. refl) 60 0, digits-length 2 x))

-- The first x lines are written over the start of an output.
pub record Grown (output : List ℕ) (n : ℕ) (v : ℕ → Nodes) (x : ℕ) (out : List ℕ) : Type 0 where
  pub room : 64 * x ≤ length output
  pub is : out ≡ chunks x 0 (λ i. set_line n i (v i)) ++ drop (64 * x) output

pub grown-first : {output : List ℕ} {n : ℕ} {v : ℕ → Nodes} → Grown output n v 0 output
grown-first = unfold chunks in record { room = omega arith; is = refl }

module _ {output : List ℕ} {n : ℕ} {v : ℕ → Nodes} {x : ℕ} {out : List ℕ} (g : Grown output n v x out) where
  abbrev f : ℕ → List ℕ
  f i = set_line n i (v i)

  lines-length : (m : ℕ) → length (chunks m 0 f) ≡ 64 * m
  lines-length m = length-chunks 64 f (λ i. length-set_line n i (v i)) m 0

  pub grown-length : length out ≡ length output
  grown-length = rw (g.is, length-append, length-drop) (omega (arith, lines-length x, g.room))

  module _ (h : 64 * x + 64 ≤ length output) where
    pub grown-next : {l : List ℕ} → l ≡ f x → Grown output n v (x + 1) (put_mid (64 * x) (64 * x + 64 - 64 * x) out l)
    grown-next {l} e =
        let front = chunks x 0 f in
        let w = lines-length x in
        let s : 64 * x + 64 ≡ 64 * (x + 1) = omega arith in
        record {
          room = omega arith;
          is =
              ap (λ z. take (64 * x) out ++ (l ++ z)) (Post-is (64 * x) (64 * x + 64) out (omega (arith, grown-length)))
              ∙ ap₂ (λ y z. y ++ (l ++ z)) (ap (take (64 * x)) g.is ∙ take_at front (drop (64 * x) output) (64 * x) w)
              (ap (drop (64 * x + 64)) g.is ∙ ap (λ k. drop (k + 64) (front ++ drop (64 * x) output)) (sym w)
              ∙ drop-append-add front (drop (64 * x) output) 64 ∙ drop-drop 64 (64 * x) output)
              ∙ ap (λ z. front ++ (z ++ drop (64 * x + 64) output)) e ∙ sym (append_assoc front (f x) _)
              ∙ ap₂ (λ y z. y ++ drop z output) (sym (chunks-more x f)) s;
        }

  -- all m lines
  pub grown-last : (m : ℕ) → x ≤ m → m ≤ x → out ≡ written_at_start (chunks m 0 f) output
  grown-last m a b =
      let e : x ≡ m = omega arith in
      g.is ∙ ap (λ k. chunks k 0 f ++ drop (64 * k) output) e ∙ ap (λ k. chunks m 0 f ++ drop k output) (sym (lines-length m))
