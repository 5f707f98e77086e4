use mathlib.Core.Path.{◌≡◌, refl, sym, ap, ◌∙◌}
use mathlib.Core.Bool.{◌&&◌}
use mathlib.Core.List.{List}
use Prim.Native.Nat.{ℕ, ◌%◌}
use native.Mathlib.Nat.{mod-lt}
use lib.Dec.{eqb, lit<}
use lib.ListN.{length, get_or, take}
use Rattle.seal.specs.Seal.{block_bytes, modulo255, seal_right_def}
use Rattle.seal.specs.Lanes.{total, weighed}
use Rattle.seal.proofs.TotalLaws.{sums-total, sums-weighed}
use Rattle.seal.proofs.CodeLaws.{right-255, and-then, and-else}
use Rattle.seal.proofs.right_255.Goals as goal

-- the check bytes, and the remainders that they are compared with
compared : (k : List ℕ) → length k ≡ block_bytes → (s t : ℕ) → s ≡ total (take 510 k) → t ≡ weighed (take 510 k) → (x y : ℕ) → x ≡ get_or k 510 0 → y ≡ get_or k 511 0
    → seal_right_def modulo255 k ≡ (eqb x (s % modulo255.modulus) && eqb y (t % modulo255.modulus))
compared k h s t e f x y g i =
    rw (g, i)
    (right-255 k h _ _ (mod-lt s (lit< tt)) (mod-lt t (lit< tt))
    (ap (◌% modulo255.modulus) e ∙ sym (sums-total modulo255 (take 510 k))) (ap (◌% modulo255.modulus) f ∙ sym (sums-weighed modulo255 (take 510 k))))

pub returns-then-from-all : goal.returns-then-from-all
returns-then-from-all c =
    let r = c.totals_to-all.ensures in
    and-then _ _ _ _ (compared c.args.block.now c.requires _ _ r.0 r.1 _ _ c.from.ensures c.from-then-from-all.ensures) c.if-from-all.true

pub returns-else-from-all : goal.returns-else-from-all
returns-else-from-all c =
    let r = c.totals_to-all.ensures in
    and-else _ _ _ _ (compared c.args.block.now c.requires _ _ r.0 r.1 _ _ c.from.ensures refl) c.if-from-all.false
