use mathlib.Core.Path.{◌≡◌, refl, sym, ◌∙◌}
use mathlib.Core.Bool.{and-false}
use mathlib.Core.Logic.{inl, inr}
use mathlib.Core.List.{List}
use Prim.Native.Nat.{ℕ, ◌+◌, ◌*◌, ◌/◌, ◌%◌}
use native.Mathlib.Omega.{arith}
use borrow.Author.Tests.{lt-leb, ne_eqb}
use lib.ListN.{length, get_or}
use Rattle.logic.specs.Limits.{max_nodes}
use Rattle.bitset.specs.Words.{Bytes, word_at}
use Rattle.seal.specs.Seal.{block_bytes}
use Rattle.sheet.proofs.SheetQuestionLaws.{head_first, head-later, head-used, count-wrong}
use Rattle.sheet.proofs.BlockHeads.{head-number, not_first, later}
use Rattle.sheet.proofs.block.head_right.Goals as goal
use Rattle.sheet.proofs.block.head_right.Goals.{then-n-ge1, else-n-ge1, then-head-eq1, else-head-eq1}

-- the first three bytes as one number, and the third
headed : (k : List ℕ) → length k ≡ block_bytes → Bytes k → (w : ℕ) → w ≡ word_at k 0
    → (w % 0x1000000 ≡ get_or k 0 0 + get_or k 1 0 * 0x100 + get_or k 2 0 * 0x10000) × (w % 0x1000000 / 0x10000 ≡ get_or k 2 0)
headed k h bytes w e = let head = head-number k h bytes w e in (head, omega (arith, head, bytes 0, bytes 1))

pub returns-then-n-le-NODES : goal.returns-then-n-le-NODES
returns-then-n-le-NODES c = λ φ n nodes told.
    let k = c.args.block.now in
    let bytes : Bytes k = λ i. omega (arith, c.type_inv.block i) in
    let h = headed k c.requires.0 bytes _ c.load-head.ensures in
    let (one, some, few) = c.if-n-le-NODES.true in
    head-used φ k c.args.b n c.args.all nodes told c.if-b-eq0.true
    (omega (arith, h.0, one, bytes 0, bytes 1)) (omega (arith, h.0, one, bytes 0, bytes 1)) (omega (arith, h.1, some)) (omega (arith, h.1, few))

pub returns-else-n-le-NODES : goal.returns-else-n-le-NODES
returns-else-n-le-NODES c = λ φ n nodes told.
    let k = c.args.block.now in
    let bytes : Bytes k = λ i. omega (arith, c.type_inv.block i) in
    let h = headed k c.requires.0 bytes _ c.load-head.ensures in
    let b0 = c.if-b-eq0.true in
    elim c.if-n-ge1.branch [
      | then-n-ge1 w ↦
          elim c.if-n-le-NODES.either [
            | inl x ↦ w.t-9-is ∙ lt-leb _ _ x.2 ∙ sym (count-wrong φ k c.args.b b0 (rw (lt-leb (get_or k 2 0) max_nodes (omega (arith, h.1, x.2)), and-false) refl))
            | inr x ↦ elim x [ inl y ↦ absurd (omega (arith, y.1, w.if-n-ge1.true.1)) | inr y ↦ absurd (y w.if-n-ge1.true.0) ]
          ]
      | else-n-ge1 w ↦
          elim c.if-head-eq1.branch [
            | then-head-eq1 v ↦
                elim w.if-n-ge1.either [
                  | inl x ↦ w.t-9-is ∙ v.t-10-is ∙ lt-leb _ _ x.1 ∙ sym (count-wrong φ k c.args.b b0 (rw (lt-leb 1 (get_or k 2 0) (omega (arith, h.1, x.1))) refl))
                  | inr x ↦ absurd (x v.if-head-eq1.true)
                ]
            | else-head-eq1 v ↦ w.t-9-is ∙ v.t-10-is ∙ ne_eqb _ _ v.if-head-eq1.false ∙ sym (head_first φ k c.args.b b0 ∙ not_first k c.requires.0 bytes _ c.load-head.ensures _ v.if-head-eq1.false)
          ]
    ]

pub returns : goal.returns
returns c = λ φ n nodes told.
    let k = c.args.block.now in
    later k c.requires.0 (λ i. omega (arith, c.type_inv.block i)) _ c.load-head.ensures c.args.b c.requires.1 ∙ sym (head-later φ k c.args.b c.if-b-eq0.false)
