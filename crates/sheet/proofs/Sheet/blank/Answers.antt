use mathlib.Core.Logic.{inl, inr}
use mathlib.Core.Path.{refl, sym, ap, ◌∙◌}
use Prim.Native.Nat.{ℕ, ◌+◌, ◌-◌, ◌*◌}
use native.Mathlib.Omega.{arith}
use lib.ListN.{length}
use borrow.Author.Rules.{rules}
use Rattle.answer.specs.Asked.{after, is, ◌>>◌}
use Rattle.sheet.specs.Questions.{ask_blank}
use Rattle.seal.specs.Seal.{block_bytes}
use Rattle.sheet.specs.Sheet.{present, store, blank}
use Rattle.sheet.proofs.BlockLaws.{length-store}
use Rattle.sheet.proofs.ReplacedBlocks.{upto-none, upto-again, upto-more, upto_all}
use Rattle.sheet.proofs.BlankSheets.{all-used, blank_of, blank_of-length, first_made, later-made, room}
use Rattle.sheet.proofs.Sheet.blank.Goals as goal

pub returns-then-n-lt1 : goal.returns-then-n-lt1
unfolding ask_blank after is ◌>>◌
returns-then-n-lt1 c = elim c.then-n-lt1.either [ inl x ↦ search rules | inr x ↦ search rules ]

pub returns-then-buf-ne-BYTES : goal.returns-then-buf-ne-BYTES
unfolding ask_blank after is ◌>>◌
returns-then-buf-ne-BYTES c = search rules

pub loop-b-init : goal.loop-b-init
loop-b-init c =
    let n = c.args.n in
    let t = c.args.buf.now in
    let made = c.blank_block.ensures ∙ first_made n _ (c.lowest.ensures ∙ all-used n c.if-n-gt-NODES.false) in
    upto-again (blank_of n) t _ 1 (upto-more (blank_of n) t t _ 0 0 block_bytes (upto-none (blank_of n) t c.if-buf-ne-BYTES.false) (omega arith) refl refl (ap length made ∙ blank_of-length n 0 (omega arith)) made)

pub loop-b-preserved : goal.loop-b-preserved
loop-b-preserved c =
    let l = c.loop-b in
    let n = c.args.n in
    let made = c.blank_block-in-loop-b.ensures ∙ later-made n l.b l.auto.b c.loop-b-test.true in
    let from : ℕ = block_bytes * l.b in
    upto-again (blank_of n) l.buf _ (l.b + 1) (upto-more (blank_of n) l.buf l.buf _ l.b from (from + block_bytes - from) l.invariant c.loop-b-test.true refl (omega arith) (ap length made ∙ blank_of-length n l.b c.loop-b-test.true) made)

pub returns : goal.returns
unfolding after
returns c =
    let n = c.args.n in
    let l = c.loop-b in
    let passed = room n (length c.args.buf.now) c.if-n-lt1.false c.if-n-gt-NODES.false c.if-buf-ne-BYTES.false in
    let all = upto_all (blank_of n) l.buf l.buf (store (blank n)) l.b l.invariant c.loop-b-test.false (length-store present (blank n)) (λ j h. refl) in
    record { result_value = sym passed; buf_after = rw passed all }
