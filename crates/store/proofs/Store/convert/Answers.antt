use mathlib.Core.Path.{refl, sym, ap, ◌∙◌}
use mathlib.Core.List.{◌++◌}
use Prim.Native.Nat.{◌+◌, ◌-◌, ◌*◌}
use native.Mathlib.Omega.{arith}
use borrow.Author.Rules.{rules}
use lib.Dec.{ltb}
use lib.ListN.{length, drop}
use Rattle.answer.specs.Answers.{asked}
use Rattle.bitset.specs.Words.{Bytes, set_of}
use Rattle.seal.specs.Seal.{block_bytes, reseal}
use Rattle.seal.specs.Forms.{form_of}
use Rattle.sheet.specs.Sheet.{present, former, store, graph_in}
use Rattle.sheet.specs.Questions.{SoundIn}
use Rattle.sheet.proofs.BlockLaws.{length-store}
use Rattle.sheet.proofs.BlockParts.{length-block, part-is}
use Rattle.sheet.proofs.SoundWords.{sound-length}
use Rattle.sheet.proofs.ReplacedBlocks.{upto-none, upto-more, upto_all}
use Rattle.store.proofs.ConvertedLaws.{begun-length, each-made, card-few, body-fits, converted-is, refused-stays}
use Rattle.store.proofs.Store.convert.Invariants.{resealed}
use Rattle.store.proofs.Store.convert.Goals as goal

pub returns-in_default-clause-card_after : goal.returns-in_default-clause-card_after
returns-in_default-clause-card_after c =
    let r = c.check_in-answer in
    sym (refused-stays (form_of c.args.sums) c.args.card.now _ _ (sym r.ensures ∙ ap asked c.in_default.is))

pub bounds-card-2 : goal.bounds-card-2
bounds-card-2 c = omega (arith, sound-length (former (form_of c.args.sums)) c.args.card.now (sym c.check_in-answer.ensures ∙ ap asked c.in-Done.is))

pub slice_bounds-store-end : goal.slice_bounds-store-end
slice_bounds-store-end c = omega (arith, sound-length (former (form_of c.args.sums)) c.args.card.now (sym c.check_in-answer.ensures ∙ ap asked c.in-Done.is))

pub lowest-requires : goal.lowest-requires
lowest-requires c =
    let card = c.args.card.now in
    let small : Bytes card = λ p. search rules in
    omega (arith, card-few (form_of c.args.sums) card small (sym c.check_in-answer.ensures ∙ ap asked c.in-Done.is))

pub loop-b-init : goal.loop-b-init
loop-b-init c =
    let f = form_of c.args.sums in
    let card = c.args.card.now in
    let small : Bytes card = λ p. search rules in
    let begun = c.store.new.s ++ drop block_bytes card in
    upto-none (resealed begun) begun
    (begun-length f card small (sym c.check_in-answer.ensures ∙ ap asked c.in-Done.is) (body-fits c.args.sums) c.store.new.s c.lowest.result (c.lowest.ensures ∙ ap (λ n. set_of 64 (λ i. ltb i n)) c.from-n.ensures) c.store.ensures)

pub loop-b-preserved : goal.loop-b-preserved
loop-b-preserved c =
    let l = c.loop-b in
    let t = c.store.new.s ++ drop block_bytes c.args.card.now in
    let block = part-is l.card l.b in
    upto-more (resealed t) t l.card c.seal.new.block l.b (block_bytes * l.b) (block_bytes * l.b + block_bytes - block_bytes * l.b) l.invariant c.loop-b-test.true refl (omega arith)
    (c.seal.auto.block ∙ ap length block ∙ length-block l.card l.invariant.size l.b c.loop-b-test.true) (c.seal.ensures ∙ ap (reseal present.sums) (block ∙ l.invariant.left l.b (omega arith)))

pub returns-clause-card_after : goal.returns-clause-card_after
returns-clause-card_after c =
    let f = form_of c.args.sums in
    let card = c.args.card.now in
    let small : Bytes card = λ p. search rules in
    let sound : SoundIn (former f) card = sym c.check_in-answer.ensures ∙ ap asked c.in-Done.is in
    let g = graph_in (former f) card in
    let l = c.loop-b in
    let t = c.store.new.s ++ drop block_bytes card in
    upto_all (resealed t) t l.card (store g) l.b l.invariant c.loop-b-test.false (length-store present g)
    (each-made f card small sound (body-fits c.args.sums) c.store.new.s c.lowest.result (c.lowest.ensures ∙ ap (λ n. set_of 64 (λ i. ltb i n)) c.from-n.ensures) c.store.ensures) ∙ sym (converted-is f card small sound)
