use mathlib.Core.Path.{sym, ap, ◌∙◌}
use mathlib.Core.Bool.{◌&&◌}
use native.Mathlib.Omega.{arith}
use borrow.Author.Rules.{rules}
use borrow.Author.Tests.{eqb-true, eqb-false, not-true}
use Rattle.bitset.specs.Words.{Bytes}
use Rattle.seal.specs.Seal.{modulo257}
use Rattle.sheet.specs.Masks.{zero_but, blank_in}
use Rattle.sheet.proofs.BareBlocks.{not-block-0, not-headed, blank-is, zeros-are}
use Rattle.sheet.proofs.block.blank_arrow.Goals as goal
use Rattle.sheet.proofs.block.blank_arrow.Goals.{then-load-b, else-load-b, then-b-ne0, else-b-ne0}

pub returns-in_default : goal.returns-in_default
returns-in_default c = unfold blank_in in search rules

pub returns-else-bare_seal : goal.returns-else-bare_seal
returns-else-bare_seal c =
    let k = c.args.block.now in
    let a = c.args in
    elim c.if-b-ne0.branch [
      | then-b-ne0 v ↦ elim c.if-load-b.branch [
        | then-load-b w ↦
            let found = blank-is k (λ i. omega (arith, c.type_inv.block i)) c.requires.0 a.b c.requires.1 a.sums c.in-M257.is v.if-b-ne0.true (sym v.load.ensures ∙ eqb-true _ _ (sym v.value-is ∙ w.if-load-b.true)) in
            c.if-bare_seal.false ∙ ap (◌&& zero_but modulo257 (λ j. 0) k) (sym c.if-bare_seal.false ∙ w.value-is ∙ w.bare_seal.ensures) ∙ found
        | else-load-b w ↦ c.if-bare_seal.false ∙ sym (not-headed k a.b a.sums (λ e. eqb-false _ _ (sym v.value-is ∙ w.if-load-b.false) (v.load.ensures ∙ e)))
      ]
      | else-b-ne0 v ↦ c.if-bare_seal.false ∙ sym (not-block-0 k a.b a.sums v.if-b-ne0.false)
    ]

pub returns-then-bare_seal : goal.returns-then-bare_seal
returns-then-bare_seal c =
    let k = c.args.block.now in
    let a = c.args in
    let bytes : Bytes k = λ i. omega (arith, c.type_inv.block i) in
    elim c.if-load-b.branch [
      | then-load-b w ↦ elim c.if-b-ne0.branch [
        | then-b-ne0 v ↦
            let found = blank-is k bytes c.requires.0 a.b c.requires.1 a.sums c.in-M257.is v.if-b-ne0.true (sym v.load.ensures ∙ eqb-true _ _ (sym v.value-is ∙ w.if-load-b.true)) in
            zeros-are k bytes c.edges.result c.outside.result c.edges.ensures c.outside.ensures
            ∙ ap (◌&& zero_but modulo257 (λ j. 0) k) (sym c.if-bare_seal.true ∙ w.value-is ∙ w.bare_seal.ensures) ∙ found
        | else-b-ne0 v ↦ absurd (eqb-false a.b 0 (not-true _ (sym v.value-is ∙ w.if-load-b.true)) v.if-b-ne0.false)
      ]
      | else-load-b w ↦ absurd cc
    ]
