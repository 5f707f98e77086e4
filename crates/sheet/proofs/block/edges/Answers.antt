use mathlib.Core.Path.{ap, ap₂, ◌∙◌}
use Prim.Native.Nat.{ℕ, ◌/◌, ◌%◌, ◌^◌}
use native.Mathlib.Omega.{arith}
use lib.Bits.{bit_or}
use Rattle.seal.specs.Forms.{form_of}
use Rattle.sheet.specs.Sheet.{padding}
use Rattle.sheet.specs.Masks.{word_count}
use Rattle.sheet.proofs.MaskLaws.{edges}
use Rattle.sheet.proofs.block.edges.Goals as goal

pub returns : goal.returns
returns c =
    let st = c in
    let φ = form_of st.args.form in
    edges st.args.block.now φ st.requires (λ p. omega (arith, c.type_inv.block p)) _
    (ap₂ bit_or
    (ap₂ (λ (x y : ℕ). bit_or (x / 0x1000000) y) c.load.ensures c.load-2.ensures)
    (c.behind_words.ensures ∙ ap (λ (x : ℕ). x % 256 ^ padding φ word_count) c.load-last.ensures))
