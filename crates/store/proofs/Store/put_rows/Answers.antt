use mathlib.Core.Path.{ap, ◌∙◌}
use Prim.Native.Nat.{ℕ, ◌+◌, ◌-◌, ◌*◌}
use native.Mathlib.Omega.{arith}
use borrow.Author.Rules.{rules}
use lib.ListN.{take, drop}
use Rattle.seal.specs.Seal.{reseal, block_bytes}
use Rattle.sheet.specs.Sheet.{present, graph_of}
use Rattle.sheet.specs.Writes.{put_rows_def}
use Rattle.sheet.proofs.SoundSheets.{sound-is-stored}
use Rattle.sheet.proofs.SoundWords.{sound-length}
use Rattle.sheet.proofs.WriteLaws.{rejoined}
use Rattle.store.proofs.Store.put_rows.Goals as goal

pub slice_bounds-put_words-end : goal.slice_bounds-put_words-end
slice_bounds-put_words-end c = omega (arith, sound-length present c.args.sheet.now c.requires.0, c.requires.1)

pub returns : goal.returns
returns c = λ v inside r.
    let t = c.args.sheet.now in
    let a = c.args.a.0 in
    let from : ℕ = block_bytes * c.from.result + block_bytes in
    let o = sound-is-stored present t (λ p. search rules) c.requires.0 in
    rejoined present (graph_of t) o.within v inside a c.requires.1 c.args.rows r t _ from (from + block_bytes - from) o.stored (omega (arith, c.from.ensures)) (omega arith)
    (c.put_words.ensures ∙ ap (λ (m : ℕ). reseal present.sums (put_rows_def m c.args.rows (take (from + block_bytes - from) (drop from t)))) c.node_count-n.ensures.0)
