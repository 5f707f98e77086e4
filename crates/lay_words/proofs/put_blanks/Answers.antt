use mathlib.Core.Path.{◌≡◌, sym, ◌∙◌, ap}
use mathlib.Core.List.{List}
use Prim.Native.Nat.{ℕ, ◌+◌, ◌-◌, min}
use native.Mathlib.Omega.{arith}
use lib.ListN.{length, replicate, take, drop, length-take, length-drop, length-replicate}
use Rattle.std.proofs.lemmas.List.{take-replicate}
use Rattle.buffers.proofs.FilledLaws.{filled-part}
use Rattle.lay_words.proofs.put_blanks.Goals as goal

-- the part that the blanks reach, and the blanks that fit into it
module _ (at n : ℕ) (b : List ℕ) {from to : ℕ} (e : from ≡ min at (length b)) (f : to ≡ min (at + n) (length b)) where
  part-length : length (take (to - from) (drop from b)) ≡ to - from
  part-length = omega (arith, length-take (to - from) (drop from b), length-drop from b)

  blanks-part : replicate {A = ℕ} (length (take (to - from) (drop from b))) 0x20 ≡ take (to - from) (replicate n 0x20)
  blanks-part = ap (λ (m : ℕ). replicate m 0x20) part-length ∙ sym (take-replicate (to - from) n 0x20 (omega arith))

  whole : to ≡ min (at + length (replicate {A = ℕ} n 0x20)) (length b)
  whole = f ∙ ap (λ (m : ℕ). min (at + m) (length b)) (sym (length-replicate n 0x20))

pub returns-clause-output_after : goal.returns-clause-output_after
returns-clause-output_after c =
    let a = c.args in
    let e = c.min-from.ensures in
    let f = c.min-to.ensures in
    filled-part a.at (replicate a.count 0x20) a.output.now e (whole a.at a.count a.output.now e f) (c.fill.ensures.after (λ y g. g) ∙ blanks-part a.at a.count a.output.now e f)
