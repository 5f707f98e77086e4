use mathlib.Core.Path.{◌≡◌, sym, ◌∙◌, ap}
use mathlib.Core.List.{[], ◌∷◌}
use Prim.Native.Nat.{◌+◌, ◌≤◌}
use lib.ListN.{length, length-take}
use native.Mathlib.Omega.{arith}
use Rattle.read_words.specs.Meeting.{bytes_of}
use Rattle.read_words.specs.declared.Met.{Met}
use Rattle.read_words.proofs.put_codes.Goals as goal

count : (m : Met) → m.size ≤ 2 → length (bytes_of m) ≡ m.size
count m h = length-take m.size (m.first ∷ m.second ∷ []) ∙ omega arith

pub slice_bounds-put-end : goal.slice_bounds-put-end
slice_bounds-put-end c = sym (count c.args.m (omega arith))

pub put-requires : goal.put-requires
put-requires c = omega (arith, count c.args.m (omega arith))

pub returns : goal.returns
returns c = record { value = c.put.ensures.value ∙ ap (λ n. c.args.at + n) (count c.args.m (omega arith)); codes_after = c.put.ensures.output_after }
