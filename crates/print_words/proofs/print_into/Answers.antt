use mathlib.Core.Path.{◌≡◌, ◌∙◌}
use mathlib.Core.List.{List}
use Prim.Native.Nat.{ℕ, ◌≤◌, ◌<◌}
use native.Mathlib.Omega.{arith}
use lib.ListN.{length}
use Rattle.answer.specs.Asked.{Asked, passed, refused}
use Rattle.answer.specs.Outputs.{ask_room, written_length, written_output}
use Rattle.answer.proofs.OutputLaws.{room-short, room-enough, not_written, is-written}
use Rattle.names.specs.Names.{Naming}
use Rattle.buffers.specs.Filled.{filled_from}
use Rattle.print_words.specs.Printed.{printed}
use Rattle.buffers.proofs.FilledLaws.{filled-at-start}
use Rattle.print_words.proofs.print_into.Goals as goal

module _ (words : Naming → List ℕ) (output : List ℕ) where
  abbrev answer : Naming → Asked (List ℕ)
  answer name = ask_room (words name) (length output)

  -- the length of the words, and what the two passes say
  module _ (name : Naming) {size : ℕ} (long : size ≡ length (words name)) where
    no_room : length output < size → (refused 33 size ≡ written_length (answer name)) × (output ≡ written_output (answer name) output)
    no_room h = not_written (answer name) output 33 size (room-short (words name) (length output) size long h)

    room : {last : List ℕ} → last ≡ filled_from 0 (words name) output → size ≤ length output → (passed size ≡ written_length (answer name)) × (last ≡ written_output (answer name) output)
    room e h =
        let w = is-written (answer name) output (words name) size (room-enough (words name) (length output) size long h) long in
        (w.0, e ∙ filled-at-start (words name) output (omega (arith, long, h)) ∙ w.1)

pub returns-then-output-size : goal.returns-then-output-size
returns-then-output-size c =
    let words : Naming → List ℕ = λ name. printed name c.args.codes.now c.args.start c.args.rules in
    let size = c.print-size.ensures.value in
    let short = c.if-output-size.true in
    record {
      result_value = λ name h. (no_room words c.args.output.now name (size name h) short).0;
      output_after = λ name h. (no_room words c.args.output.now name (size name h) short).1;
    }

pub returns : goal.returns
returns c =
    let words : Naming → List ℕ = λ name. printed name c.args.codes.now c.args.start c.args.rules in
    let size = c.print-size.ensures.value in
    let put = c.print.ensures.output_after in
    let enough = c.if-output-size.false in
    record {
      result_value = λ name h. (room words c.args.output.now name (size name h) (put name h) enough).0;
      output_after = λ name h. (room words c.args.output.now name (size name h) (put name h) enough).1;
    }
