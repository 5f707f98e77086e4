use mathlib.Core.Path.{sym, ◌∙◌}
use native.Mathlib.Omega.{arith}
use lib.Seq.{length-take-le}
use borrow.Author.Rules.{rules}
use Rattle.answer.proofs.AnswerLaws.{not-learned}
use Rattle.answer.proofs.OutputLaws.{not_written, is-written}
use Rattle.read_words.proofs.FromLaws.{known, was_read, was-refused, names-wrong, words-wrong, words_long, words-short, words-fit, copied}
use Rattle.read_words.proofs.from_words.Goals as goal

-- the names were refused
pub returns-in_err-read_names : goal.returns-in_err-read_names
returns-in_err-read_names c =
    let w = not_written _ c.args.output.now _ _ (names-wrong c.args.start c.args.rules _ c.args.words.now _ (not-learned _ _ _ c.in_err-read_names.ensures.result_value)) in
    record { result_value = (let e = w.0 in search rules); output_after = w.1 }

-- the names were read
pub read-requires : goal.read-requires
read-requires c =
    let k = known _ _ c.in_ok-read_names.ensures.result_value c.in_ok-read_names.ensures.held in
    (k.holds.slots, c.requires.0, c.requires.1)

pub returns-in_err-size : goal.returns-in_err-size
returns-in_err-size c =
    let k = known _ _ c.in_ok-read_names.ensures.result_value c.in_ok-read_names.ensures.held in
    let w = not_written _ c.args.output.now _ _ (words-wrong c.args.start c.args.rules _ _ _ k (was-refused _ _ _ (c.in_err-size.ensures.result_value _ k.holds))) in
    record { result_value = (let e = w.0 in search rules); output_after = w.1 }

-- the words were read
pub returns-then-size-gt-LONGEST : goal.returns-then-size-gt-LONGEST
returns-then-size-gt-LONGEST c =
    let k = known _ _ c.in_ok-read_names.ensures.result_value c.in_ok-read_names.ensures.held in
    let r = was_read _ _ (c.in_ok-size.ensures.result_value _ k.holds) in
    let w = not_written _ c.args.output.now 70 _ (words_long c.args.start c.args.rules _ _ _ k r c.if-size-gt-LONGEST.true) in
    record { result_value = w.0; output_after = w.1 }

pub returns-then-output-size : goal.returns-then-output-size
returns-then-output-size c =
    let k = known _ _ c.in_ok-read_names.ensures.result_value c.in_ok-read_names.ensures.held in
    let r = was_read _ _ (c.in_ok-size.ensures.result_value _ k.holds) in
    let w = not_written _ c.args.output.now 33 _ (words-short c.args.start c.args.rules _ _ _ k r c.if-size-gt-LONGEST.false c.if-output-size.true) in
    record { result_value = w.0; output_after = w.1 }

pub slice_bounds-put-end : goal.slice_bounds-put-end
slice_bounds-put-end c = sym (length-take-le _ _ (omega (arith, c.if-size-gt-LONGEST.false, c.read.auto.codes)))

pub put-requires : goal.put-requires
put-requires c = omega (arith, length-take-le c.in_ok-size.size c.read.new.codes (omega (arith, c.if-size-gt-LONGEST.false, c.read.auto.codes)), c.if-size-gt-LONGEST.false)

pub returns : goal.returns
returns c =
    let k = known _ _ c.in_ok-read_names.ensures.result_value c.in_ok-read_names.ensures.held in
    let r = was_read _ _ (c.in_ok-size.ensures.result_value _ k.holds) in
    let w = is-written _ c.args.output.now r.bytes _ (words-fit c.args.start c.args.rules _ _ _ k r c.if-size-gt-LONGEST.false c.if-output-size.false) r.count in
    record {
      result_value = w.0;
      output_after = c.put.ensures.output_after
          ∙ copied r.bytes _ _ _ _ r.count c.if-size-gt-LONGEST.false c.if-output-size.false (c.in_ok-size.ensures.codes_after _ k.holds _ r.is)
          ∙ w.1;
    }
