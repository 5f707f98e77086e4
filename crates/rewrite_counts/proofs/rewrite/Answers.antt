use Rattle.std.proofs.Common.{rules, ◌∙◌, length, arith}
use Rattle.answer.proofs.OutputLaws.{not_written, is-written}
use Rattle.text.specs.Code.{book_code}
use Rattle.rewrite_counts.specs.Rewritten.{rewritten_book, ask_rewrite}
use Rattle.rewrite_counts.proofs.Rewriting.{book-refused, book_read, book-is, short, enough}
use Rattle.rewrite_counts.proofs.rewrite.Goals as goal

pub returns-in_err-passed : goal.returns-in_err-passed
returns-in_err-passed c =
    let room = length c.args.out.now in
    let w = not_written (ask_rewrite c.args.book.now room) c.args.out.now _ _ (book-refused c.args.book.now c.in_err-passed.field-0.0 (search rules) room) in
    record { result_value = search rules; out_after = w.1 }

pub rewritten_length-size-requires : goal.rewritten_length-size-requires
rewritten_length-size-requires c = let r = book_read c.args.book.now (search rules) in record { what = r.what; is = book-is r }

pub returns-then-out-size : goal.returns-then-out-size
returns-then-out-size c =
    let l = c.rewritten_length-size in
    let w = not_written (ask_rewrite c.args.book.now (length c.args.out.now)) c.args.out.now 33 l.result (short (book_read c.args.book.now (search rules)) l.ensures _ c.if-out-size.true) in
    record { result_value = w.0; out_after = w.1 }

pub put_rewritten-requires : goal.put_rewritten-requires
put_rewritten-requires c =
    let r = book_read c.args.book.now (search rules) in
    record { rules = r.what; is = book-is r; fits = omega (arith, c.rewritten_length-size.ensures _ (book-is r)) }

pub returns : goal.returns
returns c =
    let r = book_read c.args.book.now (search rules) in
    let l = c.rewritten_length-size in
    let w = is-written (ask_rewrite c.args.book.now (length c.args.out.now)) c.args.out.now (book_code (rewritten_book r.what)) l.result (enough r l.ensures (length c.args.out.now) (omega arith)) (l.ensures _ (book-is r)) in
    record { result_value = w.0; out_after = c.put_rewritten.ensures r.what (book-is r) ∙ w.1 }
