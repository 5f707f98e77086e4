-- `carry::carry_back` meets its contract: it checks the book, the edit and then the size. Assumes nothing.
use Rattle.std.proofs.Common.{rules}
use Rattle.carry.proofs.Passing.{book-refused, edit-refused, both_read, into_back}
use Rattle.carry.proofs.carry_back.Goals as goal

pub returns-in_err-passed : goal.returns-in_err-passed
returns-in_err-passed c =
    let q = book-refused c.args.book.now c.args.edit.now c.args.out.now c.in_err-passed.field-0.0 (search rules) in
    record { result_value = search rules; out_after = q.1 }

pub returns-in_err-passed-2 : goal.returns-in_err-passed-2
returns-in_err-passed-2 c =
    let q = edit-refused c.args.book.now c.args.edit.now c.args.out.now (search rules) c.in_err-passed-2.field-0.0 (search rules) in
    record { result_value = search rules; out_after = q.1 }

pub carry_into-requires : goal.carry_into-requires
carry_into-requires c = both_read _ _ c.args.out.now (search rules) (search rules)

pub returns : goal.returns
returns c = let q = into_back _ _ _ (search rules) (search rules) c.carry_into.ensures in record { result_value = q.0; out_after = q.1 }
