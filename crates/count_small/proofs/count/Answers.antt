use Rattle.std.proofs.Common.{rules, ℕ}
use lib.ListN.{replicate, length-replicate}
use Rattle.answer.specs.Asked.{◌>>=◌, after}
use Rattle.answer.proofs.AnswerLaws.{not-learned}
use Rattle.sheet.specs.Sheet.{sheet_bytes}
use Rattle.count_small.specs.Questions.{ask_count, ask_four, counts_of}
use Rattle.count_small.proofs.CountStages.{found}
use Rattle.count_small.proofs.SmallBuffer.{blank-loaded}
use Rattle.count_small.proofs.count.Goals as goal

pub returns-in_err-ask : goal.returns-in_err-ask
unfolding ask_four ◌>>=◌
returns-in_err-ask c = let e = not-learned (ask_count c.args.n c.args.book.now c.args.edit.now) _ _ (c.in_err-ask.ensures) in record { value = search rules; four_value = search rules }

pub count_all-requires : goal.count_all-requires
count_all-requires c =
    let q = found _ _ _ c.in_ok-ask.ensures in
    (blank-loaded _ q.some q.few (replicate {A = ℕ} sheet_bytes 0) _ c.blank.ensures.buf_after (length-replicate {A = ℕ} sheet_bytes 0), q.some, q.few, record { rules = q.texts.rules; what = q.texts.edit; stand = q.stand })

pub returns : goal.returns
unfolding ask_four counts_of ◌>>=◌ after
returns c =
    let q = found _ _ _ c.in_ok-ask.ensures in
    let e = q.is_read in
    let f = c.count_all.ensures q.texts.rules q.texts.edit q.stand in
    record { value = search rules; four_value = search rules }
