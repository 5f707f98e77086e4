use borrow.Author.Rules.{rules}
use Rattle.count_small.proofs.Counting.{label_is}
use Rattle.count_small.proofs.SmallBuffer.{loaded-sound, label-put, label-loaded, rows-put}
use Rattle.count_small.proofs.small.put_small.Goals as goal

pub put_label-requires : goal.put_label-requires
put_label-requires c = (loaded-sound _ _ c.requires.0, search rules)

pub put_rows-requires : goal.put_rows-requires
put_rows-requires c =
    let labelled = label-put _ _ c.requires.0 c.args.x _ _ (label_is c.args.n c.args.x _ c.part.ensures) c.put_label.ensures in
    (loaded-sound c.args.n _ (label-loaded _ _ c.requires.0 c.args.x _ labelled), search rules)

pub returns : goal.returns
returns c =
    let labelled = label-put _ _ c.requires.0 c.args.x _ _ (label_is c.args.n c.args.x _ c.part.ensures) c.put_label.ensures in
    rows-put _ _ c.requires.0 c.args.x _ _ _ labelled c.rows_of.ensures c.put_rows.ensures
