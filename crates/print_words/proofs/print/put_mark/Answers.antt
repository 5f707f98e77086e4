use Rattle.keywords.specs.Rows.{mark_of}
use Rattle.print_words.proofs.AddedLaws.{token-added, mark-at, mark-short}
use Rattle.print_words.proofs.print.put_mark.Goals as goal

pub returns : goal.returns
returns c =
    let t = c.put_token.ensures in
    token-added (mark_of c.args.item) (mark-at c.args.item c.requires.1 c.requires.2) (mark-short c.args.item _) t.after t.output_after
