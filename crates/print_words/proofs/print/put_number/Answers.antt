use native.Mathlib.Omega.{arith}
use Rattle.keywords.specs.Rows.{kind_of}
use Rattle.print_words.proofs.AddedLaws.{token-added, name-short}
use Rattle.print_words.proofs.print.put_number.Goals as goal

pub put_token-requires : goal.put_token-requires
put_token-requires c =
    let q = c.requires in
    let h = name-short (kind_of c.args.item) c.args.x q.0 q.3 c.name_of-name.ensures in
    (omega (arith, h, q.4.sizes), q.4.brackets, q.4.ifs)

pub returns : goal.returns
returns c = λ name held.
    let q = c.requires in
    let n = c.name_of-name.ensures in
    let t = c.put_token.ensures in
    let k = kind_of c.args.item in
    token-added (name k c.args.x) (n name held) (name-short k c.args.x q.0 q.3 n) t.after t.output_after
