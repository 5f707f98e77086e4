use Rattle.std.proofs.Common.{rules}
use Rattle.close_node.proofs.Uses.{changed-sound, changed-below, changed-stand, judged-done, judged-broken}
use Rattle.close_node.proofs.judge_with.Goals as goal

pub judge_rules-verdict-requires : goal.judge_rules-verdict-requires
judge_rules-verdict-requires c =
    let s = c in
    let t = c.put_use.ensures in
    (changed-sound _ s.args.book.now _ _ s.requires.3 _ t, record { what = s.requires.4.what; stand = changed-stand _ _ _ _ s.requires.3 _ t s.requires.4.what s.requires.4.stand })

pub put_use-requires-in-Refused : goal.put_use-requires-in-Refused
put_use-requires-in-Refused c =
    let s = c in
    let t = c.put_use.ensures in
    (changed-sound _ s.args.book.now _ _ s.requires.3 _ t, changed-below _ s.args.book.now _ _ s.requires.3 _ t s.requires.1)

pub returns-in-Refused : goal.returns-in-Refused
returns-in-Refused c rs stand =
    let s = c in
    let t = c.put_use.ensures in
    judged-broken _ s.args.book.now _ _ s.requires.3 _ t rs _ (c.judge_rules-verdict.ensures rs (changed-stand _ _ _ _ s.requires.3 _ t rs stand)).0
    _ (λ p. search rules) s.requires.0 s.requires.2 c.in-Refused.is c.put_use-in-Refused.ensures

pub returns-in_default : goal.returns-in_default
returns-in_default c rs stand =
    let s = c in
    let t = c.put_use.ensures in
    judged-done _ s.args.book.now _ _ s.requires.3 _ t rs _ (c.judge_rules-verdict.ensures rs (changed-stand _ _ _ _ s.requires.3 _ t rs stand)).0 c.in_default.is
