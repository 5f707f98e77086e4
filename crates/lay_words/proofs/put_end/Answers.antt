use Rattle.lay_words.proofs.LayingLaws.{end-start, end_later, put-none, put-these}
use Rattle.lay_words.proofs.put_end.Goals as goal

pub returns-in-Start : goal.returns-in-Start
returns-in-Start c =
    let q = put-none _ _ _ (end-start _ _ _ c.in-Start.is) in
    record { value = q.0; output_after = q.1 }

pub returns : goal.returns
returns c =
    let q = put-these _ _ _ _ (end_later _ _ _ c.in_default.not-Start) (c.put.ensures.value, c.put.ensures.output_after) in
    record { value = q.0; output_after = q.1 }
