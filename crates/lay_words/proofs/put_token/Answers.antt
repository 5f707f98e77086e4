use native.Mathlib.Omega.{arith}
use Rattle.lay_words.specs.Laying.{piece}
use Rattle.lay_words.proofs.LayingLaws.{lead-most, put_both}
use Rattle.lay_words.proofs.put_token.Goals as goal

pub put-requires : goal.put-requires
put-requires c = omega (arith, lead-most c.args.state c.args.token.now)

pub returns : goal.returns
unfolding piece
returns c =
    let q = put_both _ _ _ _ _ _ (c.put_lead-at.ensures.value, c.put_lead-at.ensures.output_after) (c.put.ensures.value, c.put.ensures.output_after) in
    record {
      after = record { size = q.0; before = c.before_after.ensures; brackets_are = c.brackets_after.ensures; ifs_are = c.ifs_after.ensures };
      output_after = q.1;
    }
