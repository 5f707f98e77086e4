use Rattle.std.proofs.Common.{rules}
use Rattle.rows.proofs.over_rows.quantified.Goals as goal

pub returns-then-matches : goal.returns-then-matches
returns-then-matches c = (
  λ v a p.
      let columns = c.reverse_rows.ensures.0 v p in
      rw c.if-turned.true (c.quantified.ensures (λ i j. v j i) (record { starts = λ i j h. a.ends j i h; ends = λ i j h. a.starts j i h }) (record { row = λ i r l e. search rules })),
  c.reverse_rows.ensures.1,
)
