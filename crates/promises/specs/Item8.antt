-- Item 8 of document 02: two stations under one roof. proofs/Item8 proves it.
use Rattle.std.specs.Prelude.{◌≡◌}
use Rattle.join_sheets.specs.Examples.{left_out, truths}
use Rattle.promises.specs.JoinedSheets.{JoinedRight}

pub record Item8 : Type 0 where
  -- "Two sheets become one in the first's buffer: the second's nodes follow the first's .. A rule built only from 21, 22 and 25, in which 04 and 17 do not
  -- appear, must hold on the joined sheet exactly when it holds on both."
  pub joined : JoinedRight
  -- The other codes are left out for a reason: for each of 26, 27, 23, 24, 04 and 17 there is a rule for which this fails.
  pub others : left_out ≡ truths
