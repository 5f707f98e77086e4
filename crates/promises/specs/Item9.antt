-- Item 9 of document 02: edits sent as a chain. proofs/Item9 proves it.
use Rattle.std.specs.Prelude.{◌≡◌, List, ℕ}
use Rattle.answer.specs.Asked.{passed}
use Rattle.join_edits.specs.Chain.{ask_joined, ask_join_edits}
use Rattle.promises.specs.Chained.{Chained}
use Rattle.promises.specs.OnlyJoined.{OnlyJoined}

pub record Item9 : Type 0 where
  -- "For edits P then Q that join .. carrying a book back through the joined edit must give the same bytes as carrying it through Q and that result
  -- through P, conditions included; and the joined edit must leave the sheet that the two, carried out one after the other, leave."
  pub chained : (p q joined : List ℕ) → ask_joined p q ≡ passed joined → Chained p q joined
  -- The same for what the call writes.
  pub chained_call : (p q : List ℕ) (room : ℕ) (joined : List ℕ) → ask_join_edits p q room ≡ passed joined → Chained p q joined
  -- The joined edit may be entered where its first part would not be: only the sheet after the last step is judged.
  pub only_joined : OnlyJoined
