-- Item 9 of document 02 is kept.
use Rattle.promises.specs.Item9.{Item9}
use Rattle.promises.proofs.Chained.{chained, chained_call}
use Rattle.promises.proofs.OnlyJoined.{only_joined}

pub item_9 : Item9
item_9 = record { chained = chained; chained_call = chained_call; only_joined = only_joined }
