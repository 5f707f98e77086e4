-- Item 8 of document 02 is kept.
use Rattle.join_sheets.proofs.Examples.{examples}
use Rattle.promises.specs.Item8.{Item8}
use Rattle.promises.proofs.JoinedSheets.{joined-right}

pub item_8 : Item8
item_8 = record { joined = joined-right; others = examples }
