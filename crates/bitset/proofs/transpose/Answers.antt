use Rattle.bitset.proofs.ExchangeLaws.{six, transposes}
use Rattle.bitset.proofs.transpose.Goals as goal

pub exchange_blocks-requires : goal.exchange_blocks-requires
exchange_blocks-requires c = (six.of-32, c.requires)

pub exchange_blocks-requires-2 : goal.exchange_blocks-requires-2
exchange_blocks-requires-2 c = (six.of-16, c.exchange_blocks.ensures.1)

pub exchange_blocks-requires-3 : goal.exchange_blocks-requires-3
exchange_blocks-requires-3 c = (six.of-8, c.exchange_blocks-2.ensures.1)

pub exchange_blocks-requires-4 : goal.exchange_blocks-requires-4
exchange_blocks-requires-4 c = (six.of-4, c.exchange_blocks-3.ensures.1)

pub exchange_blocks-requires-5 : goal.exchange_blocks-requires-5
exchange_blocks-requires-5 c = (six.of-2, c.exchange_blocks-4.ensures.1)

pub exchange_blocks-requires-6 : goal.exchange_blocks-requires-6
exchange_blocks-requires-6 c = (six.of-1, c.exchange_blocks-5.ensures.1)

pub returns : goal.returns
returns c = (
  transposes c.exchange_blocks.ensures.0 c.exchange_blocks-2.ensures.0 c.exchange_blocks-3.ensures.0
      c.exchange_blocks-4.ensures.0 c.exchange_blocks-5.ensures.0 c.exchange_blocks-6.ensures.0,
  c.exchange_blocks-6.ensures.1,
)
