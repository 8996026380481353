-- `header::end_bit` meets its contract: the last bit of an octet is its remainder by 2. Assumes nothing.
use Rattle.header.proofs.Reading.{end_bit_is}
use Rattle.header.proofs.end_bit.Goals as goal

pub returns : goal.returns
returns c = end_bit_is _ _ c.octet.ensures.0 c.octet.ensures.1
