-- The seven bits behind the extension bit are the id.
use Rattle.std.proofs.Common.{arith}
use Rattle.attributes.proofs.Gathering.{seven_is}
use Rattle.attributes.proofs.values.row_at.Goals as goal

pub overflow_cast-read_field : goal.overflow_cast-read_field
overflow_cast-read_field c = omega (arith, (seven_is _ _ c.read_field.ensures).1)

pub returns : goal.returns
returns c =
    let e = (seven_is _ _ c.read_field.ensures).0 in
    record { found = rw (← e) c.look_up.ensures.found; row = rw (← e) c.look_up.ensures.row }
