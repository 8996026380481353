use Rattle.attributes.proofs.Faults.{looked_up, row_is}
use Rattle.attributes.proofs.values.look_up.Goals as goal

pub returns : goal.returns
returns c = record { found = rw c.find.ensures (looked_up _ c.requires _); row = rw c.find.ensures (row_is _ c.requires _) }
