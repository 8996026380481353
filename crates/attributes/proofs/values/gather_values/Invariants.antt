-- The first i values stand at the front of the octets.
use Rattle.directory.specs.Gathered.{list_of}
use Rattle.attributes.proofs.Gathering.{Gathered}
use Rattle.attributes.proofs.values.gather_values.Given as goal

abbrev pub invariant-loop-i : goal.invariant-loop-i
invariant-loop-i l = Gathered l.fn.s l.fn.ids l.fn.count (list_of l.fn.d) l.fn.factory l.fn.writable l.octets l.attributes l.at l.i
