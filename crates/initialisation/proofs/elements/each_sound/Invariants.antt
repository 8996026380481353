-- The elements before i are sound, and none behind one of them has its eid.
-- Assumes nothing.
use Rattle.std.proofs.Common.{◌≡◌, drop}
use Rattle.initialisation.specs.Elements.{each_sound}
use Rattle.initialisation.proofs.elements.each_sound.Given as goal

abbrev pub invariant-loop-i : goal.invariant-loop-i
invariant-loop-i l = each_sound l.octets l.list ≡ each_sound l.octets (drop l.i l.list)
