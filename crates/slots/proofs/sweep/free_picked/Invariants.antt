-- Before each turn the slots below are swept, their octets counted, and the others as they were.
use Rattle.std.proofs.Common.{◌≡◌, ◌*◌, ◌≤◌, ◌++◌, take, drop}
use Rattle.slots.specs.Sweep.{freed, dropped_by}
use Rattle.slots.specs.Model.{picks}
use Rattle.slots.proofs.sweep.free_picked.Given as goal

abbrev pub invariant-loop-slot : goal.invariant-loop-slot
invariant-loop-slot l =
    (l.slots ≡ freed (picks l.sweep) (take l.slot-index l.fn.slots) ++ drop l.slot-index l.fn.slots)
    × (l.dropped ≡ dropped_by (picks l.sweep) (take l.slot-index l.fn.slots)) × (l.dropped ≤ 4294967295 * l.slot-index)
