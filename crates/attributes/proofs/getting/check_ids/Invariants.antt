-- The ids from the i-th on have the status of all.
use Rattle.std.proofs.Common.{◌≡◌}
use Rattle.refusals.specs.Check.{first_of}
use Rattle.directory.specs.Gathered.{list_of}
use Rattle.attributes.specs.Serving.{get_faults, ids_from}
use Rattle.attributes.proofs.Faults.{ids_left}
use Rattle.attributes.proofs.getting.check_ids.Given as goal

abbrev pub invariant-loop-i : goal.invariant-loop-i
invariant-loop-i l =
    first_of (get_faults (list_of l.fn.d) l.fn.exact (ids_from l.fn.s l.fn.ids l.fn.count)) ≡ ids_left l.fn.s l.fn.ids l.fn.count (list_of l.fn.d) l.fn.exact l.i
