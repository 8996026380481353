-- The attributes from the i-th on have the status of all.
use Rattle.std.proofs.Common.{◌≡◌, take}
use Rattle.refusals.specs.Check.{first_of}
use Rattle.directory.specs.Gathered.{list_of}
use Rattle.attributes.specs.Serving.{set_faults}
use Rattle.attributes.proofs.Faults.{sets_left}
use Rattle.attributes.proofs.setting.check_attributes.Given as goal

abbrev pub invariant-loop-i : goal.invariant-loop-i
invariant-loop-i l =
    first_of (set_faults (list_of l.fn.d) l.fn.exact (take l.fn.count l.fn.attributes)) ≡ sets_left l.fn.attributes l.fn.count (list_of l.fn.d) l.fn.exact l.i
