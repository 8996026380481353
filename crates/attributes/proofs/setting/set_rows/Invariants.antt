-- Writing the attributes from the i-th on gives what writing all gave.
use Rattle.std.proofs.Common.{◌≡◌, take}
use Rattle.directory.specs.Gathered.{list_of}
use Rattle.attributes.specs.Serving.{set_rows}
use Rattle.attributes.proofs.Faults.{from}
use Rattle.attributes.proofs.setting.set_rows.Given as goal

abbrev pub invariant-loop-i : goal.invariant-loop-i
invariant-loop-i l =
    set_rows l.fn.s (list_of l.fn.d) (take l.fn.count l.fn.attributes) l.initial.writable ≡ set_rows l.fn.s (list_of l.fn.d) (from l.fn.attributes l.fn.count l.i) l.writable
