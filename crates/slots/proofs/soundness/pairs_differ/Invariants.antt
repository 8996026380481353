-- No slot before this one shares a pair with one behind it.
use Rattle.std.proofs.Common.{◌≡◌, drop}
use Rattle.slots.specs.Model.{distinct}
use Rattle.slots.proofs.soundness.pairs_differ.Given as goal

abbrev pub invariant-loop-i : goal.invariant-loop-i
invariant-loop-i l = distinct l.fn.slots ≡ distinct (drop l.i l.fn.slots)
