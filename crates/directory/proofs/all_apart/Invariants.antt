-- The invariant of `directory::all_apart`: what is left to compare is what was to compare.
use Rattle.std.proofs.Common.{◌≡◌, length}
use Rattle.directory.specs.Directory.{all_apart}
use Rattle.directory.proofs.all_apart.Given as goal

abbrev pub invariant-loop-row : goal.invariant-loop-row
invariant-loop-row l = all_apart l.fn.rows ≡ all_apart l.left

abbrev pub decreases-loop-row : goal.decreases-loop-row
decreases-loop-row l = length l.left
