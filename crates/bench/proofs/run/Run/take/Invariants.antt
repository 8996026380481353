-- Each line leaves less of the input. Assumes nothing.
use Rattle.std.proofs.Common.{length}
use Rattle.bench.proofs.run.Run.take.Given as goal

abbrev pub decreases-loop-line : goal.decreases-loop-line
decreases-loop-line g l = length l.rest
