-- `bench_joining::joining::take_line` meets its contract: a line is read and joined, or it goes no further. Assumes nothing.
use mathlib.Core.Path.{refl}
use Rattle.bench_joining.proofs.LineLaws.{line_joined, line_refused}
use Rattle.bench_joining.proofs.joining.take_line.Goals as goal

pub returns-in-Ok : goal.returns-in-Ok
returns-in-Ok c = line_joined _ _ _ _ _ _ _ _ _ _ _ c.read_line.ensures.answer c.in-Ok.is c.front.ensures c.join.ensures

pub returns-in-Err : goal.returns-in-Err
returns-in-Err c = line_refused _ _ _ _ _ _ _ _ _ _ _ c.read_line.ensures.answer _ c.in-Err.is c.from.ensures refl c.no_octets.ensures refl refl
