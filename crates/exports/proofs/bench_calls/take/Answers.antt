-- `exports::bench_calls::take` meets its contract: a line is read and joined, or it goes no further. Assumes nothing.
use mathlib.Core.Path.{refl}
use Rattle.exports.proofs.BenchLaws.{read_put, refused_put}
use Rattle.exports.proofs.bench_calls.take.Goals as goal

pub returns-in-Ok : goal.returns-in-Ok
returns-in-Ok c = read_put _ _ _ _ c.read_line.ensures.answer refl _ _ _ _ _ _ _ c.in-Ok.is c.front.ensures c.join.ensures

pub returns-in-Err : goal.returns-in-Err
returns-in-Err c = refused_put _ _ _ _ c.read_line.ensures.answer refl _ _ _ _ _ c.in-Err.is c.from.ensures c.no_octets.ensures
