-- `exports::bench_calls::join` meets its contract: the fragment call's, and what is shown of it. Assumes nothing.
use Rattle.bench_joining.proofs.LineLaws.{numbers_shown}
use Rattle.exports.proofs.BenchLaws.{lsdu_put}
use Rattle.exports.proofs.bench_calls.join.Goals as goal

pub returns : goal.returns
returns c =
    lsdu_put _ _ _ _ _ _ _ _ _ _ _ c.table_in.result c.joined-answer.ensures c.table_in.ensures.answer
    (numbers_shown _ _ _ _ _ c.map_err.ensures.cases c.shown.ensures)
