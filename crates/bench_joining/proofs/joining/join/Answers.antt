-- `bench_joining::joining::join` meets its contract: the call's contract, and what is shown of it. Assumes nothing.
use Rattle.bench_joining.proofs.LineLaws.{numbers_shown}
use Rattle.bench_joining.proofs.joining.join.Goals as goal

pub returns : goal.returns
returns c = record {
  call = c.fragment-answer.result;
  gives = c.fragment-answer.ensures.answer;
  columns_are = numbers_shown _ _ _ _ _ c.map_err.ensures.cases c.shown.ensures;
}
