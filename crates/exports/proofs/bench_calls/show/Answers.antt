-- `exports::bench_calls::show` meets its contract: the line has room. Assumes nothing.
use native.Mathlib.Omega.{arith}
use Rattle.exports.specs.BenchLine.{output_line}
use Rattle.exports.proofs.BenchLaws.{line_short, shown_all}
use Rattle.exports.proofs.bench_calls.show.Goals as goal

pub returns : goal.returns
unfolding output_line
returns c =
    let short = line_short c.args.number c.args.columns.answer c.args.columns.octets c.args.columns.dropped (omega arith) (omega arith) (omega arith) c.requires.1 in
    rw c.unwrap_or.ensures (shown_all _ _ _ _ c.append_answer.ensures (omega (arith, short, c.requires.0)) short)
