-- `header::read` meets its contract: its tests are the checks, in their order; its round trips are laws of the definitions. Assumes nothing.
use native.Mathlib.Omega.{arith}
use Rattle.header.proofs.Reading.{cut_short, third_bit, overlong, whole}
use Rattle.header.proofs.RoundTrip.{reading_written, reading_exact}
use Rattle.header.proofs.read.Goals as goal
use Rattle.header.proofs.read.Goals.{then-s-size-via-then-s-size, then-s-size-via-else-s-size+then-third_ends}

pub returns-then-s-size : goal.returns-then-s-size
returns-then-s-size c = record {
  answer =
      elim c.then-s-size.branch [
        | then-s-size-via-then-s-size w ↦ cut_short _ c.length_of-size.ensures (omega arith)
        | then-s-size-via-else-s-size+then-third_ends w ↦ third_bit _ c.length_of-size.ensures (omega arith) w.third_ends.ensures w.if-third_ends.true
      ];
  written = reading_written;
  exact = reading_exact;
}

pub returns-then-length_for-size : goal.returns-then-length_for-size
returns-then-length_for-size c = record {
  answer = overlong _ c.length_of-size.ensures (omega arith) c.third_ends.ensures c.if-third_ends.false c.counter_in-counter.ensures c.length_for.ensures (omega arith);
  written = reading_written;
  exact = reading_exact;
}

pub returns : goal.returns
returns c = record {
  answer = whole _ c.length_of-size.ensures (omega arith) c.third_ends.ensures c.if-third_ends.false c.counter_in-counter.ensures c.length_for.ensures (omega arith) c.octet-first.ensures.0 c.octet-first.ensures.1;
  written = reading_written;
  exact = reading_exact;
}
