-- `exports::bench_calls::semuryeon_bench_line` meets its contract: a line joined by the words' table, and shown. Assumes nothing.
use mathlib.Core.Path.{refl}
use Rattle.exports.proofs.BenchLaws.{answer_fits, text_refused, line_shown, room_for_each}
use Rattle.exports.proofs.bench_calls.semuryeon_bench_line.Goals as goal

pub returns-then-text-lt-TEXT_OCTETS : goal.returns-then-text-lt-TEXT_OCTETS
returns-then-text-lt-TEXT_OCTETS c = record {
  answer = text_refused _ _ _ _ _ c.args.text.now _ _ _ _ _ c.if-text-lt-TEXT_OCTETS.true c.refused.ensures refl refl refl refl;
  room = room_for_each;
}

pub show-requires : goal.show-requires
show-requires c = (c.if-text-lt-TEXT_OCTETS.false, answer_fits _ _ _ _ _ _ _ _ c.take-columns.ensures)

pub returns : goal.returns
returns c = record {
  answer = line_shown c.args.number _ _ _ _ c.args.text.now _ _ _ _ _ _ _ c.if-text-lt-TEXT_OCTETS.false c.take-columns.ensures c.show.ensures c.packed.ensures.answer;
  room = room_for_each;
}
