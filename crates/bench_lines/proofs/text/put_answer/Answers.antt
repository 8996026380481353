-- `bench_lines::text::put_answer` meets its contract, case by case. Assumes nothing.
use native.Mathlib.Omega.{arith}
use mathlib.Core.Path.{ap}
use lib.ListN.{length}
use Rattle.bench_lines.proofs.Appending.{held_text, whole_text, refused_text, placed_as}
use Rattle.bench_lines.proofs.text.put_answer.Goals as goal

pub put_word-requires : goal.put_word-requires
put_word-requires c = omega (arith, ap length (held_text c.in-Held.is))

pub put_word-requires-in-Whole : goal.put_word-requires-in-Whole
put_word-requires-in-Whole c = omega (arith, ap length (whole_text c.in-Whole.is))

pub put_named-requires : goal.put_named-requires
put_named-requires c = rw c.from.ensures (omega (arith, ap length (refused_text c.in-Refused.is)))

pub returns-in-Held : goal.returns-in-Held
returns-in-Held c = placed_as (held_text c.in-Held.is) c.put_word.ensures

pub returns-in-Whole : goal.returns-in-Whole
returns-in-Whole c = placed_as (whole_text c.in-Whole.is) c.put_word-in-Whole.ensures

pub returns-in-Refused : goal.returns-in-Refused
returns-in-Refused c = placed_as (refused_text c.in-Refused.is) (rw c.from.ensures at c.put_named.ensures)
