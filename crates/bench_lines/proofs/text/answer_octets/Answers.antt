-- `bench_lines::text::answer_octets` meets its contract, case by case. Assumes nothing.
use native.Mathlib.Omega.{arith}
use mathlib.Core.Path.{ap}
use lib.ListN.{length}
use Rattle.bench_lines.proofs.Appending.{held_text, whole_text, refused_octets}
use Rattle.bench_lines.proofs.text.answer_octets.Goals as goal

pub returns-in-Held : goal.returns-in-Held
returns-in-Held c = (ap length (held_text c.in-Held.is), omega arith)

pub returns-in-Whole : goal.returns-in-Whole
returns-in-Whole c = (ap length (whole_text c.in-Whole.is), omega arith)

pub returns-in-Refused : goal.returns-in-Refused
returns-in-Refused c = refused_octets c.in-Refused.is (rw c.from.ensures at c.width_of.ensures.0) c.width_of.ensures.1
