-- `header::length_of` meets its contract, an end bit after the other. Assumes nothing.
use native.Mathlib.Omega.{arith}
use Rattle.std.proofs.lemmas.Grind.{common_steps}
use Rattle.header.specs.Header.{header_length}
use Rattle.header.proofs.length_of.Goals as goal

pub returns-then-end_bit-eq1 : goal.returns-then-end_bit-eq1
unfolding header_length
returns-then-end_bit-eq1 c = grind (arith, common_steps)

pub returns-then-end_bit-eq1-2 : goal.returns-then-end_bit-eq1-2
unfolding header_length
returns-then-end_bit-eq1-2 c = grind (arith, common_steps)

pub returns-else-end_bit-eq1-2 : goal.returns-else-end_bit-eq1-2
unfolding header_length
returns-else-end_bit-eq1-2 c = grind (arith, common_steps)
