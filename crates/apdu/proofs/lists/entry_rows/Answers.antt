-- `apdu::lists::entry_rows` meets its contract. Assumes nothing.
use native.Mathlib.Omega.{arith}
use Rattle.apdu.specs.Values.{entry_rows}
use Rattle.apdu.proofs.lists.entry_rows.Goals as goal

pub returns-then-e : goal.returns-then-e
unfolding entry_rows
returns-then-e c = (simp c.if-e.true c.from.ensures, omega arith)

pub returns-else-e : goal.returns-else-e
unfolding entry_rows
returns-else-e c = (simp c.if-e.false, omega arith)
