-- Eight bits fit an octet.
-- Assumes nothing.
use native.Mathlib.Omega.{arith}
use Prim.Native.Nat.{◌+◌, ◌*◌}
use Rattle.bits.specs.Bits.{read_field}
use Rattle.bits.proofs.Laws.{field_lt}
use Rattle.apdu_text.proofs.fields.octet.Goals as goal

pub overflow_cast-result : goal.overflow_cast-result
unfolding read_field
overflow_cast-result c = let a = c.args in omega (arith, field_lt a.s.now (a.start + 8 * a.k) 8, c.read_field.ensures)

pub returns : goal.returns
unfolding read_field
returns c = c.read_field.ensures
