-- `bits::field::field_in` meets its contract: the field is cut out of its window. Assumes nothing.
use native.Mathlib.Omega.{arith}
use Rattle.bits.proofs.Window.{field_window}
use Rattle.bits.proofs.field.field_in.Goals as goal

pub returns : goal.returns
returns c = field_window _ _ _ _ _ (omega arith) c.window.ensures.0 c.low.ensures
