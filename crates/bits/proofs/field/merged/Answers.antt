-- `bits::field::merged` meets its contract: nothing wraps, as 56 bits stay below 2^64. Assumes nothing.
use native.Mathlib.Omega.{arith}
use Rattle.bits.specs.Window.{merge}
use Rattle.bits.proofs.Window.{mod_le, shifted}
use Rattle.bits.proofs.field.merged.Goals as goal

pub overflow_add-result : goal.overflow_add-result
overflow_add-result c =
    let a = c.args in
    let s = shifted a.width a.over a.v (omega arith) (omega arith) c.low-2.ensures in
    omega (arith, s.0, s.1)

pub overflow_add-result-2 : goal.overflow_add-result-2
overflow_add-result-2 c =
    let a = c.args in
    let s = shifted a.width a.over a.v (omega arith) (omega arith) c.low-2.ensures in
    omega (arith, s.0, s.1, mod_le a.whole a.over, c.low-3.ensures)

pub returns : goal.returns
unfolding merge
returns c =
    let a = c.args in
    let s = shifted a.width a.over a.v (omega arith) (omega arith) c.low-2.ensures in
    omega (arith, s.0, c.low.ensures, c.low-3.ensures)
