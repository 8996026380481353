-- `bits::string::string_octet` meets its contract: eight bits fit an octet. Assumes nothing.
use native.Mathlib.Omega.{arith}
use mathlib.Core.Path.{◌≡◌, ap, ◌∙◌}
use Prim.Native.Nat.{◌+◌, ◌*◌}
use Rattle.bits.specs.Bits.{field}
use Rattle.bits.proofs.Laws.{field_lt}
use Rattle.bits.proofs.string.string_octet.Goals as goal

pub overflow_cast-result : goal.overflow_cast-result
overflow_cast-result c =
    let a = c.args in
    omega (arith, field_lt a.s.now (8 * (a.first + a.k) + a.skip) 8, c.field_in.ensures)

pub returns : goal.returns
returns c =
    let a = c.args in
    let e : 8 * (a.first + a.k) + a.skip ≡ 8 * a.first + a.skip + 8 * a.k = omega arith in
    c.field_in.ensures ∙ ap (λ i. field a.s.now i 8) e
