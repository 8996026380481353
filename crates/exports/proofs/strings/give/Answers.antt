-- `exports::strings::give` meets its contract: what the copy answers and leaves. Assumes nothing.
use Rattle.std.proofs.Common.{refl, sym, ◌∙◌}
use Rattle.exports.specs.Strings.{string_number, string_output}
use Rattle.exports.proofs.strings.give.Goals as goal

pub returns-in-None : goal.returns-in-None
unfolding string_number string_output
returns-in-None c = rw c.in-None.is (c.packed.ensures.answer, refl)

pub returns-then-copy_string : goal.returns-then-copy_string
unfolding string_number string_output
returns-then-copy_string c =
    let e = c.copy_string.ensures in
    rw c.in-Some.is (rw (sym e.0 ∙ c.if-copy_string.true) c.packed-then-copy_string.ensures.answer, e.1)

pub returns-else-copy_string : goal.returns-else-copy_string
unfolding string_number string_output
returns-else-copy_string c =
    let e = c.copy_string.ensures in
    rw c.in-Some.is (rw (sym e.0 ∙ c.if-copy_string.false) c.refused.ensures, e.1)
