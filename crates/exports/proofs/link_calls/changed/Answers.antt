-- `exports::link_calls::changed` meets its contract, case by case. Assumes nothing.
use mathlib.Core.Path.{refl}
use Rattle.exports.specs.LinkCalls.{change_number, change_words}
use Rattle.exports.proofs.link_calls.changed.Goals as goal

pub returns-in-Ok : goal.returns-in-Ok
unfolding change_number change_words
returns-in-Ok c = rw c.in-Ok.is (c.packed.ensures.answer, c.put_link.ensures.answer)

pub returns-in-Err : goal.returns-in-Err
unfolding change_number change_words
returns-in-Err c = rw c.in-Err.is (c.refused.ensures, refl)
