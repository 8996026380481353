-- `exports::fragments::fragment_number` meets its contract, case by case. Assumes nothing.
use Rattle.exports.specs.Fragments.{fragment_number}
use Rattle.exports.proofs.fragments.fragment_number.Goals as goal

pub returns-in-Ok-Held : goal.returns-in-Ok-Held
unfolding fragment_number
returns-in-Ok-Held c = rw (c.in-Ok-Held.is, rw c.in-Ok-Held.is at c.in-Ok-Held.field-0-is) c.packed.ensures.answer

pub returns-in-Ok-Whole : goal.returns-in-Ok-Whole
unfolding fragment_number
returns-in-Ok-Whole c = rw (c.in-Ok-Whole.is, rw c.in-Ok-Whole.is at c.in-Ok-Whole.field-0-is) c.packed-in-Ok-Whole.ensures.answer

pub returns-in-Err : goal.returns-in-Err
unfolding fragment_number
returns-in-Err c = rw c.in-Err.is c.refused.ensures
