-- `exports::link_calls::hear` meets its contract, case by case. Assumes nothing.
use mathlib.Core.Path.{refl}
use Rattle.exports.specs.LinkCalls.{reply_number, reply_words}
use Rattle.exports.proofs.LinkCallLaws.{heard_is}
use Rattle.exports.proofs.link_calls.hear.Goals as goal

pub returns-in-Ok-None : goal.returns-in-Ok-None
unfolding reply_number reply_words
returns-in-Ok-None c =
    rw (← c.link_in-after.ensures.answer, ← c.elements_in.ensures.answer)
    (heard_is _ _ c.hear_bst-answer.ensures.gives (rw (c.in-Ok-None.is, rw c.in-Ok-None.is at c.in-Ok-None.field-0-is) (c.packed.ensures.answer, c.put_link.ensures.answer)))

pub returns-in-Ok-Some : goal.returns-in-Ok-Some
unfolding reply_number reply_words
returns-in-Ok-Some c =
    rw (← c.link_in-after.ensures.answer, ← c.elements_in.ensures.answer)
    (heard_is _ _ c.hear_bst-answer.ensures.gives (rw (c.in-Ok-Some.is, rw c.in-Ok-Some.is at c.in-Ok-Some.field-0-is) (c.packed-in-Ok-Some.ensures.answer, c.put_link-in-Ok-Some.ensures.answer)))

pub returns-in-Err : goal.returns-in-Err
unfolding reply_number reply_words
returns-in-Err c =
    rw (← c.link_in-after.ensures.answer, ← c.elements_in.ensures.answer)
    (heard_is _ _ c.hear_bst-answer.ensures.gives (rw c.in-Err.is (c.refused.ensures, refl)))
