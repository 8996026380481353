-- `exports::attribute_calls::told` meets its contract, case by case. Assumes nothing.
use Rattle.exports.specs.AttributeCalls.{outcome_number}
use Rattle.attributes.specs.Serving.{told_of}
use Rattle.exports.proofs.attribute_calls.told.Goals as goal

pub returns-in-Refused : goal.returns-in-Refused
unfolding outcome_number told_of
returns-in-Refused c = rw c.in-Refused.is c.packed.ensures.answer

pub returns-in-RefusedAt : goal.returns-in-RefusedAt
unfolding outcome_number told_of
returns-in-RefusedAt c = rw c.in-RefusedAt.is c.packed-in-RefusedAt.ensures.answer

pub returns-in-NoReply : goal.returns-in-NoReply
unfolding outcome_number told_of
returns-in-NoReply c = rw c.in-NoReply.is c.packed-in-NoReply.ensures.answer

pub returns-in-Reply : goal.returns-in-Reply
unfolding outcome_number told_of
returns-in-Reply c = rw c.in-Reply.is c.packed-in-Reply.ensures.answer
