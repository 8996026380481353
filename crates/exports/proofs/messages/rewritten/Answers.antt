-- `exports::messages::rewritten` meets its contract, case by case. Assumes nothing.
use Rattle.exports.specs.Messages.{written_number}
use Rattle.apdu_rewriting.specs.Rewriting.{answer_of}
use Rattle.exports.proofs.messages.rewritten.Goals as goal

pub returns-in-Refused : goal.returns-in-Refused
unfolding written_number answer_of
returns-in-Refused c = rw c.in-Refused.is c.packed.ensures.answer

pub returns-in-Written : goal.returns-in-Written
unfolding written_number answer_of
returns-in-Written c = rw c.in-Written.is c.written.ensures
