-- `exports::messages::written` meets its contract, case by case. Assumes nothing.
use Rattle.exports.specs.Messages.{written_number}
use Rattle.apdu_writing.specs.Answer.{answer_of}
use Rattle.exports.proofs.messages.written.Goals as goal

pub returns-in-Ok : goal.returns-in-Ok
unfolding written_number answer_of
returns-in-Ok c = rw c.in-Ok.is c.packed.ensures.answer

pub returns-in-Err-RecordOutOfRange : goal.returns-in-Err-RecordOutOfRange
unfolding written_number answer_of
returns-in-Err-RecordOutOfRange c = rw (c.in-Err-RecordOutOfRange.is, rw c.in-Err-RecordOutOfRange.is at c.in-Err-RecordOutOfRange.field-0-is) c.refused.ensures

pub returns-in-Err-MessageTooLong : goal.returns-in-Err-MessageTooLong
unfolding written_number answer_of
returns-in-Err-MessageTooLong c =
    rw (c.in-Err-MessageTooLong.is, rw c.in-Err-MessageTooLong.is at c.in-Err-MessageTooLong.field-0-is) (rw c.from.ensures at c.packed-in-Err-MessageTooLong.ensures.answer)

pub returns-in-Err-OutputTooSmall : goal.returns-in-Err-OutputTooSmall
unfolding written_number answer_of
returns-in-Err-OutputTooSmall c = rw (c.in-Err-OutputTooSmall.is, rw c.in-Err-OutputTooSmall.is at c.in-Err-OutputTooSmall.field-0-is) c.refused-in-Err-OutputTooSmall.ensures
