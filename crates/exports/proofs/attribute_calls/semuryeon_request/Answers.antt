-- `exports::attribute_calls::semuryeon_request` meets its contract: the call of the rows that the words are. Assumes nothing.
use Rattle.exports.proofs.AttributeNumbers.{unpacking_request}
use Rattle.exports.proofs.attribute_calls.semuryeon_request.Goals as goal

pub returns : goal.returns
returns c = record {
  answer =
      rw (← c.directory_in-directory.ensures.answer, ← c.from.ensures) (record {
        call = c.request_among-answer.result;
        answered = c.request_among-answer.ensures.answer;
        is = c.told.ensures;
      });
  unpacking = unpacking_request;
}
