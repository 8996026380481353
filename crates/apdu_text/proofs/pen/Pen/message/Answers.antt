-- Each kind is its word and its fields.
-- Assumes nothing.
use Rattle.apdu_text.specs.MessageText.{message_text}
use Rattle.apdu_text.proofs.Inking.{writes_then}
use Rattle.apdu_text.proofs.Applications.{message_writes}
use Rattle.apdu_text.proofs.pen.Pen.message.Goals as goal

pub returns-in-ActionRequest : goal.returns-in-ActionRequest
unfolding message_text
returns-in-ActionRequest c = message_writes _ _ _ c.in-ActionRequest.is (writes_then c.word.ensures c.request.ensures)

pub returns-in-ActionResponse : goal.returns-in-ActionResponse
unfolding message_text
returns-in-ActionResponse c = message_writes _ _ _ c.in-ActionResponse.is (writes_then c.word-in-ActionResponse.ensures c.action_response.ensures)

pub returns-in-EventRequest : goal.returns-in-EventRequest
unfolding message_text
returns-in-EventRequest c = message_writes _ _ _ c.in-EventRequest.is (writes_then c.word-in-EventRequest.ensures c.request-in-EventRequest.ensures)

pub returns-in-EventResponse : goal.returns-in-EventResponse
unfolding message_text
returns-in-EventResponse c = message_writes _ _ _ c.in-EventResponse.is (writes_then c.word-in-EventResponse.ensures c.response.ensures)

pub returns-in-SetRequest : goal.returns-in-SetRequest
unfolding message_text
returns-in-SetRequest c = message_writes _ _ _ c.in-SetRequest.is (writes_then c.word-in-SetRequest.ensures c.set_request.ensures)

pub returns-in-SetResponse : goal.returns-in-SetResponse
unfolding message_text
returns-in-SetResponse c = message_writes _ _ _ c.in-SetResponse.is (writes_then c.word-in-SetResponse.ensures c.response-in-SetResponse.ensures)

pub returns-in-GetRequest : goal.returns-in-GetRequest
unfolding message_text
returns-in-GetRequest c = message_writes _ _ _ c.in-GetRequest.is (writes_then c.word-in-GetRequest.ensures c.get_request.ensures)

pub returns-in-GetResponse : goal.returns-in-GetResponse
unfolding message_text
returns-in-GetResponse c = message_writes _ _ _ c.in-GetResponse.is (writes_then c.word-in-GetResponse.ensures c.get_response.ensures)

pub returns-in-Bst : goal.returns-in-Bst
unfolding message_text
returns-in-Bst c = message_writes _ _ _ c.in-Bst.is (writes_then c.word-in-Bst.ensures c.bst.ensures)

pub returns-in-Vst : goal.returns-in-Vst
unfolding message_text
returns-in-Vst c = message_writes _ _ _ c.in-Vst.is (writes_then c.word-in-Vst.ensures c.vst.ensures)
