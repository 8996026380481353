-- Each kind is put by its function.
-- Assumes nothing.
use Rattle.apdu_writing.proofs.AnyKind.{put_0, put_1, put_2, put_3, put_4, put_5, put_6, put_7, put_link_law}
use Rattle.apdu_writing.proofs.message.put_message.Goals as goal

pub returns-in-ActionRequest : goal.returns-in-ActionRequest
returns-in-ActionRequest c = put_0 _ _ _ _ c.in-ActionRequest.is c.request-q.ensures c.within.ensures

pub returns-in-ActionResponse : goal.returns-in-ActionResponse
returns-in-ActionResponse c = put_1 _ _ _ _ c.in-ActionResponse.is c.action_response-q.ensures c.within-in-ActionResponse.ensures

pub returns-in-EventRequest : goal.returns-in-EventRequest
returns-in-EventRequest c = put_2 _ _ _ _ c.in-EventRequest.is c.request-q-in-EventRequest.ensures c.within-in-EventRequest.ensures

pub returns-in-EventResponse : goal.returns-in-EventResponse
returns-in-EventResponse c = put_3 _ _ _ _ c.in-EventResponse.is c.response.ensures

pub returns-in-SetRequest : goal.returns-in-SetRequest
returns-in-SetRequest c = put_4 _ _ _ _ c.in-SetRequest.is c.set_request-q.ensures c.within-in-SetRequest.ensures

pub returns-in-SetResponse : goal.returns-in-SetResponse
returns-in-SetResponse c = put_5 _ _ _ _ c.in-SetResponse.is c.response-in-SetResponse.ensures

pub returns-in-GetRequest : goal.returns-in-GetRequest
returns-in-GetRequest c = put_6 _ _ _ _ c.in-GetRequest.is c.get_request.ensures

pub returns-in-GetResponse : goal.returns-in-GetResponse
returns-in-GetResponse c = put_7 _ _ _ _ c.in-GetResponse.is c.get_response-q.ensures c.within-in-GetResponse.ensures

pub returns-in_default : goal.returns-in_default
returns-in_default c = put_link_law _ _ _ _ c.in_default.in_default-own.keys9 c.link_message.ensures
