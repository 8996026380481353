-- Two of the same kind are compared behind their choice; another kind differs.
-- Assumes nothing.
use mathlib.Core.Path.{ap}
use mathlib.Core.List.{[], ◌∷◌}
use Rattle.apdu_same.proofs.AnyKind.{choice_of, other_kind, same_0, same_1, same_2, same_3, same_4, same_5, same_6, same_7, same_8, same_9}
use Rattle.apdu_same.proofs.message.agree.Goals as goal

pub returns-in_default : goal.returns-in_default
returns-in_default c = other_kind _ _ _ _ _ _ _ _ 0 (1 ∷ 2 ∷ 3 ∷ 4 ∷ 5 ∷ 6 ∷ 7 ∷ 8 ∷ 9 ∷ []) (ap choice_of c.in_default.is-0) c.in_default.in_default-own.keys2 tt

pub returns-in_default-2 : goal.returns-in_default-2
returns-in_default-2 c = other_kind _ _ _ _ _ _ _ _ 1 (0 ∷ 2 ∷ 3 ∷ 4 ∷ 5 ∷ 6 ∷ 7 ∷ 8 ∷ 9 ∷ []) (ap choice_of c.in_default.is-0) c.in_default.in_default-own.keys2 tt

pub returns-in_default-3 : goal.returns-in_default-3
returns-in_default-3 c = other_kind _ _ _ _ _ _ _ _ 2 (0 ∷ 1 ∷ 3 ∷ 4 ∷ 5 ∷ 6 ∷ 7 ∷ 8 ∷ 9 ∷ []) (ap choice_of c.in_default.is-0) c.in_default.in_default-own.keys2 tt

pub returns-in_default-4 : goal.returns-in_default-4
returns-in_default-4 c = other_kind _ _ _ _ _ _ _ _ 3 (0 ∷ 1 ∷ 2 ∷ 4 ∷ 5 ∷ 6 ∷ 7 ∷ 8 ∷ 9 ∷ []) (ap choice_of c.in_default.is-0) c.in_default.in_default-own.keys2 tt

pub returns-in_default-5 : goal.returns-in_default-5
returns-in_default-5 c = other_kind _ _ _ _ _ _ _ _ 4 (0 ∷ 1 ∷ 2 ∷ 3 ∷ 5 ∷ 6 ∷ 7 ∷ 8 ∷ 9 ∷ []) (ap choice_of c.in_default.is-0) c.in_default.in_default-own.keys2 tt

pub returns-in_default-6 : goal.returns-in_default-6
returns-in_default-6 c = other_kind _ _ _ _ _ _ _ _ 5 (0 ∷ 1 ∷ 2 ∷ 3 ∷ 4 ∷ 6 ∷ 7 ∷ 8 ∷ 9 ∷ []) (ap choice_of c.in_default.is-0) c.in_default.in_default-own.keys2 tt

pub returns-in_default-7 : goal.returns-in_default-7
returns-in_default-7 c = other_kind _ _ _ _ _ _ _ _ 6 (0 ∷ 1 ∷ 2 ∷ 3 ∷ 4 ∷ 5 ∷ 7 ∷ 8 ∷ 9 ∷ []) (ap choice_of c.in_default.is-0) c.in_default.in_default-own.keys2 tt

pub returns-in_default-8 : goal.returns-in_default-8
returns-in_default-8 c = other_kind _ _ _ _ _ _ _ _ 7 (0 ∷ 1 ∷ 2 ∷ 3 ∷ 4 ∷ 5 ∷ 6 ∷ 8 ∷ 9 ∷ []) (ap choice_of c.in_default.is-0) c.in_default.in_default-own.keys2 tt

pub returns-in_default-9 : goal.returns-in_default-9
returns-in_default-9 c = other_kind _ _ _ _ _ _ _ _ 8 (0 ∷ 1 ∷ 2 ∷ 3 ∷ 4 ∷ 5 ∷ 6 ∷ 7 ∷ 9 ∷ []) (ap choice_of c.in_default.is-0) c.in_default.in_default-own.keys2 tt

pub returns-in_default-10 : goal.returns-in_default-10
returns-in_default-10 c = other_kind _ _ _ _ _ _ _ _ 9 (0 ∷ 1 ∷ 2 ∷ 3 ∷ 4 ∷ 5 ∷ 6 ∷ 7 ∷ 8 ∷ []) (ap choice_of c.in_default.is-0) c.in_default.in_default-own.keys2 tt

pub returns-in-ActionRequest-ActionRequest : goal.returns-in-ActionRequest-ActionRequest
returns-in-ActionRequest-ActionRequest c = same_0 _ _ _ _ _ _ _ _ c.in-ActionRequest-ActionRequest.is-0 c.in-ActionRequest-ActionRequest.is-1 c.request.ensures

pub returns-in-ActionResponse-ActionResponse : goal.returns-in-ActionResponse-ActionResponse
returns-in-ActionResponse-ActionResponse c = same_1 _ _ _ _ _ _ _ _ c.in-ActionResponse-ActionResponse.is-0 c.in-ActionResponse-ActionResponse.is-1 c.action_response.ensures

pub returns-in-EventRequest-EventRequest : goal.returns-in-EventRequest-EventRequest
returns-in-EventRequest-EventRequest c = same_2 _ _ _ _ _ _ _ _ c.in-EventRequest-EventRequest.is-0 c.in-EventRequest-EventRequest.is-1 c.request-in-EventRequest-EventRequest.ensures

pub returns-in-EventResponse-EventResponse : goal.returns-in-EventResponse-EventResponse
returns-in-EventResponse-EventResponse c = same_3 _ _ _ _ _ _ _ _ c.in-EventResponse-EventResponse.is-0 c.in-EventResponse-EventResponse.is-1 c.response.ensures

pub returns-in-SetRequest-SetRequest : goal.returns-in-SetRequest-SetRequest
returns-in-SetRequest-SetRequest c = same_4 _ _ _ _ _ _ _ _ c.in-SetRequest-SetRequest.is-0 c.in-SetRequest-SetRequest.is-1 c.set_request.ensures

pub returns-in-SetResponse-SetResponse : goal.returns-in-SetResponse-SetResponse
returns-in-SetResponse-SetResponse c = same_5 _ _ _ _ _ _ _ _ c.in-SetResponse-SetResponse.is-0 c.in-SetResponse-SetResponse.is-1 c.response-in-SetResponse-SetResponse.ensures

pub returns-in-GetRequest-GetRequest : goal.returns-in-GetRequest-GetRequest
returns-in-GetRequest-GetRequest c = same_6 _ _ _ _ _ _ _ _ c.in-GetRequest-GetRequest.is-0 c.in-GetRequest-GetRequest.is-1 c.get_request.ensures

pub returns-in-GetResponse-GetResponse : goal.returns-in-GetResponse-GetResponse
returns-in-GetResponse-GetResponse c = same_7 _ _ _ _ _ _ _ _ c.in-GetResponse-GetResponse.is-0 c.in-GetResponse-GetResponse.is-1 c.get_response.ensures

pub returns-in-Bst-Bst : goal.returns-in-Bst-Bst
returns-in-Bst-Bst c = same_8 _ _ _ _ _ _ _ _ c.in-Bst-Bst.is-0 c.in-Bst-Bst.is-1 c.bst.ensures

pub returns-in-Vst-Vst : goal.returns-in-Vst-Vst
returns-in-Vst-Vst c = same_9 _ _ _ _ _ _ _ _ c.in-Vst-Vst.is-0 c.in-Vst-Vst.is-1 c.vst.ensures
