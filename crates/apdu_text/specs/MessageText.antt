-- The text of a message: its kind and its present fields in wire order, ` name=value` each. The ten definitions stand in the order of the choices.
-- Assumes nothing.
use Rattle.std.specs.Prelude.{ℕ, List, ◌++◌, take, drop}
use Rattle.apdu.specs.declared.lists.Row.{Row}
use Rattle.apdu.specs.declared.lists.Entry.{Entry}
use Rattle.apdu.specs.declared.records.Request.{Request}
use Rattle.apdu.specs.declared.records.ActionResponse.{ActionResponse}
use Rattle.apdu.specs.declared.records.Response.{Response}
use Rattle.apdu.specs.declared.records.SetRequest.{SetRequest}
use Rattle.apdu.specs.declared.records.GetRequest.{GetRequest}
use Rattle.apdu.specs.declared.records.GetResponse.{GetResponse}
use Rattle.apdu.specs.declared.records.Bst.{Bst}
use Rattle.apdu.specs.declared.records.Vst.{Vst}
use Rattle.apdu.specs.declared.records.Message.{Message}
use Rattle.apdu.specs.declared.records.Message.TheVariants as kind
use Rattle.apdu.specs.Values.{bit_of, rows_of}
use Rattle.bench_lines.specs.Line.{hex_text}
use Rattle.apdu_text.specs.Words.{action_request_word, action_response_word, event_request_word, event_response_word, set_request_word, set_response_word, get_request_word, get_response_word, bst_word, vst_word, mode_is, eid_is, type_is, credentials_is, parameter_is, iid_is, fill_is, ret_is, attributes_is, ids_is, manufacturer_is, individual_is, time_is, profile_is, mandatory_is, optional_is, profiles_is, applications_is, class_is, maker_is, status_is}
use Rattle.apdu_text.specs.Parts.{decimal, part_at, when, number_list, container_text, attribute_rows, entry_list}

-- mode eid type credentials parameter iid
unfoldable pub request_text : List ℕ → Request → List Row → List ℕ
request_text s m rs =
    (mode_is ++ decimal (bit_of m.mode))
    ++ ((eid_is ++ decimal m.eid)
    ++ ((type_is ++ decimal m.service)
    ++ (when m.has_credentials (credentials_is ++ hex_text (part_at s m.credentials m.credentials_length))
    ++ (when m.has_parameter (parameter_is ++ container_text s m.kind m.n m.start (take m.rows rs))
    ++ when m.has_iid (iid_is ++ decimal m.iid)))))

-- fill eid iid parameter ret
unfoldable pub action_response_text : List ℕ → ActionResponse → List Row → List ℕ
action_response_text s m rs =
    (fill_is ++ decimal m.fill)
    ++ ((eid_is ++ decimal m.eid)
    ++ (when m.has_iid (iid_is ++ decimal m.iid)
    ++ (when m.has_parameter (parameter_is ++ container_text s m.kind m.n m.start (take m.rows rs))
    ++ when m.has_ret (ret_is ++ decimal m.ret))))

-- fill eid iid ret
unfoldable pub response_text : Response → List ℕ
response_text m =
    (fill_is ++ decimal m.fill)
    ++ ((eid_is ++ decimal m.eid) ++ (when m.has_iid (iid_is ++ decimal m.iid) ++ when m.has_ret (ret_is ++ decimal m.ret)))

-- fill mode eid credentials attributes iid
unfoldable pub set_request_text : List ℕ → SetRequest → List Row → List ℕ
set_request_text s m rs =
    (fill_is ++ decimal m.fill)
    ++ ((mode_is ++ decimal (bit_of m.mode))
    ++ ((eid_is ++ decimal m.eid)
    ++ (when m.has_credentials (credentials_is ++ hex_text (part_at s m.credentials m.credentials_length))
    ++ ((attributes_is ++ attribute_rows s m.count (take m.rows rs)) ++ when m.has_iid (iid_is ++ decimal m.iid)))))

-- fill eid credentials iid ids
unfoldable pub get_request_text : List ℕ → GetRequest → List ℕ
get_request_text s m =
    (fill_is ++ decimal m.fill)
    ++ ((eid_is ++ decimal m.eid)
    ++ (when m.has_credentials (credentials_is ++ hex_text (part_at s m.credentials m.credentials_length))
    ++ (when m.has_iid (iid_is ++ decimal m.iid) ++ when m.has_ids (ids_is ++ number_list (part_at s m.ids m.count)))))

-- fill eid iid attributes ret
unfoldable pub get_response_text : List ℕ → GetResponse → List Row → List ℕ
get_response_text s m rs =
    (fill_is ++ decimal m.fill)
    ++ ((eid_is ++ decimal m.eid)
    ++ (when m.has_iid (iid_is ++ decimal m.iid)
    ++ (when m.has_attributes (attributes_is ++ attribute_rows s m.count (take m.rows rs)) ++ when m.has_ret (ret_is ++ decimal m.ret))))

-- manufacturer individual time profile mandatory optional profiles
unfoldable pub bst_text : List ℕ → Bst → List Entry → List Row → List ℕ
bst_text s m es rs =
    (manufacturer_is ++ decimal m.manufacturer)
    ++ ((individual_is ++ decimal m.individual)
    ++ ((time_is ++ decimal m.time)
    ++ ((profile_is ++ decimal m.profile)
    ++ ((mandatory_is ++ entry_list s (take m.mandatory es) rs)
    ++ (when m.has_others (optional_is ++ entry_list s (take m.others (drop m.mandatory es)) (drop (rows_of (take m.mandatory es)) rs))
    ++ (profiles_is ++ number_list (part_at s m.profiles m.profile_count)))))))

-- fill profile applications class maker status
unfoldable pub vst_text : List ℕ → Vst → List Entry → List Row → List ℕ
vst_text s m es rs =
    (fill_is ++ decimal m.fill)
    ++ ((profile_is ++ decimal m.profile)
    ++ ((applications_is ++ entry_list s (take m.applications es) rs)
    ++ ((class_is ++ decimal m.class) ++ ((maker_is ++ decimal m.maker) ++ when m.has_status (status_is ++ decimal m.status)))))

-- a message with its kind
unfoldable pub message_text : List ℕ → Message → List Entry → List Row → List ℕ
message_text s (kind.ActionRequest m) es rs = action_request_word ++ request_text s m rs
message_text s (kind.ActionResponse m) es rs = action_response_word ++ action_response_text s m rs
message_text s (kind.EventRequest m) es rs = event_request_word ++ request_text s m rs
message_text s (kind.EventResponse m) es rs = event_response_word ++ response_text m
message_text s (kind.SetRequest m) es rs = set_request_word ++ set_request_text s m rs
message_text s (kind.SetResponse m) es rs = set_response_word ++ response_text m
message_text s (kind.GetRequest m) es rs = get_request_word ++ get_request_text s m
message_text s (kind.GetResponse m) es rs = get_response_word ++ get_response_text s m rs
message_text s (kind.Bst m) es rs = bst_word ++ bst_text s m es rs
message_text s (kind.Vst m) es rs = vst_word ++ vst_text s m es rs
