-- A message of any kind.
-- Assumes nothing.
use Prim.Native.Nat.{ℕ}
use mathlib.Core.Path.{◌≡◌, refl}
use mathlib.Core.List.{List, [], ◌∷◌}
use mathlib.Core.Bool.{true, ◌&&◌}
use denote.Enum.Declared as Declared
use lib.ListN.{length}
use types.Run.{OneOf, miss}
use Rattle.apdu_format.specs.Component.{choice}
use Rattle.apdu_format.specs.Table.{layout_of}
use Rattle.apdu_format.specs.Reading.{fields}
use Rattle.apdu.specs.declared.lists.Row.{Row}
use Rattle.apdu.specs.declared.lists.Entry.{Entry}
use Rattle.apdu.specs.declared.records.Message.{Message}
use Rattle.apdu.specs.declared.records.Message.TheVariants as kind
use Rattle.apdu.specs.contracts.records.Message as message
use Rattle.apdu.specs.declared.records.Request.{Request}
use Rattle.apdu.specs.declared.records.ActionResponse.{ActionResponse}
use Rattle.apdu.specs.declared.records.Response.{Response}
use Rattle.apdu.specs.declared.records.SetRequest.{SetRequest}
use Rattle.apdu.specs.declared.records.GetRequest.{GetRequest}
use Rattle.apdu.specs.declared.records.GetResponse.{GetResponse}
use Rattle.apdu.proofs.Laws.{and_unit}
use Rattle.apdu.specs.Values.{values_of, request_values, action_response_values, response_values, set_request_values, get_request_values, get_response_values}
use Rattle.apdu_writing.specs.declared.quill.Quill.{Quill}
use Rattle.apdu.specs.Sound.{count_if, rows_present, rows_fit, sound, request_sound, action_response_sound, set_request_sound, get_request_sound, get_response_sound}
use Rattle.apdu_writing.specs.Quill.{limited, Puts, As}
use Rattle.apdu_writing.specs.Link.{LinkPut}
use Rattle.apdu_writing.proofs.Chains.{limit}

module _ (s : List ℕ) (m : Message) (es : List Entry) (rs : List Row) {c r : Quill} {o o' : List ℕ} where
  pub put_0 : {x : Request} → m ≡ kind.ActionRequest x → {q : Quill} → As 0 0 (Puts (request_sound (length s) x rs) (choice ∷ []) c q o o' (fields (0 ∷ []) ∷ request_values s x rs)) → r ≡ limited (count_if x.has_parameter x.rows) q → Puts (sound (length s) m es rs && rows_fit m es) (choice ∷ []) c r o o' (values_of s m es rs)
  unfolding sound values_of rows_fit rows_present
  put_0 {x} e p f = rw e (limit (p.so (unfold layout_of in refl)) _ (λ g. refl) f)

  pub put_1 : {x : ActionResponse} → m ≡ kind.ActionResponse x → {q : Quill} → Puts (action_response_sound (length s) x rs) (choice ∷ []) c q o o' (fields (1 ∷ []) ∷ action_response_values s x rs) → r ≡ limited (count_if x.has_parameter x.rows) q → Puts (sound (length s) m es rs && rows_fit m es) (choice ∷ []) c r o o' (values_of s m es rs)
  unfolding sound values_of rows_fit rows_present
  put_1 {x} e p f = rw e (limit p _ (λ g. refl) f)

  pub put_2 : {x : Request} → m ≡ kind.EventRequest x → {q : Quill} → As 2 0 (Puts (request_sound (length s) x rs) (choice ∷ []) c q o o' (fields (2 ∷ []) ∷ request_values s x rs)) → r ≡ limited (count_if x.has_parameter x.rows) q → Puts (sound (length s) m es rs && rows_fit m es) (choice ∷ []) c r o o' (values_of s m es rs)
  unfolding sound values_of rows_fit rows_present
  put_2 {x} e p f = rw e (limit (p.so (unfold layout_of in refl)) _ (λ g. refl) f)

  pub put_3 : {x : Response} → m ≡ kind.EventResponse x → As 3 3 (Puts true (choice ∷ []) c r o o' (fields (3 ∷ []) ∷ response_values x)) → Puts (sound (length s) m es rs && rows_fit m es) (choice ∷ []) c r o o' (values_of s m es rs)
  unfolding sound values_of rows_fit rows_present
  put_3 e q = rw e (q.so (unfold layout_of in refl))

  pub put_4 : {x : SetRequest} → m ≡ kind.SetRequest x → {q : Quill} → Puts (set_request_sound (length s) x rs) (choice ∷ []) c q o o' (fields (4 ∷ []) ∷ set_request_values s x rs) → r ≡ limited (count_if true x.rows) q → Puts (sound (length s) m es rs && rows_fit m es) (choice ∷ []) c r o o' (values_of s m es rs)
  unfolding sound values_of rows_fit rows_present
  put_4 {x} e p f = rw e (limit p _ (λ g. refl) f)

  pub put_5 : {x : Response} → m ≡ kind.SetResponse x → As 5 3 (Puts true (choice ∷ []) c r o o' (fields (5 ∷ []) ∷ response_values x)) → Puts (sound (length s) m es rs && rows_fit m es) (choice ∷ []) c r o o' (values_of s m es rs)
  unfolding sound values_of rows_fit rows_present
  put_5 e q = rw e (q.so (unfold layout_of in refl))

  pub put_6 : {x : GetRequest} → m ≡ kind.GetRequest x → Puts (get_request_sound (length s) x) (choice ∷ []) c r o o' (fields (6 ∷ []) ∷ get_request_values s x) → Puts (sound (length s) m es rs && rows_fit m es) (choice ∷ []) c r o o' (values_of s m es rs)
  unfolding sound values_of rows_fit rows_present
  put_6 {x} e q = rw (e, and_unit (get_request_sound (length s) x)) q

  pub put_7 : {x : GetResponse} → m ≡ kind.GetResponse x → {q : Quill} → Puts (get_response_sound (length s) x rs) (choice ∷ []) c q o o' (fields (7 ∷ []) ∷ get_response_values s x rs) → r ≡ limited (count_if x.has_attributes x.rows) q → Puts (sound (length s) m es rs && rows_fit m es) (choice ∷ []) c r o o' (values_of s m es rs)
  unfolding sound values_of rows_fit rows_present
  put_7 {x} e p f = rw e (limit p _ (λ g. refl) f)

-- a BST or a VST
pub put_link_law : (s : List ℕ) (m : Message) (es : List Entry) (rs : List Row) {c r : Quill} {o o' : List ℕ} → OneOf (8 ∷ 9 ∷ []) (Declared.tag_of message.the_type m) → LinkPut s m es rs c r o o'
    → Puts (sound (length s) m es rs && rows_fit m es) (choice ∷ []) c r o o' (values_of s m es rs)
unfolding sound values_of rows_fit rows_present
put_link_law s (kind.ActionRequest x) es rs h p = absurd (miss (8 ∷ 9 ∷ []) 0 tt h)
put_link_law s (kind.ActionResponse x) es rs h p = absurd (miss (8 ∷ 9 ∷ []) 1 tt h)
put_link_law s (kind.EventRequest x) es rs h p = absurd (miss (8 ∷ 9 ∷ []) 2 tt h)
put_link_law s (kind.EventResponse x) es rs h p = absurd (miss (8 ∷ 9 ∷ []) 3 tt h)
put_link_law s (kind.SetRequest x) es rs h p = absurd (miss (8 ∷ 9 ∷ []) 4 tt h)
put_link_law s (kind.SetResponse x) es rs h p = absurd (miss (8 ∷ 9 ∷ []) 5 tt h)
put_link_law s (kind.GetRequest x) es rs h p = absurd (miss (8 ∷ 9 ∷ []) 6 tt h)
put_link_law s (kind.GetResponse x) es rs h p = absurd (miss (8 ∷ 9 ∷ []) 7 tt h)
put_link_law s (kind.Bst x) es rs h p = p.bst x refl
put_link_law s (kind.Vst x) es rs h p = p.vst x refl
