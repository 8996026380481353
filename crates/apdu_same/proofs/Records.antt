-- The kinds of messages but BST and VST: where their leading parts agree, the rest is compared piece by piece.
-- Assumes nothing.
use Prim.Native.Nat.{ℕ}
use mathlib.Core.Path.{◌≡◌, refl, sym, ◌∙◌}
use mathlib.Core.List.{List, [], ◌∷◌}
use mathlib.Core.Bool.{Bool, true, false, ◌&&◌, not}
use lib.Dec.{eqb}
use lib.ListN.{length, take}
use Rattle.bits.specs.Strings.{is_inside}
use Rattle.apdu_format.proofs.Tests.{both}
use Rattle.apdu.specs.declared.lists.Row.{Row}
use Rattle.apdu.specs.declared.records.Request.{Request}
use Rattle.apdu.specs.declared.records.ActionResponse.{ActionResponse}
use Rattle.apdu.specs.declared.records.Response.{Response}
use Rattle.apdu.specs.declared.records.SetRequest.{SetRequest}
use Rattle.apdu.specs.declared.records.GetRequest.{GetRequest}
use Rattle.apdu.specs.declared.records.GetResponse.{GetResponse}
use Rattle.apdu.specs.Values.{bit_of, request_values, action_response_values, response_values, set_request_values, get_request_values, get_response_values}
use Rattle.apdu.specs.Sound.{sound_if, container_sound, rows_sound, request_sound, action_response_sound, set_request_sound, get_request_sound, get_response_sound}
use Rattle.apdu_same.specs.Walk.{same_if, same_part, same_box, same_list, Compares}
use Rattle.apdu_same.proofs.Agreement.{agree_number, begin, step, done, then, step_if, given, Lead, led, lead_true, flags_2, flags_3}
use Rattle.apdu_same.proofs.Leaves.{strings_agree, ids_agree}
use Rattle.apdu_same.proofs.RowLists.{box_agrees, list_agrees}

module _ (a b : Response) where
  pub response_same : {l iid ret : Bool} → Lead (bit_of a.has_iid ∷ bit_of a.has_ret ∷ a.fill ∷ [])
      (bit_of b.has_iid ∷ bit_of b.has_ret ∷ b.fill ∷ []) l → not l ≡ false
      → iid ≡ same_if (eqb a.eid b.eid) a.has_iid (eqb a.iid b.iid)
      → ret ≡ same_if iid a.has_ret (eqb a.ret b.ret)
      → Compares true true (response_values a) (response_values b) ret
  unfolding response_values
  response_same {ret = ret} l h e₁ e₂ =
      record {
        so = λ f g.
            let k = flags_2 a.has_iid a.has_ret b.has_iid b.has_ret (a.fill ∷ []) (b.fill ∷ []) (lead_true l h) in
            led l h
            (then (begin (agree_number a.eid b.eid))
            (then (step_if (λ z. k.0) e₁ (λ z w. agree_number a.iid b.iid))
            (then (step_if (λ z. k.1) e₂ (λ z w. agree_number a.ret b.ret))
            (done ret))));
      }

module _ (s : List ℕ) (a : Request) (vs : List Row) (t : List ℕ) (b : Request) (ws : List Row) where
  pub request_same : {l credentials parameter iid : Bool} → Lead (bit_of a.has_credentials ∷ bit_of a.has_parameter ∷ bit_of a.has_iid ∷ bit_of a.mode ∷ [])
      (bit_of b.has_credentials ∷ bit_of b.has_parameter ∷ bit_of b.has_iid ∷ bit_of b.mode ∷ []) l → not l ≡ false
      → credentials ≡ same_if (eqb a.eid b.eid && eqb a.service b.service) a.has_credentials (same_part s a.credentials a.credentials_length t b.credentials b.credentials_length)
      → parameter ≡ same_if credentials a.has_parameter (same_box s a.kind a.n a.start (take a.rows vs) t b.kind b.n b.start (take b.rows ws))
      → iid ≡ same_if parameter a.has_iid (eqb a.iid b.iid)
      → Compares (request_sound (length s) a vs) (request_sound (length t) b ws) (request_values s a vs) (request_values t b ws) iid
  unfolding request_values request_sound
  request_same {iid = iid} l h e₁ e₂ e₃ =
      record {
        so = λ f g.
            let k = flags_3 a.has_credentials a.has_parameter a.has_iid b.has_credentials b.has_parameter b.has_iid (bit_of a.mode ∷ []) (bit_of b.mode ∷ []) (lead_true l h) in
            let f' = both (sound_if a.has_credentials (is_inside (length s) a.credentials a.credentials_length)) (sound_if a.has_parameter (container_sound (length s) a.kind a.n a.start (take a.rows vs))) f in
            let g' = both (sound_if b.has_credentials (is_inside (length t) b.credentials b.credentials_length)) (sound_if b.has_parameter (container_sound (length t) b.kind b.n b.start (take b.rows ws))) g in
            led l h
            (then (begin (agree_number a.eid b.eid))
            (then (step (eqb a.eid b.eid) (agree_number a.service b.service))
            (then (step_if (λ z. k.0) e₁ (λ z w. strings_agree s a.credentials a.credentials_length t b.credentials b.credentials_length (given _ _ w f'.0) (given _ _ (sym k.0 ∙ w) g'.0)))
            (then (step_if (λ z. k.1) e₂ (λ z w. box_agrees s t a.kind a.n a.start (take a.rows vs) b.kind b.n b.start (take b.rows ws) (given _ _ w f'.1) (given _ _ (sym k.1 ∙ w) g'.1)))
            (then (step_if (λ z. k.2) e₃ (λ z w. agree_number a.iid b.iid))
            (done iid))))));
      }

module _ (s : List ℕ) (a : ActionResponse) (vs : List Row) (t : List ℕ) (b : ActionResponse) (ws : List Row) where
  pub action_response_same : {l iid parameter ret : Bool} → Lead (bit_of a.has_iid ∷ bit_of a.has_parameter ∷ bit_of a.has_ret ∷ a.fill ∷ [])
      (bit_of b.has_iid ∷ bit_of b.has_parameter ∷ bit_of b.has_ret ∷ b.fill ∷ []) l → not l ≡ false
      → iid ≡ same_if (eqb a.eid b.eid) a.has_iid (eqb a.iid b.iid)
      → parameter ≡ same_if iid a.has_parameter (same_box s a.kind a.n a.start (take a.rows vs) t b.kind b.n b.start (take b.rows ws))
      → ret ≡ same_if parameter a.has_ret (eqb a.ret b.ret)
      → Compares (action_response_sound (length s) a vs) (action_response_sound (length t) b ws) (action_response_values s a vs) (action_response_values t b ws) ret
  unfolding action_response_values action_response_sound
  action_response_same {ret = ret} l h e₁ e₂ e₃ =
      record {
        so = λ f g.
            let k = flags_3 a.has_iid a.has_parameter a.has_ret b.has_iid b.has_parameter b.has_ret (a.fill ∷ []) (b.fill ∷ []) (lead_true l h) in
            led l h
            (then (begin (agree_number a.eid b.eid))
            (then (step_if (λ z. k.0) e₁ (λ z w. agree_number a.iid b.iid))
            (then (step_if (λ z. k.1) e₂ (λ z w. box_agrees s t a.kind a.n a.start (take a.rows vs) b.kind b.n b.start (take b.rows ws) (given _ _ w f) (given _ _ (sym k.1 ∙ w) g)))
            (then (step_if (λ z. k.2) e₃ (λ z w. agree_number a.ret b.ret))
            (done ret)))));
      }

module _ (s : List ℕ) (a : SetRequest) (vs : List Row) (t : List ℕ) (b : SetRequest) (ws : List Row) where
  pub set_request_same : {l credentials list iid : Bool} → Lead (bit_of a.has_credentials ∷ bit_of a.has_iid ∷ a.fill ∷ bit_of a.mode ∷ [])
      (bit_of b.has_credentials ∷ bit_of b.has_iid ∷ b.fill ∷ bit_of b.mode ∷ []) l → not l ≡ false
      → credentials ≡ same_if (eqb a.eid b.eid) a.has_credentials (same_part s a.credentials a.credentials_length t b.credentials b.credentials_length)
      → list ≡ same_if credentials true (same_list s a.count (take a.rows vs) t b.count (take b.rows ws))
      → iid ≡ same_if list a.has_iid (eqb a.iid b.iid)
      → Compares (set_request_sound (length s) a vs) (set_request_sound (length t) b ws) (set_request_values s a vs) (set_request_values t b ws) iid
  unfolding set_request_values set_request_sound
  set_request_same {iid = iid} l h e₁ e₂ e₃ =
      record {
        so = λ f g.
            let k = flags_2 a.has_credentials a.has_iid b.has_credentials b.has_iid (a.fill ∷ bit_of a.mode ∷ []) (b.fill ∷ bit_of b.mode ∷ []) (lead_true l h) in
            let f' = both (sound_if a.has_credentials (is_inside (length s) a.credentials a.credentials_length)) (rows_sound (length s) a.count (take a.rows vs)) f in
            let g' = both (sound_if b.has_credentials (is_inside (length t) b.credentials b.credentials_length)) (rows_sound (length t) b.count (take b.rows ws)) g in
            led l h
            (then (begin (agree_number a.eid b.eid))
            (then (step_if (λ z. k.0) e₁ (λ z w. strings_agree s a.credentials a.credentials_length t b.credentials b.credentials_length (given _ _ w f'.0) (given _ _ (sym k.0 ∙ w) g'.0)))
            (then (step_if (λ z. refl) e₂ (λ z w. list_agrees s t a.count (take a.rows vs) b.count (take b.rows ws) f'.1 g'.1))
            (then (step_if (λ z. k.1) e₃ (λ z w. agree_number a.iid b.iid))
            (done iid)))));
      }

module _ (s : List ℕ) (a : GetRequest) (t : List ℕ) (b : GetRequest) where
  pub get_request_same : {l credentials iid ids : Bool} → Lead (bit_of a.has_credentials ∷ bit_of a.has_iid ∷ bit_of a.has_ids ∷ a.fill ∷ [])
      (bit_of b.has_credentials ∷ bit_of b.has_iid ∷ bit_of b.has_ids ∷ b.fill ∷ []) l → not l ≡ false
      → credentials ≡ same_if (eqb a.eid b.eid) a.has_credentials (same_part s a.credentials a.credentials_length t b.credentials b.credentials_length)
      → iid ≡ same_if credentials a.has_iid (eqb a.iid b.iid)
      → ids ≡ same_if iid a.has_ids (same_part s a.ids a.count t b.ids b.count)
      → Compares (get_request_sound (length s) a) (get_request_sound (length t) b) (get_request_values s a) (get_request_values t b) ids
  unfolding get_request_values get_request_sound
  get_request_same {ids = ids} l h e₁ e₂ e₃ =
      record {
        so = λ f g.
            let k = flags_3 a.has_credentials a.has_iid a.has_ids b.has_credentials b.has_iid b.has_ids (a.fill ∷ []) (b.fill ∷ []) (lead_true l h) in
            let f' = both (sound_if a.has_credentials (is_inside (length s) a.credentials a.credentials_length)) (sound_if a.has_ids (is_inside (length s) a.ids a.count)) f in
            let g' = both (sound_if b.has_credentials (is_inside (length t) b.credentials b.credentials_length)) (sound_if b.has_ids (is_inside (length t) b.ids b.count)) g in
            led l h
            (then (begin (agree_number a.eid b.eid))
            (then (step_if (λ z. k.0) e₁ (λ z w. strings_agree s a.credentials a.credentials_length t b.credentials b.credentials_length (given _ _ w f'.0) (given _ _ (sym k.0 ∙ w) g'.0)))
            (then (step_if (λ z. k.1) e₂ (λ z w. agree_number a.iid b.iid))
            (then (step_if (λ z. k.2) e₃ (λ z w. ids_agree s a.ids a.count t b.ids b.count (given _ _ w f'.1) (given _ _ (sym k.2 ∙ w) g'.1)))
            (done ids)))));
      }

module _ (s : List ℕ) (a : GetResponse) (vs : List Row) (t : List ℕ) (b : GetResponse) (ws : List Row) where
  pub get_response_same : {l iid list ret : Bool} → Lead (bit_of a.has_iid ∷ bit_of a.has_attributes ∷ bit_of a.has_ret ∷ a.fill ∷ [])
      (bit_of b.has_iid ∷ bit_of b.has_attributes ∷ bit_of b.has_ret ∷ b.fill ∷ []) l → not l ≡ false
      → iid ≡ same_if (eqb a.eid b.eid) a.has_iid (eqb a.iid b.iid)
      → list ≡ same_if iid a.has_attributes (same_list s a.count (take a.rows vs) t b.count (take b.rows ws))
      → ret ≡ same_if list a.has_ret (eqb a.ret b.ret)
      → Compares (get_response_sound (length s) a vs) (get_response_sound (length t) b ws) (get_response_values s a vs) (get_response_values t b ws) ret
  unfolding get_response_values get_response_sound
  get_response_same {ret = ret} l h e₁ e₂ e₃ =
      record {
        so = λ f g.
            let k = flags_3 a.has_iid a.has_attributes a.has_ret b.has_iid b.has_attributes b.has_ret (a.fill ∷ []) (b.fill ∷ []) (lead_true l h) in
            led l h
            (then (begin (agree_number a.eid b.eid))
            (then (step_if (λ z. k.0) e₁ (λ z w. agree_number a.iid b.iid))
            (then (step_if (λ z. k.1) e₂ (λ z w. list_agrees s t a.count (take a.rows vs) b.count (take b.rows ws) (given _ _ w f) (given _ _ (sym k.1 ∙ w) g)))
            (then (step_if (λ z. k.2) e₃ (λ z w. agree_number a.ret b.ret))
            (done ret)))));
      }
