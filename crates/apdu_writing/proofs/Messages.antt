-- The messages of one leading octet, the choice and four bits, and then the components in Annex A's order.
-- Assumes nothing.
use Prim.Native.Nat.{ℕ, ◌+◌, ◌*◌, ◌<◌}
use mathlib.Core.Path.{◌≡◌, refl, ap, ◌∙◌}
use mathlib.Core.List.{List, [], ◌∷◌, ◌++◌}
use mathlib.Core.Bool.{true}
use native.Mathlib.Omega.{arith}
use lib.ListN.{length, take}
use lib.Dec.{ltb}
use borrow.Author.Tests.{ltb-true}
use Rattle.bits.specs.Bits.{write_field}
use Rattle.bits.specs.Strings.{is_inside}
use Rattle.apdu_format.specs.Component.{choice, integer, string_form, id_count, row_count, container}
use Rattle.apdu_format.specs.Table.{Layout, layout_of}
use Rattle.apdu_format.specs.Rules.{present, when}
use Rattle.apdu_format.specs.Reading.{fields}
use Rattle.apdu.specs.declared.lists.Row.{Row}
use Rattle.apdu.specs.declared.records.Request.{Request}
use Rattle.apdu.specs.declared.records.ActionResponse.{ActionResponse}
use Rattle.apdu.specs.declared.records.SetRequest.{SetRequest}
use Rattle.apdu.specs.declared.records.GetRequest.{GetRequest}
use Rattle.apdu.specs.declared.records.GetResponse.{GetResponse}
use Rattle.apdu.specs.Values.{bit_of, num, num_if, str, if, id_list, container_values, rows_values, request_values, action_response_values, set_request_values, get_request_values, get_response_values}
use Rattle.apdu_writing.specs.declared.quill.Quill.{Quill}
use Rattle.apdu_writing.specs.Quill.{Put, Moves, Puts, As}
use Rattle.apdu.specs.Sound.{sound_if, rows_sound, container_sound, request_sound, action_response_sound, set_request_sound, get_request_sound, get_response_sound}
use Rattle.apdu_writing.proofs.Chains.{nothing, then, and_then}
use Rattle.apdu.proofs.Laws.{and_unit}
use Rattle.apdu_writing.proofs.Leads.{nibble, bits_and, bits_fill, bits_fill_mode, is_set_law}

-- ---- request

module _ (s : List ℕ) (m : Request) (rs : List Row) (k : ℕ) {x y z u : ℕ} {c r : Quill} {o o' : List ℕ} (small : k < 10) (px : x ≡ bit_of m.has_credentials) (py : y ≡ bit_of m.has_parameter) (pz : z ≡ bit_of m.has_iid) (pu : u ≡ bit_of m.mode)
    (put : Put 1 (true) c r (write_field o (8 * c.at) 8 (16 * k + 8 * x + 4 * y + 2 * z + u)) o o') where
  request_lead : layout_of k ≡ layout_of 0 → Moves true (choice ∷ []) ((integer ∷ []) ++ ((integer ∷ []) ++ ((when m.has_credentials (string_form ∷ [])) ++ ((when m.has_parameter (container 1 ∷ [])) ++ ((when m.has_iid (integer ∷ [])) ++ []))))) c r o o' (fields (k ∷ []) ∷ fields (bit_of m.has_credentials ∷ bit_of m.has_parameter ∷ bit_of m.has_iid ∷ bit_of m.mode ∷ []) ∷ [])
  request_lead e =
      rw (← brought)
      (nibble k (bit_of m.has_credentials) (bit_of m.has_parameter) (bit_of m.has_iid) (bit_of m.mode) (16 * k + 8 * x + 4 * y + 2 * z + u) (true) small (ap (λ (l : Layout). l.after) e ∙ (unfold layout_of in refl)) (bits_and m.has_credentials m.has_parameter m.has_iid m.mode) (λ g. omega arith) put)
    where
      brought : present (bit_of m.has_credentials ∷ bit_of m.has_parameter ∷ bit_of m.has_iid ∷ bit_of m.mode ∷ []) (layout_of k).body ≡ ((integer ∷ []) ++ ((integer ∷ []) ++ ((when m.has_credentials (string_form ∷ [])) ++ ((when m.has_parameter (container 1 ∷ [])) ++ ((when m.has_iid (integer ∷ [])) ++ [])))))
      brought = rw e (unfold present layout_of in rw (is_set_law m.has_credentials, is_set_law m.has_parameter, is_set_law m.has_iid))

  module _ {r₁ r₂ r₃ r₄ r₅ : Quill} {o₁ o₂ o₃ o₄ o₅ : List ℕ}
      (c0 : Puts true (integer ∷ []) r r₁ o' o₁ (num m.eid ∷ []))
      (c1 : Puts true (integer ∷ []) r₁ r₂ o₁ o₂ (num m.service ∷ []))
      (c2 : Puts (sound_if m.has_credentials (is_inside (length s) m.credentials m.credentials_length)) (when m.has_credentials (string_form ∷ [])) r₂ r₃ o₂ o₃ (if m.has_credentials (str s m.credentials m.credentials_length)))
      (c3 : Puts (sound_if m.has_parameter (container_sound (length s) m.kind m.n m.start (take m.rows rs))) (when m.has_parameter (container 1 ∷ [])) r₃ r₄ o₃ o₄ (if m.has_parameter (container_values s m.kind m.n m.start (take m.rows rs))))
      (c4 : Puts true (when m.has_iid (integer ∷ [])) r₄ r₅ o₄ o₅ (num_if m.has_iid m.iid)) where
    pub request_by : As k 0 (Puts (request_sound (length s) m rs) (choice ∷ []) c r₅ o o₅ (fields (k ∷ []) ∷ request_values s m rs))
    unfolding request_sound request_values
    request_by = record { so = λ e. rw (← and_unit (sound_if m.has_parameter (container_sound (length s) m.kind m.n m.start (take m.rows rs)))) (then (request_lead e) (and_then c0 (and_then c1 (and_then c2 (and_then c3 (and_then c4 (nothing [] r₅ o₅))))))) }

-- ---- action response

module _ (s : List ℕ) (m : ActionResponse) (rs : List Row) {x y z u : ℕ} {c r : Quill} {o o' : List ℕ} (px : x ≡ bit_of m.has_iid) (py : y ≡ bit_of m.has_parameter) (pz : z ≡ bit_of m.has_ret) (pu : m.fill < 2 → u ≡ m.fill)
    (put : Put 1 (ltb m.fill 2) c r (write_field o (8 * c.at) 8 (16 * 1 + 8 * x + 4 * y + 2 * z + u)) o o') where
  action_response_lead : Moves true (choice ∷ []) ((integer ∷ []) ++ ((when m.has_iid (integer ∷ [])) ++ ((when m.has_parameter (container 1 ∷ [])) ++ ((when m.has_ret (integer ∷ [])) ++ [])))) c r o o' (fields (1 ∷ []) ∷ fields (bit_of m.has_iid ∷ bit_of m.has_parameter ∷ bit_of m.has_ret ∷ m.fill ∷ []) ∷ [])
  action_response_lead =
      rw (← brought)
      (nibble 1 (bit_of m.has_iid) (bit_of m.has_parameter) (bit_of m.has_ret) m.fill (16 * 1 + 8 * x + 4 * y + 2 * z + u) (ltb m.fill 2) (omega arith) (unfold layout_of in refl) (bits_fill m.has_iid m.has_parameter m.has_ret m.fill) (value) put)
    where
      value : ltb m.fill 2 ≡ true → 16 * 1 + 8 * x + 4 * y + 2 * z + u ≡ 16 * 1 + 8 * (bit_of m.has_iid) + 4 * (bit_of m.has_parameter) + 2 * (bit_of m.has_ret) + m.fill
      value g = let h = pu (ltb-true m.fill 2 g) in omega arith

      brought : present (bit_of m.has_iid ∷ bit_of m.has_parameter ∷ bit_of m.has_ret ∷ m.fill ∷ []) (layout_of 1).body ≡ ((integer ∷ []) ++ ((when m.has_iid (integer ∷ [])) ++ ((when m.has_parameter (container 1 ∷ [])) ++ ((when m.has_ret (integer ∷ [])) ++ []))))
      brought = unfold present layout_of in rw (is_set_law m.has_iid, is_set_law m.has_parameter, is_set_law m.has_ret)

  module _ {r₁ r₂ r₃ r₄ : Quill} {o₁ o₂ o₃ o₄ : List ℕ}
      (c0 : Puts true (integer ∷ []) r r₁ o' o₁ (num m.eid ∷ []))
      (c1 : Puts true (when m.has_iid (integer ∷ [])) r₁ r₂ o₁ o₂ (num_if m.has_iid m.iid))
      (c2 : Puts (sound_if m.has_parameter (container_sound (length s) m.kind m.n m.start (take m.rows rs))) (when m.has_parameter (container 1 ∷ [])) r₂ r₃ o₂ o₃ (if m.has_parameter (container_values s m.kind m.n m.start (take m.rows rs))))
      (c3 : Puts true (when m.has_ret (integer ∷ [])) r₃ r₄ o₃ o₄ (num_if m.has_ret m.ret)) where
    pub action_response_by : Puts (action_response_sound (length s) m rs) (choice ∷ []) c r₄ o o₄ (fields (1 ∷ []) ∷ action_response_values s m rs)
    unfolding action_response_sound action_response_values
    action_response_by = rw (← and_unit (sound_if m.has_parameter (container_sound (length s) m.kind m.n m.start (take m.rows rs)))) (then action_response_lead (and_then c0 (and_then c1 (and_then c2 (and_then c3 (nothing [] r₄ o₄))))))

-- ---- set request

module _ (s : List ℕ) (m : SetRequest) (rs : List Row) {x y z u : ℕ} {c r : Quill} {o o' : List ℕ} (px : x ≡ bit_of m.has_credentials) (py : y ≡ bit_of m.has_iid) (pz : m.fill < 2 → z ≡ m.fill) (pu : u ≡ bit_of m.mode)
    (put : Put 1 (ltb m.fill 2) c r (write_field o (8 * c.at) 8 (16 * 4 + 8 * x + 4 * y + 2 * z + u)) o o') where
  set_request_lead : Moves true (choice ∷ []) ((integer ∷ []) ++ ((when m.has_credentials (string_form ∷ [])) ++ ((row_count 1 ∷ []) ++ ((when m.has_iid (integer ∷ [])) ++ [])))) c r o o' (fields (4 ∷ []) ∷ fields (bit_of m.has_credentials ∷ bit_of m.has_iid ∷ m.fill ∷ bit_of m.mode ∷ []) ∷ [])
  set_request_lead =
      rw (← brought)
      (nibble 4 (bit_of m.has_credentials) (bit_of m.has_iid) m.fill (bit_of m.mode) (16 * 4 + 8 * x + 4 * y + 2 * z + u) (ltb m.fill 2) (omega arith) (unfold layout_of in refl) (bits_fill_mode m.has_credentials m.has_iid m.mode m.fill) (value) put)
    where
      value : ltb m.fill 2 ≡ true → 16 * 4 + 8 * x + 4 * y + 2 * z + u ≡ 16 * 4 + 8 * (bit_of m.has_credentials) + 4 * (bit_of m.has_iid) + 2 * m.fill + (bit_of m.mode)
      value g = let h = pz (ltb-true m.fill 2 g) in omega arith

      brought : present (bit_of m.has_credentials ∷ bit_of m.has_iid ∷ m.fill ∷ bit_of m.mode ∷ []) (layout_of 4).body ≡ ((integer ∷ []) ++ ((when m.has_credentials (string_form ∷ [])) ++ ((row_count 1 ∷ []) ++ ((when m.has_iid (integer ∷ [])) ++ []))))
      brought = unfold present layout_of in rw (is_set_law m.has_credentials, is_set_law m.has_iid)

  module _ {r₁ r₂ r₃ r₄ : Quill} {o₁ o₂ o₃ o₄ : List ℕ}
      (c0 : Puts true (integer ∷ []) r r₁ o' o₁ (num m.eid ∷ []))
      (c1 : Puts (sound_if m.has_credentials (is_inside (length s) m.credentials m.credentials_length)) (when m.has_credentials (string_form ∷ [])) r₁ r₂ o₁ o₂ (if m.has_credentials (str s m.credentials m.credentials_length)))
      (c2 : Puts (rows_sound (length s) m.count (take m.rows rs)) (row_count 1 ∷ []) r₂ r₃ o₂ o₃ (num m.count ∷ rows_values s (take m.rows rs)))
      (c3 : Puts true (when m.has_iid (integer ∷ [])) r₃ r₄ o₃ o₄ (num_if m.has_iid m.iid)) where
    pub set_request_by : Puts (set_request_sound (length s) m rs) (choice ∷ []) c r₄ o o₄ (fields (4 ∷ []) ∷ set_request_values s m rs)
    unfolding set_request_sound set_request_values
    set_request_by = rw (← and_unit (rows_sound (length s) m.count (take m.rows rs))) (then set_request_lead (and_then c0 (and_then c1 (and_then c2 (and_then c3 (nothing [] r₄ o₄))))))

-- ---- get request

module _ (s : List ℕ) (m : GetRequest) {x y z u : ℕ} {c r : Quill} {o o' : List ℕ} (px : x ≡ bit_of m.has_credentials) (py : y ≡ bit_of m.has_iid) (pz : z ≡ bit_of m.has_ids) (pu : m.fill < 2 → u ≡ m.fill)
    (put : Put 1 (ltb m.fill 2) c r (write_field o (8 * c.at) 8 (16 * 6 + 8 * x + 4 * y + 2 * z + u)) o o') where
  get_request_lead : Moves true (choice ∷ []) ((integer ∷ []) ++ ((when m.has_credentials (string_form ∷ [])) ++ ((when m.has_iid (integer ∷ [])) ++ ((when m.has_ids (id_count ∷ [])) ++ [])))) c r o o' (fields (6 ∷ []) ∷ fields (bit_of m.has_credentials ∷ bit_of m.has_iid ∷ bit_of m.has_ids ∷ m.fill ∷ []) ∷ [])
  get_request_lead =
      rw (← brought)
      (nibble 6 (bit_of m.has_credentials) (bit_of m.has_iid) (bit_of m.has_ids) m.fill (16 * 6 + 8 * x + 4 * y + 2 * z + u) (ltb m.fill 2) (omega arith) (unfold layout_of in refl) (bits_fill m.has_credentials m.has_iid m.has_ids m.fill) (value) put)
    where
      value : ltb m.fill 2 ≡ true → 16 * 6 + 8 * x + 4 * y + 2 * z + u ≡ 16 * 6 + 8 * (bit_of m.has_credentials) + 4 * (bit_of m.has_iid) + 2 * (bit_of m.has_ids) + m.fill
      value g = let h = pu (ltb-true m.fill 2 g) in omega arith

      brought : present (bit_of m.has_credentials ∷ bit_of m.has_iid ∷ bit_of m.has_ids ∷ m.fill ∷ []) (layout_of 6).body ≡ ((integer ∷ []) ++ ((when m.has_credentials (string_form ∷ [])) ++ ((when m.has_iid (integer ∷ [])) ++ ((when m.has_ids (id_count ∷ [])) ++ []))))
      brought = unfold present layout_of in rw (is_set_law m.has_credentials, is_set_law m.has_iid, is_set_law m.has_ids)

  module _ {r₁ r₂ r₃ r₄ : Quill} {o₁ o₂ o₃ o₄ : List ℕ}
      (c0 : Puts true (integer ∷ []) r r₁ o' o₁ (num m.eid ∷ []))
      (c1 : Puts (sound_if m.has_credentials (is_inside (length s) m.credentials m.credentials_length)) (when m.has_credentials (string_form ∷ [])) r₁ r₂ o₁ o₂ (if m.has_credentials (str s m.credentials m.credentials_length)))
      (c2 : Puts true (when m.has_iid (integer ∷ [])) r₂ r₃ o₂ o₃ (num_if m.has_iid m.iid))
      (c3 : Puts (sound_if m.has_ids (is_inside (length s) m.ids m.count)) (when m.has_ids (id_count ∷ [])) r₃ r₄ o₃ o₄ (if m.has_ids (id_list s m.ids m.count))) where
    pub get_request_by : Puts (get_request_sound (length s) m) (choice ∷ []) c r₄ o o₄ (fields (6 ∷ []) ∷ get_request_values s m)
    unfolding get_request_sound get_request_values
    get_request_by = rw (← and_unit (sound_if m.has_ids (is_inside (length s) m.ids m.count))) (then get_request_lead (and_then c0 (and_then c1 (and_then c2 (and_then c3 (nothing [] r₄ o₄))))))

-- ---- get response

module _ (s : List ℕ) (m : GetResponse) (rs : List Row) {x y z u : ℕ} {c r : Quill} {o o' : List ℕ} (px : x ≡ bit_of m.has_iid) (py : y ≡ bit_of m.has_attributes) (pz : z ≡ bit_of m.has_ret) (pu : m.fill < 2 → u ≡ m.fill)
    (put : Put 1 (ltb m.fill 2) c r (write_field o (8 * c.at) 8 (16 * 7 + 8 * x + 4 * y + 2 * z + u)) o o') where
  get_response_lead : Moves true (choice ∷ []) ((integer ∷ []) ++ ((when m.has_iid (integer ∷ [])) ++ ((when m.has_attributes (row_count 1 ∷ [])) ++ ((when m.has_ret (integer ∷ [])) ++ [])))) c r o o' (fields (7 ∷ []) ∷ fields (bit_of m.has_iid ∷ bit_of m.has_attributes ∷ bit_of m.has_ret ∷ m.fill ∷ []) ∷ [])
  get_response_lead =
      rw (← brought)
      (nibble 7 (bit_of m.has_iid) (bit_of m.has_attributes) (bit_of m.has_ret) m.fill (16 * 7 + 8 * x + 4 * y + 2 * z + u) (ltb m.fill 2) (omega arith) (unfold layout_of in refl) (bits_fill m.has_iid m.has_attributes m.has_ret m.fill) (value) put)
    where
      value : ltb m.fill 2 ≡ true → 16 * 7 + 8 * x + 4 * y + 2 * z + u ≡ 16 * 7 + 8 * (bit_of m.has_iid) + 4 * (bit_of m.has_attributes) + 2 * (bit_of m.has_ret) + m.fill
      value g = let h = pu (ltb-true m.fill 2 g) in omega arith

      brought : present (bit_of m.has_iid ∷ bit_of m.has_attributes ∷ bit_of m.has_ret ∷ m.fill ∷ []) (layout_of 7).body ≡ ((integer ∷ []) ++ ((when m.has_iid (integer ∷ [])) ++ ((when m.has_attributes (row_count 1 ∷ [])) ++ ((when m.has_ret (integer ∷ [])) ++ []))))
      brought = unfold present layout_of in rw (is_set_law m.has_iid, is_set_law m.has_attributes, is_set_law m.has_ret)

  module _ {r₁ r₂ r₃ r₄ : Quill} {o₁ o₂ o₃ o₄ : List ℕ}
      (c0 : Puts true (integer ∷ []) r r₁ o' o₁ (num m.eid ∷ []))
      (c1 : Puts true (when m.has_iid (integer ∷ [])) r₁ r₂ o₁ o₂ (num_if m.has_iid m.iid))
      (c2 : Puts (sound_if m.has_attributes (rows_sound (length s) m.count (take m.rows rs))) (when m.has_attributes (row_count 1 ∷ [])) r₂ r₃ o₂ o₃ (if m.has_attributes (num m.count ∷ rows_values s (take m.rows rs))))
      (c3 : Puts true (when m.has_ret (integer ∷ [])) r₃ r₄ o₃ o₄ (num_if m.has_ret m.ret)) where
    pub get_response_by : Puts (get_response_sound (length s) m rs) (choice ∷ []) c r₄ o o₄ (fields (7 ∷ []) ∷ get_response_values s m rs)
    unfolding get_response_sound get_response_values
    get_response_by = rw (← and_unit (sound_if m.has_attributes (rows_sound (length s) m.count (take m.rows rs)))) (then get_response_lead (and_then c0 (and_then c1 (and_then c2 (and_then c3 (nothing [] r₄ o₄))))))
