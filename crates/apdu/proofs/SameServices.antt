-- Messages of services: records with the same values are the same, and so are the rows that they use.
-- Assumes nothing.
use Prim.Native.Nat.{ℕ, ◌≤◌}
use mathlib.Core.Path.{◌≡◌, refl, sym}
use mathlib.Core.Bool.{Bool, true}
use mathlib.Core.List.{List, [], ◌∷◌, ◌++◌}
use lib.ListN.{length, take}
use Rattle.bits.specs.Strings.{is_inside}
use Rattle.apdu_format.specs.Reading.{Value}
use Rattle.apdu_format.proofs.Tests.{never, both}
use Rattle.apdu.specs.declared.lists.Row.{Row}
use Rattle.apdu.specs.declared.records.Request.{Request}
use Rattle.apdu.specs.declared.records.ActionResponse.{ActionResponse}
use Rattle.apdu.specs.declared.records.Response.{Response}
use Rattle.apdu.specs.declared.records.SetRequest.{SetRequest}
use Rattle.apdu.specs.declared.records.GetRequest.{GetRequest}
use Rattle.apdu.specs.declared.records.GetResponse.{GetResponse}
use Rattle.apdu.specs.Values.{if, num, num_if, id_list, rows_values, container_values, request_values, action_response_values, response_values, set_request_values, get_request_values, get_response_values}
use Rattle.apdu.specs.Tidy.{Absent, request_tidy, action_response_tidy, response_tidy, set_request_tidy, get_request_tidy, get_response_tidy}
use Rattle.apdu.specs.Sound.{sound_if, count_if, rows_sound, container_sound, request_sound, action_response_sound, set_request_sound, get_response_sound}
use Rattle.apdu.proofs.SameFields.{bit_same, number_same, string_same, ids_same}
use Rattle.apdu.proofs.SameRows.{EachRow, box_same, attributes_same}

-- a message, and the rows that it uses
pub record ServiceSame {A : Type 0} (m k : A) (rs qs : List Row) : Type 0 where
  pub message : m ≡ k
  pub rows : rs ≡ qs

pub response_same : (m k : Response) → response_tidy m → response_tidy k → response_values m ≡ response_values k → m ≡ k
unfolding response_values
response_same m k t u h =
    let i = bit_same m.has_iid k.has_iid cc in
    let r = bit_same m.has_ret k.has_ret cc in
    let f : m.fill ≡ k.fill = cc in
    let e : m.eid ≡ k.eid = cc in
    let behind : Response → List Value = λ x. num_if x.has_ret x.ret ++ [] in
    let x = number_same m.has_iid k.has_iid m.iid k.iid (behind m) (behind k) i t.0 u.0 cc in
    let y = number_same m.has_ret k.has_ret m.ret k.ret [] [] r t.1 u.1 x.behind in
    λ j. record { fill = f j; eid = e j; has_iid = i j; iid = x.number j; has_ret = r j; ret = y.number j }

module _ (s : List ℕ) where
  pub get_request_same : (m k : GetRequest) → get_request_tidy m → get_request_tidy k → get_request_values s m ≡ get_request_values s k → m ≡ k
  unfolding get_request_values
  get_request_same m k t u h =
      let c = bit_same m.has_credentials k.has_credentials cc in
      let i = bit_same m.has_iid k.has_iid cc in
      let l = bit_same m.has_ids k.has_ids cc in
      let f : m.fill ≡ k.fill = cc in
      let e : m.eid ≡ k.eid = cc in
      let ids : GetRequest → List Value = λ x. if x.has_ids (id_list s x.ids x.count) ++ [] in
      let behind : GetRequest → List Value = λ x. num_if x.has_iid x.iid ++ ids x in
      let x = string_same s m.has_credentials k.has_credentials m.credentials m.credentials_length k.credentials k.credentials_length
      (behind m) (behind k) c t.0 u.0 cc in
      let y = number_same m.has_iid k.has_iid m.iid k.iid (ids m) (ids k) i t.1 u.1 x.behind in
      let z = ids_same s m.has_ids k.has_ids m.ids m.count k.ids k.count [] [] l t.2 u.2 y.behind in
      λ j.
      record {
        fill = f j;
        eid = e j;
        has_credentials = c j;
        credentials = x.place j;
        credentials_length = x.long j;
        has_iid = i j;
        iid = y.number j;
        has_ids = l j;
        ids = z.place j;
        count = z.long j;
      }

  -- ---- with rows

  module _ (rs qs : List Row) (each_r : EachRow rs) (each_q : EachRow qs) where
    pub request_same : (m k : Request) → request_tidy m → request_tidy k → count_if m.has_parameter m.rows ≤ length rs → count_if k.has_parameter k.rows ≤ length qs
        → request_sound (length s) m rs ≡ true → request_sound (length s) k qs ≡ true → request_values s m rs ≡ request_values s k qs
        → ServiceSame m k (take m.rows rs) (take k.rows qs)
    unfolding request_values request_sound
    request_same m k t u w w' f g h =
        let c = bit_same m.has_credentials k.has_credentials cc in
        let p = bit_same m.has_parameter k.has_parameter cc in
        let i = bit_same m.has_iid k.has_iid cc in
        let o = bit_same m.mode k.mode cc in
        let e : m.eid ≡ k.eid = cc in
        let a : m.service ≡ k.service = cc in
        let iid : Request → List Value = λ x. num_if x.has_iid x.iid ++ [] in
        let behind : Request → List Row → List Value = λ x l. if x.has_parameter (container_values s x.kind x.n x.start (take x.rows l)) ++ iid x in
        let parameter : Request → List Row → Bool = λ x l. sound_if x.has_parameter (container_sound (length s) x.kind x.n x.start (take x.rows l)) in
        let credentials : Request → Bool = λ x. sound_if x.has_credentials (is_inside (length s) x.credentials x.credentials_length) in
        let x = string_same s m.has_credentials k.has_credentials m.credentials m.credentials_length k.credentials k.credentials_length
        (behind m rs) (behind k qs) c t.0 u.0 cc in
        let y = box_same s m.has_parameter k.has_parameter m.kind m.n m.start m.rows rs k.kind k.n k.start k.rows qs (length s) (iid m) (iid k) p
        t.1 u.1 t.3 u.3 each_r each_q w w' (both (credentials m) (parameter m rs) f).1 (both (credentials k) (parameter k qs) g).1 x.behind in
        let z = number_same m.has_iid k.has_iid m.iid k.iid [] [] i t.2 u.2 y.behind in
        record {
          message = λ j.
              record {
                mode = o j;
                eid = e j;
                service = a j;
                has_credentials = c j;
                credentials = x.place j;
                credentials_length = x.long j;
                has_parameter = p j;
                kind = y.kind j;
                n = y.number j;
                start = y.place j;
                rows = y.count j;
                has_iid = i j;
                iid = z.number j;
              };
          rows = y.rows;
        }

    pub action_response_same : (m k : ActionResponse) → action_response_tidy m → action_response_tidy k
        → count_if m.has_parameter m.rows ≤ length rs → count_if k.has_parameter k.rows ≤ length qs
        → action_response_sound (length s) m rs ≡ true → action_response_sound (length s) k qs ≡ true → action_response_values s m rs ≡ action_response_values s k qs
        → ServiceSame m k (take m.rows rs) (take k.rows qs)
    unfolding action_response_values action_response_sound
    action_response_same m k t u w w' f g h =
        let i = bit_same m.has_iid k.has_iid cc in
        let p = bit_same m.has_parameter k.has_parameter cc in
        let r = bit_same m.has_ret k.has_ret cc in
        let a : m.fill ≡ k.fill = cc in
        let e : m.eid ≡ k.eid = cc in
        let ret : ActionResponse → List Value = λ x. num_if x.has_ret x.ret ++ [] in
        let behind : ActionResponse → List Row → List Value = λ x l. if x.has_parameter (container_values s x.kind x.n x.start (take x.rows l)) ++ ret x in
        let x = number_same m.has_iid k.has_iid m.iid k.iid (behind m rs) (behind k qs) i t.0 u.0 cc in
        let y = box_same s m.has_parameter k.has_parameter m.kind m.n m.start m.rows rs k.kind k.n k.start k.rows qs (length s) (ret m) (ret k) p
        t.1 u.1 t.3 u.3 each_r each_q w w' f g x.behind in
        let z = number_same m.has_ret k.has_ret m.ret k.ret [] [] r t.2 u.2 y.behind in
        record {
          message = λ j.
              record {
                fill = a j;
                eid = e j;
                has_iid = i j;
                iid = x.number j;
                has_parameter = p j;
                kind = y.kind j;
                n = y.number j;
                start = y.place j;
                rows = y.count j;
                has_ret = r j;
                ret = z.number j;
              };
          rows = y.rows;
        }

    pub set_request_same : (m k : SetRequest) → set_request_tidy m → set_request_tidy k → m.rows ≤ length rs → k.rows ≤ length qs
        → set_request_sound (length s) m rs ≡ true → set_request_sound (length s) k qs ≡ true → set_request_values s m rs ≡ set_request_values s k qs
        → ServiceSame m k (take m.rows rs) (take k.rows qs)
    unfolding set_request_values set_request_sound
    set_request_same m k t u w w' f g h =
        let c = bit_same m.has_credentials k.has_credentials cc in
        let i = bit_same m.has_iid k.has_iid cc in
        let o = bit_same m.mode k.mode cc in
        let a : m.fill ≡ k.fill = cc in
        let e : m.eid ≡ k.eid = cc in
        let iid : SetRequest → List Value = λ x. num_if x.has_iid x.iid ++ [] in
        let behind : SetRequest → List Row → List Value = λ x l. (num x.count ∷ rows_values s (take x.rows l)) ++ iid x in
        let credentials : SetRequest → Bool = λ x. sound_if x.has_credentials (is_inside (length s) x.credentials x.credentials_length) in
        let list : SetRequest → List Row → Bool = λ x l. rows_sound (length s) x.count (take x.rows l) in
        let there : (n i : ℕ) → Absent true (n ∷ i ∷ []) = λ n i. record { are = λ z. never (sym z) } in
        let x = string_same s m.has_credentials k.has_credentials m.credentials m.credentials_length k.credentials k.credentials_length
        (behind m rs) (behind k qs) c t.0 u.0 cc in
        let y = attributes_same s true true m.count m.rows rs k.count k.rows qs (length s) (iid m) (iid k) refl (there m.count m.rows) (there k.count k.rows)
        each_r each_q w w' (both (credentials m) (list m rs) f).1 (both (credentials k) (list k qs) g).1 x.behind in
        let z = number_same m.has_iid k.has_iid m.iid k.iid [] [] i t.1 u.1 y.behind in
        record {
          message = λ j.
              record {
                fill = a j;
                mode = o j;
                eid = e j;
                has_credentials = c j;
                credentials = x.place j;
                credentials_length = x.long j;
                count = y.number j;
                rows = y.count j;
                has_iid = i j;
                iid = z.number j;
              };
          rows = y.rows;
        }

    pub get_response_same : (m k : GetResponse) → get_response_tidy m → get_response_tidy k
        → count_if m.has_attributes m.rows ≤ length rs → count_if k.has_attributes k.rows ≤ length qs
        → get_response_sound (length s) m rs ≡ true → get_response_sound (length s) k qs ≡ true → get_response_values s m rs ≡ get_response_values s k qs
        → ServiceSame m k (take m.rows rs) (take k.rows qs)
    unfolding get_response_values get_response_sound
    get_response_same m k t u w w' f g h =
        let i = bit_same m.has_iid k.has_iid cc in
        let p = bit_same m.has_attributes k.has_attributes cc in
        let r = bit_same m.has_ret k.has_ret cc in
        let a : m.fill ≡ k.fill = cc in
        let e : m.eid ≡ k.eid = cc in
        let ret : GetResponse → List Value = λ x. num_if x.has_ret x.ret ++ [] in
        let behind : GetResponse → List Row → List Value = λ x l. if x.has_attributes (num x.count ∷ rows_values s (take x.rows l)) ++ ret x in
        let x = number_same m.has_iid k.has_iid m.iid k.iid (behind m rs) (behind k qs) i t.0 u.0 cc in
        let y = attributes_same s m.has_attributes k.has_attributes m.count m.rows rs k.count k.rows qs (length s) (ret m) (ret k) p t.1 u.1
        each_r each_q w w' f g x.behind in
        let z = number_same m.has_ret k.has_ret m.ret k.ret [] [] r t.2 u.2 y.behind in
        record {
          message = λ j.
              record {
                fill = a j;
                eid = e j;
                has_iid = i j;
                iid = x.number j;
                has_attributes = p j;
                count = y.number j;
                rows = y.count j;
                has_ret = r j;
                ret = z.number j;
              };
          rows = y.rows;
        }
