-- What a reply repeats of a request, reading has found in range: the eid and the iid, and the length of ECHO's string.
-- Assumes nothing.
use Prim.Native.Nat.{ℕ, ◌<◌}
use mathlib.Core.Path.{◌≡◌, refl}
use mathlib.Core.Bool.{Bool, true, false, ◌&&◌}
use mathlib.Core.List.{List, [], ◌∷◌, ◌++◌}
use lib.Dec.{eqb}
use lib.ListN.{length, take}
use borrow.Author.Tests.{eqb-true}
use Rattle.bits.specs.Strings.{is_inside}
use Rattle.apdu_format.specs.Component.{octet_string}
use Rattle.apdu_format.specs.Table.{layout_of}
use Rattle.apdu_format.specs.Writing.{in_range}
use Rattle.apdu_format.proofs.Tests.{both, never}
use Rattle.apdu.specs.declared.lists.Row.{Row}
use Rattle.apdu.specs.declared.lists.Entry.{Entry}
use Rattle.apdu.specs.declared.records.Message.TheVariants as kind
use Rattle.apdu.specs.declared.records.Request.{Request}
use Rattle.apdu.specs.declared.records.SetRequest.{SetRequest}
use Rattle.apdu.specs.declared.records.GetRequest.{GetRequest}
use Rattle.apdu.specs.Values.{bit_of, num, num_if, if, str, id_list, head_values, rows_values, container_values, request_values, set_request_values, get_request_values, values_of}
use Rattle.apdu.specs.Sound.{part_fits, rows_sound, container_sound, sound_if, request_sound}
use Rattle.attributes.specs.Serving.{echo_action, is_echo}
use Rattle.attribute_promises.proofs.Plain.{AllLow, message_low, low_front, low_back}

pub record Repeats (eid : ℕ) (given : Bool) (iid : ℕ) : Type 0 where
  pub eid_low : eid < 128
  pub iid_low : given ≡ true → iid < 128

iid_by : (p : Bool) (n : ℕ) → AllLow (num_if p n) → p ≡ true → n < 128
iid_by true n h e = h.0
iid_by false n h e = never e

-- ---- SET

pub set_repeats : (s : List ℕ) (m : SetRequest) (es : List Entry) (rs : List Row) → in_range (values_of s (kind.SetRequest m) es rs) ≡ true → Repeats m.eid m.has_iid m.iid
unfolding values_of set_request_values layout_of
set_repeats s m es rs h =
    let credentials = if m.has_credentials (str s m.credentials m.credentials_length) in
    let rows = num m.count ∷ rows_values s (take m.rows rs) in
    let iid = num_if m.has_iid m.iid in
    let l = message_low 4 refl (bit_of m.has_credentials ∷ bit_of m.has_iid ∷ m.fill ∷ bit_of m.mode ∷ []) (num m.eid ∷ (credentials ++ (rows ++ (iid ++ [])))) h in
    record { eid_low = l.0; iid_low = iid_by m.has_iid m.iid (low_front iid [] (low_back rows (iid ++ []) (low_back credentials (rows ++ (iid ++ [])) l.1))) }

-- ---- GET

pub get_repeats : (s : List ℕ) (m : GetRequest) (es : List Entry) (rs : List Row) → in_range (values_of s (kind.GetRequest m) es rs) ≡ true → Repeats m.eid m.has_iid m.iid
unfolding values_of get_request_values layout_of
get_repeats s m es rs h =
    let credentials = if m.has_credentials (str s m.credentials m.credentials_length) in
    let iid = num_if m.has_iid m.iid in
    let ids = if m.has_ids (id_list s m.ids m.count) ++ [] in
    let l = message_low 6 refl (bit_of m.has_credentials ∷ bit_of m.has_iid ∷ bit_of m.has_ids ∷ m.fill ∷ []) (num m.eid ∷ (credentials ++ (iid ++ ids))) h in
    record { eid_low = l.0; iid_low = iid_by m.has_iid m.iid (low_front iid ids (low_back credentials (iid ++ ids) l.1)) }

-- ---- ECHO

pub record Echoes (s : List ℕ) (m : Request) : Type 0 where
  pub repeats : Repeats m.eid m.has_iid m.iid
  pub string : m.kind ≡ octet_string
  pub inside : is_inside (length s) m.start m.n ≡ true
  pub short : m.n < 128

string_low : (s : List ℕ) (p : Bool) (k n start : ℕ) (rs : List Row) → p ≡ true → k ≡ octet_string → AllLow (if p (container_values s k n start rs)) → n < 128
unfolding head_values
string_low s p k n start rs e f h = let l : AllLow (head_values s octet_string n start ++ rows_values s rs) = rw (e, f) at h in l.1.1.0

string_inside : (octets : ℕ) (p : Bool) (k n start : ℕ) (rs : List Row) → p ≡ true → k ≡ octet_string → sound_if p (container_sound octets k n start rs) ≡ true → is_inside octets start n ≡ true
unfolding container_sound part_fits
string_inside octets p k n start rs e f h =
    let l : (is_inside octets start n && rows_sound octets 0 rs) ≡ true = rw (e, f) at h in (both (is_inside octets start n) (rows_sound octets 0 rs) l).0

-- an ECHO has a string
echo_string : (m : Request) → is_echo m ≡ true → (m.has_parameter ≡ true) × (m.kind ≡ octet_string)
unfolding is_echo
echo_string m h =
    let a = (both (eqb m.service echo_action) _ h).1 in
    let b = (both (eqb m.eid 0) _ a).1 in
    let c = (both m.mode _ b).1 in
    let d = both m.has_parameter (eqb m.kind octet_string) c in
    (d.0, eqb-true m.kind octet_string d.1)

pub echoes : (s : List ℕ) (m : Request) (es : List Entry) (rs : List Row) → is_echo m ≡ true → in_range (values_of s (kind.ActionRequest m) es rs) ≡ true → request_sound (length s) m rs ≡ true → Echoes s m
unfolding values_of request_values request_sound layout_of
echoes s m es rs x h k =
    let e = echo_string m x in
    let own = take m.rows rs in
    let credentials = if m.has_credentials (str s m.credentials m.credentials_length) in
    let parameter = if m.has_parameter (container_values s m.kind m.n m.start own) in
    let iid = num_if m.has_iid m.iid in
    let l =
    message_low 0 refl (bit_of m.has_credentials ∷ bit_of m.has_parameter ∷ bit_of m.has_iid ∷ bit_of m.mode ∷ [])
    (num m.eid ∷ num m.service ∷ (credentials ++ (parameter ++ (iid ++ [])))) h in
    let tail = low_back credentials (parameter ++ (iid ++ [])) l.1.1 in
    let i = (both (sound_if m.has_credentials (is_inside (length s) m.credentials m.credentials_length)) (sound_if m.has_parameter (container_sound (length s) m.kind m.n m.start own)) k).1 in
    record {
      repeats = record { eid_low = l.0; iid_low = iid_by m.has_iid m.iid (low_front iid [] (low_back parameter (iid ++ []) tail)) };
      string = e.1;
      inside = string_inside (length s) m.has_parameter m.kind m.n m.start own e.0 e.1 i;
      short = string_low s m.has_parameter m.kind m.n m.start own e.0 e.1 (low_front parameter (iid ++ []) tail);
    }
