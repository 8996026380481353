-- What reading tells of a request's numbers: its ids or attributes are few, and the places of ids are small.
-- Assumes nothing.
use Prim.Native.Nat.{ℕ, ◌-◌, ◌≤◌}
use mathlib.Core.Path.{◌≡◌, ap, sym, ◌∙◌}
use mathlib.Core.Bool.{Bool, true, false, ◌||◌}
use mathlib.Core.List.{List, [], ◌∷◌, ◌++◌}
use native.Mathlib.Omega.{arith}
use lib.Dec.{eqb, ltb}
use lib.ListN.{length}
use borrow.Author.Tests.{ltb-false}
use Rattle.refusals.specs.Check.{check, first_of}
use Rattle.refusals.proofs.Tests.{by_cases}
use Rattle.bits.specs.Strings.{is_inside}
use Rattle.bits.proofs.Strings.{inside_le}
use Rattle.apdu_format.specs.Component.{Component, choice, lead, integer, string_form, string_length, string_octets, id_count, row_count}
use Rattle.apdu_format.specs.Table.{layout_of}
use Rattle.apdu_format.specs.Rules.{shape, checks_of, present, brings, announced}
use Rattle.apdu_format.specs.Reading.{Value, fields, numbers_of}
use Rattle.apdu_format.specs.Writing.{Pen, bits_of, fits, is_value, written, in_range}
use Rattle.apdu_format.proofs.Tests.{both, never}
use Rattle.apdu_format.proofs.Messages.{in_range_law}
use Rattle.apdu.specs.declared.lists.Entry.{Entry}
use Rattle.apdu.specs.declared.records.GetRequest.{GetRequest}
use Rattle.apdu.specs.declared.records.SetRequest.{SetRequest}
use Rattle.apdu.specs.declared.records.Message.{Message}
use Rattle.apdu.specs.declared.records.Message.TheVariants as kind
use Rattle.apdu.specs.Values.{bit_of, if, num, num_if, str, id_list, get_request_values, set_request_values, values_of}
use Rattle.apdu.specs.Tidy.{Absent, message_tidy}
use Rattle.apdu.specs.Sound.{sound_if, get_request_sound, sound}
use Rattle.apdu_reading.specs.declared.front.Answer.TheVariants as answer
use Rattle.apdu_reading.specs.declared.front.Reading.{Reading}
use Rattle.apdu_reading.specs.Answers.{tidy_by, sound_by, Reads}
use Rattle.apdu_reading.proofs.Encoded.{record_encodes}
use Rattle.apdu_writing.specs.Quill.{pen_at, writes}
use Rattle.apdu_writing.proofs.Levels.{writes_append, writes_dead, writes_fine, writes_wrong}
use Rattle.attributes.specs.Serving.{Attribute}
use Rattle.attributes.specs.Inside.{GetFits, SetFits, fits_by, Fits}

-- ---- one component: its value is in range, and what follows is

module _ (i : Component) (is : List Component) (v : Value) (rest : List Value) (room : ℕ) (b : List ℕ) where
  abbrev pen : Pen
  pen = pen_at (v ∷ rest) room b

  abbrev behind : Pen
  behind = pen_at rest (room - announced i (numbers_of v)) (b ++ bits_of (shape i) v)

  pub next : (writes (i ∷ is) pen).ok ≡ true → (is_value i room v ≡ true) × ((writes (brings i (numbers_of v) ++ is) behind).ok ≡ true)
  next h = by_cases (is_value i room v) (λ t. (t, on t)) (λ t. never (sym (off t) ∙ h))
    where
      on : is_value i room v ≡ true → (writes (brings i (numbers_of v) ++ is) behind).ok ≡ true
      on t =
          ap (λ (p : Pen). p.ok) (writes_append (brings i (numbers_of v)) is behind ∙ ap (writes is) (sym (writes_fine i room v rest b t)) ∙ sym (writes_append (i ∷ []) is pen)) ∙ h

      off : is_value i room v ≡ false → (writes (i ∷ is) pen).ok ≡ false
      off t = ap (λ (p : Pen). p.ok) (writes_append (i ∷ []) is pen) ∙ writes_dead is (writes (i ∷ []) pen) (writes_wrong i room v rest b t)

few_ids : (room n : ℕ) → is_value id_count room (num n) ≡ true → n ≤ 16
unfolding is_value checks_of first_of numbers_of
few_ids room n h =
    by_cases (ltb 16 n)
    (λ t. never (rw t at (both (fits (shape id_count) (num n)) (eqb (first_of (check 18 (ltb 16 n) ∷ [])) 0) h).1))
    (λ t. ltb-false 16 n t)

few_rows : (room n : ℕ) → is_value (row_count 1) room (num n) ≡ true → n ≤ 16
unfolding is_value checks_of first_of numbers_of
few_rows room n h =
    by_cases (ltb 16 n)
    (λ t. never (rw t at (both (fits (shape (row_count 1)) (num n)) (eqb (first_of (check 18 (ltb 16 n || ltb room n) ∷ [])) 0) h).1))
    (λ t. ltb-false 16 n t)

-- ---- a GET

get_few : (credentials iid listed : Bool) (s : List ℕ) (fill eid start n iids ids count : ℕ) (b : List ℕ)
    → (writes (lead 6 ∷ []) (pen_at (fields (bit_of credentials ∷ bit_of iid ∷ bit_of listed ∷ fill ∷ []) ∷ num eid ∷ (if credentials (str s start n) ++ (num_if iid iids ++ (if listed (id_list s ids count) ++ [])))) 32 b)).ok ≡ true
    → listed ≡ true → count ≤ 16
unfolding brings present layout_of numbers_of announced
get_few credentials iid false s fill eid start n iids ids count b h = λ e. never e
get_few true true true s fill eid start n iids ids count b h =
    let a = (next (lead 6) [] _ _ 32 b h).1 in
    let c = (next integer _ _ _ 32 _ a).1 in
    let d = (next string_form _ _ _ 32 _ c).1 in
    let e = (next string_length _ _ _ 32 _ d).1 in
    let f = (next (string_octets n) _ _ _ 32 _ e).1 in
    let g = (next integer _ _ _ 32 _ f).1 in
    λ z. few_ids 32 count (next id_count _ _ _ 32 _ g).0
get_few true false true s fill eid start n iids ids count b h =
    let a = (next (lead 6) [] _ _ 32 b h).1 in
    let c = (next integer _ _ _ 32 _ a).1 in
    let d = (next string_form _ _ _ 32 _ c).1 in
    let e = (next string_length _ _ _ 32 _ d).1 in
    let f = (next (string_octets n) _ _ _ 32 _ e).1 in
    λ z. few_ids 32 count (next id_count _ _ _ 32 _ f).0
get_few false true true s fill eid start n iids ids count b h =
    let a = (next (lead 6) [] _ _ 32 b h).1 in
    let c = (next integer _ _ _ 32 _ a).1 in
    let g = (next integer _ _ _ 32 _ c).1 in
    λ z. few_ids 32 count (next id_count _ _ _ 32 _ g).0
get_few false false true s fill eid start n iids ids count b h =
    let a = (next (lead 6) [] _ _ 32 b h).1 in
    let c = (next integer _ _ _ 32 _ a).1 in
    λ z. few_ids 32 count (next id_count _ _ _ 32 _ c).0

-- ---- a SET

set_few : (credentials : Bool) (s : List ℕ) (iid fill mode eid start n count : ℕ) (rest : List Value) (b : List ℕ)
    → (writes (lead 4 ∷ []) (pen_at (fields (bit_of credentials ∷ iid ∷ fill ∷ mode ∷ []) ∷ num eid ∷ (if credentials (str s start n) ++ (num count ∷ rest))) 32 b)).ok ≡ true
    → count ≤ 16
unfolding brings present layout_of numbers_of announced
set_few true s iid fill mode eid start n count rest b h =
    let a = (next (lead 4) [] _ _ 32 b h).1 in
    let c = (next integer _ _ _ 32 _ a).1 in
    let d = (next string_form _ _ _ 32 _ c).1 in
    let e = (next string_length _ _ _ 32 _ d).1 in
    let f = (next (string_octets n) _ _ _ 32 _ e).1 in
    few_rows 32 count (next (row_count 1) _ _ _ 32 _ f).0
set_few false s iid fill mode eid start n count rest b h =
    let a = (next (lead 4) [] _ _ 32 b h).1 in
    let c = (next integer _ _ _ 32 _ a).1 in
    few_rows 32 count (next (row_count 1) _ _ _ 32 _ c).0

-- ---- a message that was read

module _ (s : List ℕ) (short : length s ≤ 512) where
  writes_ok : (vs : List Value) → in_range vs ≡ true → (writes (choice ∷ []) (pen_at vs 32 [])).ok ≡ true
  writes_ok vs h = unfold writes written in (in_range_law vs h).0

  get_fits : (m : GetRequest) → in_range (fields (6 ∷ []) ∷ get_request_values s m) ≡ true → Absent m.has_ids (m.ids ∷ m.count ∷ []) → get_request_sound (length s) m ≡ true → GetFits m
  unfolding get_request_values get_request_sound brings numbers_of announced
  get_fits m h t k =
      by_cases m.has_ids
      (λ e.
      let g = writes_ok _ h in
      let i : is_inside (length s) m.ids m.count ≡ true = rw e at (both (sound_if m.has_credentials (is_inside (length s) m.credentials m.credentials_length)) (sound_if m.has_ids (is_inside (length s) m.ids m.count)) k).1 in
      let n = inside_le (length s) m.ids m.count i in
      record {
        few = get_few m.has_credentials m.has_iid m.has_ids s m.fill m.eid m.credentials m.credentials_length m.iid m.ids m.count _ (next choice [] _ _ 32 [] g).1 e;
        near = omega arith;
      })
      (λ e. let z = t.are e in record { few = omega (arith, z.1); near = omega (arith, z.0, z.1) })

  set_fits : (m : SetRequest) (rs : List Attribute) → in_range (fields (4 ∷ []) ∷ set_request_values s m rs) ≡ true → SetFits m
  unfolding set_request_values brings numbers_of announced
  set_fits m rs h =
      let g = writes_ok _ h in
      let k = set_few m.has_credentials s (bit_of m.has_iid) m.fill (bit_of m.mode) m.eid m.credentials m.credentials_length m.count _ _ (next choice [] _ _ 32 [] g).1 in
      record { few = omega (arith, k) }

  fits_of : (m : Message) (es : List Entry) (rs : List Attribute) → in_range (values_of s m es rs) ≡ true → message_tidy m es rs → sound (length s) m es rs ≡ true → fits_by m
  unfolding values_of message_tidy sound fits_by
  fits_of (kind.ActionRequest m) es rs h t k = tt
  fits_of (kind.ActionResponse m) es rs h t k = tt
  fits_of (kind.EventRequest m) es rs h t k = tt
  fits_of (kind.EventResponse m) es rs h t k = tt
  fits_of (kind.SetRequest m) es rs h t k = set_fits m rs h
  fits_of (kind.SetResponse m) es rs h t k = tt
  fits_of (kind.GetRequest m) es rs h t k = get_fits m h t.0.2 k
  fits_of (kind.GetResponse m) es rs h t k = tt
  fits_of (kind.Bst m) es rs h t k = tt
  fits_of (kind.Vst m) es rs h t k = tt

pub read_fits : (s : List ℕ) (r : Reading) → Reads s r → {m : Message} → r.answer ≡ answer.Message m → Fits m
unfolding tidy_by sound_by
read_fits s r h {m} e =
    let x = record_encodes s r h.outcome m e in
    let t : message_tidy m r.lists.entries r.lists.rows = rw e at h.tidy.is in
    let k : sound (length s) m r.lists.entries r.lists.rows ≡ true = rw e at h.sound.is in
    record { is = fits_of s x.short m r.lists.entries r.lists.rows x.ranges t k }

pub fits_set : {m : Message} {x : SetRequest} → Fits m → m ≡ kind.SetRequest x → SetFits x
unfolding fits_by
fits_set h e = rw e at h.is

pub fits_get : {m : Message} {x : GetRequest} → Fits m → m ≡ kind.GetRequest x → GetFits x
unfolding fits_by
fits_get h e = rw e at h.is
