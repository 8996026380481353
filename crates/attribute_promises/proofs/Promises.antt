-- Replies are short and read back, a SET with a fault writes nothing, protected rows are unseen; and what one attribute of a SET leaves in an area.
-- Assumes nothing.
use Prim.Native.Nat.{ℕ, ◌+◌, ◌-◌, ◌<◌, ◌≤◌}
use mathlib.Core.Path.{◌≡◌, refl, ap, ap₂, sym, ◌∙◌}
use mathlib.Core.Bool.{Bool, true, false, not, ◌&&◌}
use mathlib.Core.List.{List, [], ◌∷◌, ◌++◌, append_assoc}
use mathlib.Core.Logic.{◌⊎◌, inl, inr}
use native.Mathlib.Omega.{arith}
use lib.Dec.{eqb, ltb, leb}
use lib.ListN.{length, take, drop, length-append, length-drop, take-append-drop}
use lib.Seq.{take_at, drop_at, drop-drop, take-append-le, drop-append-le, length-take-le}
use borrow.Author.Tests.{eqb-true, eq-eqb, leb-true, ne_eqb}
use Rattle.refusals.specs.Check.{check, first_of}
use Rattle.refusals.proofs.Tests.{by_test, by_cases, first_none}
use Rattle.bits.specs.Bits.{octets}
use Rattle.bits.specs.Strings.{is_inside, string_at, copy_fits, copy_string}
use Rattle.bits.proofs.Laws.{length_octets}
use Rattle.bits.proofs.Strings.{length_string}
use Rattle.apdu_format.proofs.Tests.{both}
use Rattle.apdu_format.specs.Writing.{size, encode, encoded_octets}
use Rattle.apdu.specs.declared.records.GetRequest.{GetRequest}
use Rattle.apdu.specs.declared.records.SetRequest.{SetRequest}
use Rattle.apdu.specs.declared.records.Message.{Message}
use Rattle.apdu.specs.declared.records.Message.TheVariants as kind
use Rattle.apdu.specs.Values.{values_of}
use Rattle.apdu_reading.specs.declared.front.Answer.{Answer}
use Rattle.apdu_reading.specs.declared.front.Answer.TheVariants as answer
use Rattle.apdu_reading.specs.declared.front.Reading.{Reading}
use Rattle.apdu_writing.specs.Answer.{write_refusal, write_output}
use Rattle.apdu_writing.proofs.RoundTrip.{written_reads}
use Rattle.directory.specs.declared.Row.{Row}
use Rattle.directory.specs.Directory.{known_in, row_of, sound_directory}
use Rattle.attributes.specs.Serving.{Attribute, Tag, Reply, Outcome, refused, refused_at, silent, replied, Effect, effect, no_entries, exact, denied, get_fault, get_faults, ids_from, rows_of, values_in, get_status, set_status, set_row, value_of, get_reply, sent, too_long, getting, setting, carried, served, by_reading, requested, told_of, least_output}
use Rattle.attribute_promises.specs.Promises.{ShortReplies, ReplyRead, ReadsBack, RepliesReadBack, FaultyKeeps, AgreeOpen, GetWithout, ProtectedUnseen}
use Rattle.attributes.specs.Inside.{tag_of}
use Rattle.attributes.proofs.ShortReplies.{sent_none, requested_short}
use Rattle.attribute_promises.proofs.OneEffect.{answer_same, answered_is, from_answered}
use Rattle.attribute_promises.proofs.Cases.{first_check, by_request}

-- ---- a reply that is sent

module _ (q : Reply) (w out : List ℕ) where
  abbrev refusal : ℕ
  refusal = write_refusal q.lent q.message no_entries q.attributes (length out)

  abbrev long : ℕ
  long = size (values_of q.lent q.message no_entries q.attributes)

  front : (n : ℕ) → refusal ≡ 0 → long ≡ n → take n (sent q w out).output ≡ encoded_octets (values_of q.lent q.message no_entries q.attributes)
  unfolding sent write_output encoded_octets
  front n z e =
      let vs = values_of q.lent q.message no_entries q.attributes in
      rw (eq-eqb refusal 0 z) (take_at (octets (size vs) (encode vs)) (drop (size vs) out) n (length_octets (size vs) (encode vs) ∙ e))

  pub sent_reads : (n : ℕ) → (sent q w out).outcome ≡ replied n → ReplyRead q (take n (sent q w out).output)
  sent_reads n h =
      let k = sent_none q w out n h in
      rw (front n k.0 k.1) (written_reads q.lent q.message no_entries q.attributes out k.0)

  sent_back : (n : ℕ) → (sent q w out).outcome ≡ replied n → ReadsBack out n (sent q w out).writable (sent q w out).output
  unfolding sent
  sent_back n h = record { reply = q; is = ap (λ (z : Outcome). effect z w (sent q w out).output) (sym h); reads = sent_reads n h }

-- no reply is longer than 512 octets
pub short_replies : ShortReplies
unfolding ShortReplies told_of
short_replies tag s out a w o x n h =
    from_answered x x.reading x.reads (λ (e : Effect). e.outcome ≡ replied n → n ≤ 512) (requested_short tag s out x.reading n) (ap told_of h)

module _ (tag : Tag) (s out : List ℕ) (n : ℕ) where
  abbrev Back : Effect → Type 0
  Back e = e.outcome ≡ replied n → ReadsBack out n e.writable e.output

  refused_back : (k : ℕ) → Back (effect (refused k) tag.writable out)
  refused_back k h = let z : ◌≡◌ {A = ℕ} 0 1 = cc in absurd (omega arith)

  refused_at_back : (k p : ℕ) → Back (effect (refused_at k p) tag.writable out)
  refused_at_back k p h = let z : ◌≡◌ {A = ℕ} 0 1 = cc in absurd (omega arith)

  silent_back : (w : List ℕ) → Back (effect silent w out)
  silent_back w h = let z : ◌≡◌ {A = ℕ} 0 1 = cc in absurd (omega arith)

  set_back : (m : SetRequest) (attributes : List Attribute) → Back (setting tag s m attributes out)
  unfolding setting
  set_back m attributes = by_test Back m.mode (λ t. sent_back _ _ out n) (λ t. silent_back _)

-- each reads back as the message that is sent
pub replies_read_back : RepliesReadBack
unfolding RepliesReadBack told_of
replies_read_back tag s out a w o x n h =
    let r = x.reading in
    from_answered x r x.reads (Back tag s out n)
    (by_request tag s out (Back tag s out n) (λ q. sent_back q tag.writable out n) (refused_back tag s out n) (refused_at_back tag s out n) r (λ z m e. set_back tag s out n m r.lists.rows))
    (ap told_of h)

-- ---- a SET with a fault

pub set_keeps : (tag : Tag) (s : List ℕ) (m : SetRequest) (attributes : List Attribute) (out : List ℕ) → (set_status tag s m attributes ≡ 0 → ⊥) → (setting tag s m attributes out).writable ≡ tag.writable
unfolding setting sent
set_keeps tag s m attributes out n =
    let k : eqb (set_status tag s m attributes) 0 ≡ false = ne_eqb (set_status tag s m attributes) 0 n in
    by_test (λ (e : Effect). e.writable ≡ tag.writable) m.mode (λ t. rw k) (λ t. rw k)

pub faulty_keeps : FaultyKeeps
unfolding FaultyKeeps requested by_reading served carried
faulty_keeps tag s out a w o x r reads m e n =
    from_answered x r reads (λ (z : Effect). z.writable ≡ tag.writable)
    (by_test (λ (z : Effect). z.writable ≡ tag.writable) (eqb (first_check tag out) 0) (λ t. rw e (set_keeps tag s m r.lists.rows out n)) (λ t. refl))

-- ---- without the tag's exact credentials

-- the same answer, and the same octets in the output
pub record SameReply (a b : Effect) : Type 0 where
  pub outcome : a.outcome ≡ b.outcome
  pub output : a.output ≡ b.output

open_row : (b : Bool) → (b && true) ≡ false → b ≡ false
open_row true h = h
open_row false h = refl

module _ (rows : List Row) (f w f' w' : List ℕ) (agree : AgreeOpen rows f w f' w') where
  values_blind : (ids : List ℕ) → first_of (get_faults rows false ids) ≡ 0 → values_in f w (rows_of rows ids) ≡ values_in f' w' (rows_of rows ids)
  unfolding get_faults get_fault denied values_in rows_of
  values_blind [] h = refl
  values_blind (id ∷ ids) h =
      let a = (first_none 1 (not (known_in id rows)) _ h).1 in
      let b = first_none 0 ((row_of id rows).protected && true) (get_faults rows false ids) a in
      ap₂ ◌++◌ (agree.so id (open_row (row_of id rows).protected b.0)) (values_blind ids b.1)

  module _ (eid : ℕ) (credentials s : List ℕ) (m : GetRequest) (out : List ℕ) (without : exact s credentials m.has_credentials m.credentials m.credentials_length ≡ false) where
    abbrev one : Tag
    one = tag_of eid credentials rows f w

    abbrev other : Tag
    other = tag_of eid credentials rows f' w'

    same_status : get_status one s m ≡ get_status other s m
    unfolding get_status
    same_status = refl

    same_reply : get_status one s m ≡ 0 → get_reply one s m ≡ get_reply other s m
    unfolding get_status get_reply
    same_reply h =
        let a = (first_none 1 (not (eqb m.eid eid)) _ h).1 in
        let b = (first_none 1 (not m.has_ids) _ a).1 in
        let c : first_of (get_faults rows false (ids_from s m.ids m.count)) ≡ 0 = rw without at b in
        rw (values_blind (ids_from s m.ids m.count) c)

    -- the reply to a GET is the same, whatever the octets of protected rows
    pub get_blind : SameReply (getting one s m out) (getting other s m out)
    unfolding getting sent
    get_blind =
        by_cases (eqb (get_status other s m) 0)
        (λ t.
        let e : get_reply one s m ≡ get_reply other s m = same_reply (same_status ∙ eqb-true (get_status other s m) 0 t) in
        by_cases (too_long (sent (get_reply other s m) w' out).outcome)
        (λ u. record { outcome = rw (same_status, t, e, u); output = rw (same_status, t, e, u) })
        (λ u. record { outcome = rw (same_status, t, e, u); output = rw (same_status, t, e, u) }))
        (λ t. record { outcome = rw (same_status, t); output = rw (same_status, t) })

-- the reply to a SET does not depend on the areas at all
pub set_blind : (eid : ℕ) (credentials : List ℕ) (rows : List Row) (f w f' w' s : List ℕ) (m : SetRequest) (attributes : List Attribute) (out : List ℕ)
    → SameReply (setting (tag_of eid credentials rows f w) s m attributes out) (setting (tag_of eid credentials rows f' w') s m attributes out)
unfolding setting sent set_status
set_blind eid credentials rows f w f' w' s m attributes out =
    by_cases m.mode (λ t. record { outcome = rw t; output = rw t }) (λ t. record { outcome = rw t; output = rw t })

-- the reply to any request is the same, whatever the octets of protected rows
module _ (eid : ℕ) (credentials : List ℕ) (rows : List Row) (f w f' w' : List ℕ) (agree : AgreeOpen rows f w f' w') (s out : List ℕ) where
  abbrev left : Tag
  left = tag_of eid credentials rows f w

  abbrev right : Tag
  right = tag_of eid credentials rows f' w'

  same_effect : (o : Outcome) → SameReply (effect o w out) (effect o w' out)
  same_effect o = record { outcome = refl; output = refl }

  carried_blind : (m : Message) (attributes : List Attribute) → GetWithout s credentials (answer.Message m) → SameReply (carried left s m attributes out) (carried right s m attributes out)
  unfolding carried sent
  carried_blind (kind.ActionRequest m) attributes h = record { outcome = refl; output = refl }
  carried_blind (kind.ActionResponse m) attributes h = same_effect (refused 24)
  carried_blind (kind.EventRequest m) attributes h = same_effect (refused 24)
  carried_blind (kind.EventResponse m) attributes h = same_effect (refused 24)
  carried_blind (kind.SetRequest m) attributes h = set_blind eid credentials rows f w f' w' s m attributes out
  carried_blind (kind.SetResponse m) attributes h = same_effect (refused 24)
  carried_blind (kind.GetRequest m) attributes h = get_blind rows f w f' w' agree eid credentials s m out (h m refl)
  carried_blind (kind.GetResponse m) attributes h = same_effect (refused 24)
  carried_blind (kind.Bst m) attributes h = same_effect (refused 24)
  carried_blind (kind.Vst m) attributes h = same_effect (refused 24)

  answer_blind : (a : Answer) (attributes : List Attribute) → GetWithout s credentials a → SameReply (by_reading left s a attributes out) (by_reading right s a attributes out)
  unfolding by_reading
  answer_blind (answer.Refused k p) attributes h = same_effect (refused_at k p)
  answer_blind (answer.Message m) attributes h = by_cases (served m) (λ t. rw t (carried_blind m attributes h)) (λ t. rw t (same_effect (refused 24)))

  pub request_blind : (r : Reading) → length f ≡ length f' → length w ≡ length w' → GetWithout s credentials r.answer → SameReply (requested left s r out) (requested right s r out)
  unfolding requested
  request_blind r a b h =
      let first = first_of (check 1 (ltb (length out) least_output) ∷ check 26 (not (sound_directory (length f') (length w') rows)) ∷ []) in
      by_cases (eqb first 0)
      (λ t. rw (a, b, t) (answer_blind r.answer r.lists.rows h))
      (λ t. rw (a, b, t) (same_effect (refused first)))

pub protected_unseen : ProtectedUnseen
unfolding ProtectedUnseen
protected_unseen eid credentials rows f v f' v' agree k l s out r reads without a b w w' o o' x y =
    let i = answered_is x r reads in
    let j = answered_is y r reads in
    let z = request_blind eid credentials rows f v f' v' agree s out r k l without in (
      answer_same a b (ap (λ (e : Effect). e.outcome) i ∙ z.outcome ∙ sym (ap (λ (e : Effect). e.outcome) j)),
      ap (λ (e : Effect). e.output) i ∙ z.output ∙ sym (ap (λ (e : Effect). e.output) j),
    )

-- ---- what a SET leaves in an area

module _ (w v : List ℕ) (at : ℕ) (room : at + length v ≤ length w) where
  -- the area with v in the part from at on
  abbrev with_part : List ℕ
  with_part = take at w ++ (v ++ drop (at + length v) w)

  before_part : length (take at w) ≡ at
  before_part = length-take-le at w (omega arith)

  part_is : take (length v) (drop at with_part) ≡ v
  part_is =
      ap (take (length v)) (drop_at (take at w) (v ++ drop (at + length v) w) at before_part) ∙ take_at v (drop (at + length v) w) (length v) refl

  -- a part in front of it keeps its octets, and so does one behind it
  part_front : (i n : ℕ) → i + n ≤ at → take n (drop i with_part) ≡ take n (drop i w)
  part_front i n h =
      let d = length-drop i (take at w) in
      let go : (x : List ℕ) → take n (drop i (take at w ++ x)) ≡ take n (drop i (take at w)) =
      λ x. ap (take n) (drop-append-le i (take at w) x (omega (arith, before_part))) ∙ take-append-le n (drop i (take at w)) x (omega (arith, before_part)) in
      go (v ++ drop (at + length v) w) ∙ sym (go (drop at w)) ∙ ap (λ (l : List ℕ). take n (drop i l)) (take-append-drop at w)

  part_behind : (i n : ℕ) → at + length v ≤ i → take n (drop i with_part) ≡ take n (drop i w)
  part_behind i n h =
      let x = take at w ++ v in
      let y = drop (at + length v) w in
      let l : length x ≡ at + length v = omega (arith, length-append (take at w) v, before_part) in
      let j = i - (at + length v) in
      let e : at + length v + j ≡ i = omega arith in
      let go : (z : List ℕ) → drop (at + length v) z ≡ y → drop i z ≡ drop j y =
      λ z k. ap (λ (m : ℕ). drop m z) (sym e) ∙ sym (drop-drop j (at + length v) z) ∙ ap (drop j) k in
      ap (take n)
      (go with_part (ap (drop (at + length v)) (sym (append_assoc (take at w) v y)) ∙ drop_at x y (at + length v) l) ∙ sym (go w refl))

module _ (s : List ℕ) (rows : List Row) (a : Attribute) (f w : List ℕ) (fits : copy_fits s a.start a.n w (row_of a.id rows).start ≡ true) where
  abbrev target : Row
  target = row_of a.id rows

  abbrev value : List ℕ
  value = string_at s a.start a.n

  room : target.start + length value ≤ length w
  unfolding copy_fits
  room = omega (arith, length_string s a.start a.n, leb-true (target.start + a.n) (length w) (both (is_inside (length s) a.start a.n) (leb (target.start + a.n) (length w)) fits).1)

  set_is : set_row s rows a w ≡ with_part w value target.start room
  unfolding set_row copy_string
  set_is = rw (fits, length_string s a.start a.n)

  -- the row that a SET names holds the value set
  pub set_value : target.writable ≡ true → a.n ≡ target.length → value_of f (set_row s rows a w) target ≡ value
  unfolding value_of
  set_value h n =
      let e : target.length ≡ length value = omega (arith, length_string s a.start a.n) in
      rw (h, set_is, e) (part_is w value target.start room)

  -- a row of the area that shares no octet with it keeps its octets
  pub set_leaves : (row : Row) → row.writable ≡ true → (row.start + row.length ≤ target.start) ⊎ (target.start + a.n ≤ row.start) → value_of f (set_row s rows a w) row ≡ value_of f w row
  unfolding value_of
  set_leaves row h (inl k) = rw (h, set_is) (part_front w value target.start room row.start row.length k)
  set_leaves row h (inr k) = rw (h, set_is) (part_behind w value target.start room row.start row.length (omega (arith, length_string s a.start a.n)))

  -- so does an octet of the area that lies in front of it or behind it
  pub set_octet : (i : ℕ) → (i < target.start) ⊎ (target.start + a.n ≤ i) → take 1 (drop i (set_row s rows a w)) ≡ take 1 (drop i w)
  set_octet i (inl k) = rw set_is (part_front w value target.start room i 1 (omega arith))
  set_octet i (inr k) = rw set_is (part_behind w value target.start room i 1 (omega (arith, length_string s a.start a.n)))

  -- and so does a row of the factory area
  pub set_factory_left : (row : Row) → row.writable ≡ false → value_of f (set_row s rows a w) row ≡ value_of f w row
  unfolding value_of
  set_factory_left row h = rw h
