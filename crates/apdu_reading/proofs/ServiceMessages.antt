-- Each service message up to its rows, from the readings of its components: whatever follows, the message is read.
-- Assumes nothing.
use Prim.Native.Nat.{ℕ, ◌+◌, ◌%◌, ◌≤◌, ◌<◌}
use mathlib.Core.Path.{◌≡◌, refl, sym, ◌∙◌}
use mathlib.Core.List.{List, [], ◌∷◌}
use mathlib.Core.Bool.{Bool, true, false}
use native.Mathlib.Omega.{arith}
use lib.ListN.{length, replicate}
use Rattle.refusals.proofs.Tests.{and_true}
use Rattle.bits.specs.Bits.{field, read_field}
use Rattle.apdu_format.specs.Component.{lead, integer, string_form, id_count}
use Rattle.apdu_format.specs.Table.{layout_of}
use Rattle.apdu_format.specs.Rules.{present}
use Rattle.apdu_format.specs.Reading.{Value, fields}
use Rattle.apdu.specs.declared.lists.Row.{Row}
use Rattle.apdu.specs.declared.lists.Lists.{Lists}
use Rattle.apdu.specs.declared.due.Due.{Due}
use Rattle.apdu.specs.declared.records.Request.{Request}
use Rattle.apdu.specs.declared.records.ActionResponse.{ActionResponse}
use Rattle.apdu.specs.declared.records.Response.{Response}
use Rattle.apdu.specs.declared.records.SetRequest.{SetRequest}
use Rattle.apdu.specs.declared.records.GetRequest.{GetRequest}
use Rattle.apdu.specs.declared.records.GetResponse.{GetResponse}
use Rattle.apdu.specs.declared.records.Message.{Message}
use Rattle.apdu.specs.declared.records.Message.TheVariants as kind
use Rattle.apdu.specs.Values.{bit_of, num_if, if, str, id_list, request_values, action_response_values, response_values, set_request_values, get_request_values, get_response_values, values_of, empty_row, empty_entry}
use Rattle.apdu.specs.Tidy.{Absent, RowsTidy, request_tidy, action_response_tidy, response_tidy, set_request_tidy, get_request_tidy, get_response_tidy, message_tidy}
use Rattle.apdu.specs.Sound.{nested, request_sound, action_response_sound, set_request_sound, get_request_sound, get_response_sound, sound, count_if, rows_present}
use Rattle.apdu.proofs.Laws.{sound_if_law}
use Rattle.apdu.proofs.Formed.{count_le, keeps_limit}
use Rattle.apdu.proofs.Dues.{two, one}
use Rattle.apdu_reading.specs.declared.cursor.Cursor.{Cursor}
use Rattle.apdu_reading.specs.declared.container.Head.{Head}
use Rattle.apdu_reading.specs.declared.rows.Rows.{Rows}
use Rattle.apdu_reading.specs.declared.services.Opened.{Opened}
use Rattle.apdu_reading.specs.Cursor.{component, piece_of, ReadsTo, Inside}
use Rattle.apdu_reading.specs.Lists.{Ready, Filled}
use Rattle.apdu_reading.specs.Optional.{Maybe, HeadMaybe, AttributesMaybe}
use Rattle.apdu_reading.specs.Answers.{Chosen}
use Rattle.apdu_reading.specs.Messages.{Begun, MessageRead, closed_by, due_of, unread, Opens}
use Rattle.apdu_reading.proofs.Chains.{same_fault, itself, nothing, then, saying, clean}
use Rattle.apdu_reading.proofs.Strings.{integer_reads, integer_room}
use Rattle.apdu_reading.proofs.Boxes.{fresh, Boxed, boxed, box_room, Listed, listed, list_room, stays, rowless, rowless_tidy}
use Rattle.apdu_reading.proofs.Leads.{set_bit, narrow, saw_four, saw_three, lead_in, lead_four, lead_three, lead_room, absent_value, absent_part}
use Rattle.apdu_reading.proofs.ChoiceLaws.{begun, chosen, lead_as, no_entries_tidy}

abbrev Integer : List ℕ → Cursor → Cursor → Type 0
Integer s c r = (r ≡ component s integer c) × (r.value < 128)

abbrev MaybeInteger : List ℕ → Bool → Cursor → Cursor → Type 0
MaybeInteger s p c r = Maybe s p (integer ∷ []) c r (num_if p r.value)

abbrev MaybeString : List ℕ → Bool → Cursor → Cursor → Type 0
MaybeString s p c r = Maybe s p (string_form ∷ []) c r (if p (str s r.start r.value)) × Inside s p r

absent_box : {s : List ℕ} {p : Bool} {c : Cursor} {kind n start : ℕ} {r : Rows} → Boxed s p c kind n start r → r.cursor.fault ≡ 0 → Absent p (kind ∷ n ∷ start ∷ r.used ∷ [])
absent_box b h = record { are = λ z. ((b.absent z).0, ((b.absent z).1, ((b.absent z).2, (b.kept.none z h, tt)))) }

absent_list : {s : List ℕ} {p : Bool} {c : Cursor} {count : ℕ} {r : Rows} → Listed s p c count r → r.cursor.fault ≡ 0 → Absent p (count ∷ r.used ∷ [])
absent_list b h = record { are = λ z. (b.absent z, (b.kept.none z h, tt)) }

-- a list that may be absent has no more rows than are read
list_few : (p : Bool) {s : List ℕ} {o : Due} {r q : Rows} → Filled s o r q → count_if p q.used ≤ 32
list_few p {q = q} f = let k = count_le p q.used in let u = f.few in omega arith

abbrev action_response_of : Bool → Bool → Bool → ℕ → Cursor → Cursor → Head → ℕ → ℕ → ActionResponse
action_response_of x y z w eid iid hd rows ret =
    record {
      fill = w;
      eid = eid.value;
      has_iid = x;
      iid = iid.value;
      has_parameter = y;
      kind = hd.kind;
      n = hd.n;
      start = hd.start;
      rows = rows;
      has_ret = z;
      ret = ret;
    }

abbrev get_response_of : Bool → Bool → Bool → ℕ → Cursor → Cursor → Cursor → ℕ → ℕ → GetResponse
get_response_of x y z w eid iid list rows ret =
    record
    { fill = w; eid = eid.value; has_iid = x; iid = iid.value; has_attributes = y; count = list.value; rows = rows; has_ret = z; ret = ret }

abbrev set_request_of : Bool → Bool → ℕ → Bool → Cursor → Cursor → Cursor → ℕ → ℕ → SetRequest
set_request_of x y z w eid cred list rows iid =
    record {
      fill = z;
      mode = w;
      eid = eid.value;
      has_credentials = x;
      credentials = cred.start;
      credentials_length = cred.value;
      count = list.value;
      rows = rows;
      has_iid = y;
      iid = iid;
    }

abbrev request_of : Bool → Bool → Bool → Bool → Cursor → Cursor → Cursor → Head → ℕ → ℕ → Request
request_of x y z w eid service cred hd rows iid =
    record {
      mode = w;
      eid = eid.value;
      service = service.value;
      has_credentials = x;
      credentials = cred.start;
      credentials_length = cred.value;
      has_parameter = y;
      kind = hd.kind;
      n = hd.n;
      start = hd.start;
      rows = rows;
      has_iid = z;
      iid = iid;
    }

-- from c to r a message of kind k is read, with these values, and is tidy and sound
record KindRead (s : List ℕ) (k : ℕ) (c r : Cursor) (vs : List Value) (Fine : Type 0) (good : Bool) : Type 0 where
  reads : ReadsTo s (lead k ∷ []) c r vs
  fine : r.fault ≡ 0 → Fine
  right : r.fault ≡ 0 → good ≡ true

abbrev beside : List Row → Lists
beside rs = record { entries = replicate 32 empty_entry; rows = rs }

module _ (s : List ℕ) (c : Cursor) (h : Chosen s c) where
  message_read : {k : ℕ} → c.value ≡ k → {r : Cursor} {vs : List Value} {Fine : Type 0} {good : Bool} → KindRead s k c r vs Fine good → (m : Message) (rs : List Row)
      → values_of s m (replicate 32 empty_entry) rs ≡ fields (k ∷ []) ∷ vs → (Fine → message_tidy m (replicate 32 empty_entry) rs)
      → sound (length s) m (replicate 32 empty_entry) rs ≡ good → rows_present m (replicate 32 empty_entry) ≤ 32 → length rs ≡ 32 → MessageRead s r m (beside rs)
  message_read {k} e p m rs v t w few long =
      record {
        reads = rw v (chosen s c h k e p.reads);
        tidy = λ z. t (p.fine z);
        sound = λ z. w ∙ p.right z;
        few = keeps_limit m (replicate 32 empty_entry) few;
        rows = long;
        entries = refl;
      }

  kind_as : {j k : ℕ} {r : Cursor} {vs : List Value} {Fine : Type 0} {good : Bool} → layout_of j ≡ layout_of k → KindRead s j c r vs Fine good → KindRead s k c r vs Fine good
  kind_as {j} {k} e p = record { reads = lead_as s j k c e p.reads; fine = p.fine; right = p.right }

  abbrev b : Begun c
  b = begun s c h

  module _ {p : Cursor} (l : p ≡ piece_of s 4 false c) where
    -- the room is whole where a list begins
    room_after : {eid : Cursor} → Integer s p eid → eid.room ≡ 32
    unfolding layout_of
    room_after a = integer_room s p a.0 ∙ lead_room s c b 0 (lead_four s c b 0 refl l)

    module _ {x y : Bool} {z : ℕ} (fx : bit_of x ≡ field s 4 1) (fy : bit_of y ≡ field s 5 1) (fz : z ≡ read_field s 6 2) {eid iid ret : Cursor}
        (a : Integer s p eid) (d : MaybeInteger s x eid iid) (e : MaybeInteger s y iid ret) where
      abbrev response_of : Response
      response_of = record { fill = z; eid = eid.value; has_iid = x; iid = iid.value; has_ret = y; ret = ret.value }

      response_room : ret.fault ≡ 0 → 0 + 0 + ret.room ≡ 32
      response_room w = let r : ret.room ≡ 32 = e.room ∙ d.room ∙ room_after a in omega arith

      response_read : {q : Rows} → Filled s (two 0) (unread ret) q → {r : Cursor} → MaybeInteger s false q.cursor r
          → KindRead s 3 c r (response_values response_of) (response_tidy response_of × RowsTidy 0 q.rows) true
      unfolding layout_of present response_values
      response_read f m =
          record {
            reads =
                saying
                (saying
                (lead_in s c b 3 (bit_of x ∷ bit_of y ∷ z ∷ []) (lead_three s c b 3 refl l) (saw_three s c b 3 (bit_of x) (bit_of y) z refl fx fy (narrow s 6 2 (omega arith) fz))
                (rw (set_bit x, set_bit y) (then (integer_reads s p a.0) (then d.reads (then e.reads (nothing s (itself ret)))))))
                (rowless f))
                (stays m.reads);
            fine = λ w. ((absent_value d, absent_value e), rowless_tidy f (clean m.reads w));
            right = λ w. refl;
          }

      pub event_response_opens : c.value ≡ 3 → Opens s (record { cursor = ret; d1 = 0; d2 = 0; last = false; message = kind.EventResponse response_of })
      unfolding values_of message_tidy sound rows_present closed_by
      event_response_opens v =
          record { room = response_room; whole = λ q r f m. message_read v (response_read f m) (kind.EventResponse response_of) q.rows refl (λ t. (t.0, no_entries_tidy refl, t.1)) refl (omega arith) f.long }

      pub set_response_opens : c.value ≡ 5 → Opens s (record { cursor = ret; d1 = 0; d2 = 0; last = false; message = kind.SetResponse response_of })
      unfolding values_of message_tidy sound rows_present closed_by layout_of
      set_response_opens v =
          record { room = response_room; whole = λ q r f m. message_read v (kind_as {j = 3} refl (response_read f m)) (kind.SetResponse response_of) q.rows refl (λ t. (t.0, no_entries_tidy refl, t.1)) refl (omega arith) f.long }

    module _ {x y z : Bool} {w : ℕ} (fx : bit_of x ≡ field s 4 1) (fy : bit_of y ≡ field s 5 1) (fz : bit_of z ≡ field s 6 1) (fw : w ≡ read_field s 7 1) where
      module _ {eid iid : Cursor} {hd : Head} (a : Integer s p eid) (d : MaybeInteger s x eid iid) (g : HeadMaybe s y iid hd) {n : ℕ} (e : n ≡ nested hd.kind hd.n) where
        action_response_read : {q : Rows} → Filled s (two n) (unread hd.cursor) q → {r : Cursor} → MaybeInteger s z q.cursor r
            → KindRead s 1 c r (action_response_values s (action_response_of x y z w eid iid hd q.used r.value) q.rows)
            (action_response_tidy (action_response_of x y z w eid iid hd q.used r.value) × RowsTidy q.used q.rows) (action_response_sound (length s) (action_response_of x y z w eid iid hd q.used r.value) q.rows)
        unfolding layout_of present action_response_values action_response_sound
        action_response_read f {r} m =
            let k = boxed s y iid g e f in
            record {
              reads =
                  lead_in s c b 1 (bit_of x ∷ bit_of y ∷ bit_of z ∷ w ∷ []) (lead_four s c b 1 refl l)
                  (saw_four s c b 1 (bit_of x) (bit_of y) (bit_of z) w refl fx fy fz (narrow s 7 1 (omega arith) fw))
                  (rw (set_bit x, set_bit y, set_bit z) (then (integer_reads s p a.0) (then d.reads (then k.reads (then m.reads (nothing s (itself r)))))));
              fine = λ v. ((absent_value d, absent_box k (clean m.reads v), absent_value m, k.tidy), k.kept.rest);
              right = λ v. sound_if_law y (k.sound (clean m.reads v));
            }

        pub action_response_opens : c.value ≡ 1 → Opens s (record { cursor = hd.cursor; d1 = 0; d2 = n; last = z; message = kind.ActionResponse (action_response_of x y z w eid iid hd 0 0) })
        unfolding values_of message_tidy sound rows_present closed_by
        action_response_opens v =
            record {
              room = box_room s y iid g e (d.room ∙ room_after a);
              whole = λ q r f m.
                  message_read v (action_response_read f m) (kind.ActionResponse (action_response_of x y z w eid iid hd q.used r.value)) q.rows refl (λ t. (t.0, no_entries_tidy refl, t.1)) refl (list_few y f) f.long;
            }

      module _ {eid iid list : Cursor} (a : Integer s p eid) (d : MaybeInteger s x eid iid) (g : AttributesMaybe s y iid list) where
        get_response_read : {q : Rows} → Filled s (one list.value) (unread list) q → {r : Cursor} → MaybeInteger s z q.cursor r
            → KindRead s 7 c r (get_response_values s (get_response_of x y z w eid iid list q.used r.value) q.rows) (get_response_tidy (get_response_of x y z w eid iid list q.used r.value) × RowsTidy q.used q.rows)
            (get_response_sound (length s) (get_response_of x y z w eid iid list q.used r.value) q.rows)
        unfolding layout_of present get_response_values get_response_sound
        get_response_read f {r} m =
            let k = listed s y iid g f in
            record {
              reads =
                  lead_in s c b 7 (bit_of x ∷ bit_of y ∷ bit_of z ∷ w ∷ []) (lead_four s c b 7 refl l)
                  (saw_four s c b 7 (bit_of x) (bit_of y) (bit_of z) w refl fx fy fz (narrow s 7 1 (omega arith) fw))
                  (rw (set_bit x, set_bit y, set_bit z) (then (integer_reads s p a.0) (then d.reads (then k.reads (then m.reads (nothing s (itself r)))))));
              fine = λ v. ((absent_value d, absent_list k (clean m.reads v), absent_value m), k.kept.rest);
              right = λ v. sound_if_law y (k.sound (clean m.reads v));
            }

        pub get_response_opens : c.value ≡ 7 → Opens s (record { cursor = list; d1 = list.value; d2 = 0; last = z; message = kind.GetResponse (get_response_of x y z w eid iid list 0 0) })
        unfolding values_of message_tidy sound rows_present closed_by
        get_response_opens v =
            record {
              room = list_room s y iid g (d.room ∙ room_after a);
              whole = λ q r f m.
                  message_read v (get_response_read f m) (kind.GetResponse (get_response_of x y z w eid iid list q.used r.value)) q.rows refl (λ t. (t.0, no_entries_tidy refl, t.1)) refl (list_few y f) f.long;
            }

      module _ {eid cred iid ids : Cursor} (a : Integer s p eid) (d : MaybeString s x eid cred) (g : MaybeInteger s y cred iid)
          (e : Maybe s z (id_count ∷ []) iid ids (if z (id_list s ids.start ids.value)) × Inside s z ids) where
        abbrev get_request_of : GetRequest
        get_request_of =
            record {
              fill = w;
              eid = eid.value;
              has_credentials = x;
              credentials = cred.start;
              credentials_length = cred.value;
              has_iid = y;
              iid = iid.value;
              has_ids = z;
              ids = ids.start;
              count = ids.value;
            }

        get_request_read : {q : Rows} → Filled s (two 0) (unread ids) q → {r : Cursor} → MaybeInteger s false q.cursor r
            → KindRead s 6 c r (get_request_values s get_request_of) (get_request_tidy get_request_of × RowsTidy 0 q.rows) (get_request_sound (length s) get_request_of)
        unfolding layout_of present get_request_values get_request_sound
        get_request_read f m =
            record {
              reads =
                  saying
                  (saying
                  (lead_in s c b 6 (bit_of x ∷ bit_of y ∷ bit_of z ∷ w ∷ []) (lead_four s c b 6 refl l)
                  (saw_four s c b 6 (bit_of x) (bit_of y) (bit_of z) w refl fx fy fz (narrow s 7 1 (omega arith) fw))
                  (rw (set_bit x, set_bit y, set_bit z) (then (integer_reads s p a.0) (then d.0.reads (then g.reads (then e.0.reads (nothing s (itself ids))))))))
                  (rowless f))
                  (stays m.reads);
              fine = λ v. ((absent_part d.0, absent_value g, absent_part e.0), rowless_tidy f (clean m.reads v));
              right = λ v. let u = same_fault (rowless f) ∙ clean m.reads v in and_true (d.1.so (clean g.reads (clean e.0.reads u))) (e.1.so u);
            }

        pub get_request_opens : c.value ≡ 6 → Opens s (record { cursor = ids; d1 = 0; d2 = 0; last = false; message = kind.GetRequest get_request_of })
        unfolding values_of message_tidy sound rows_present closed_by
        get_request_opens v =
            record {
              room = λ u. let r : ids.room ≡ 32 = e.0.room ∙ g.room ∙ d.0.room ∙ room_after a in omega arith;
              whole = λ q r f m. message_read v (get_request_read f m) (kind.GetRequest get_request_of) q.rows refl (λ t. (t.0, no_entries_tidy refl, t.1)) refl (omega arith) f.long;
            }

    module _ {x y : Bool} {z : ℕ} (w : Bool) (fx : bit_of x ≡ field s 4 1) (fy : bit_of y ≡ field s 5 1) (fz : z ≡ read_field s 6 1) (fw : bit_of w ≡ field s 7 1)
        {eid cred list : Cursor} (a : Integer s p eid) (d : MaybeString s x eid cred) (g : AttributesMaybe s true cred list) where
      set_request_read : {q : Rows} → Filled s (one list.value) (unread list) q → {r : Cursor} → MaybeInteger s y q.cursor r
          → KindRead s 4 c r (set_request_values s (set_request_of x y z w eid cred list q.used r.value) q.rows) (set_request_tidy (set_request_of x y z w eid cred list q.used r.value) × RowsTidy q.used q.rows)
          (set_request_sound (length s) (set_request_of x y z w eid cred list q.used r.value) q.rows)
      unfolding layout_of present set_request_values set_request_sound
      set_request_read f {r} m =
          let k = listed s true cred g f in
          record {
            reads =
                lead_in s c b 4 (bit_of x ∷ bit_of y ∷ z ∷ bit_of w ∷ []) (lead_four s c b 4 refl l)
                (saw_four s c b 4 (bit_of x) (bit_of y) z (bit_of w) refl fx fy (narrow s 6 1 (omega arith) fz) fw)
                (rw (set_bit x, set_bit y) (then (integer_reads s p a.0) (then d.0.reads (then k.reads (then m.reads (nothing s (itself r)))))));
            fine = λ v. ((absent_part d.0, absent_value m), k.kept.rest);
            right = λ v. let u = clean m.reads v in and_true (d.1.so (clean k.reads u)) (k.sound u);
          }

      pub set_request_opens : c.value ≡ 4 → Opens s (record { cursor = list; d1 = list.value; d2 = 0; last = y; message = kind.SetRequest (set_request_of x y z w eid cred list 0 0) })
      unfolding values_of message_tidy sound rows_present closed_by
      set_request_opens v =
          record {
            room = list_room s true cred g (d.0.room ∙ room_after a);
            whole = λ q r f m.
                message_read v (set_request_read f m) (kind.SetRequest (set_request_of x y z w eid cred list q.used r.value)) q.rows refl (λ t. (t.0, no_entries_tidy refl, t.1)) refl f.few f.long;
          }

    module _ {x y z : Bool} (w : Bool) (fx : bit_of x ≡ field s 4 1) (fy : bit_of y ≡ field s 5 1) (fz : bit_of z ≡ field s 6 1) (fw : bit_of w ≡ field s 7 1)
        {eid service cred : Cursor} {hd : Head} (a : Integer s p eid) (i : Integer s eid service) (d : MaybeString s x service cred) (g : HeadMaybe s y cred hd)
        {n : ℕ} (e : n ≡ nested hd.kind hd.n) where
      request_read : {q : Rows} → Filled s (two n) (unread hd.cursor) q → {r : Cursor} → MaybeInteger s z q.cursor r
          → KindRead s 0 c r (request_values s (request_of x y z w eid service cred hd q.used r.value) q.rows) (request_tidy (request_of x y z w eid service cred hd q.used r.value) × RowsTidy q.used q.rows)
          (request_sound (length s) (request_of x y z w eid service cred hd q.used r.value) q.rows)
      unfolding layout_of present request_values request_sound
      request_read f {r} m =
          let k = boxed s y cred g e f in
          record {
            reads =
                lead_in s c b 0 (bit_of x ∷ bit_of y ∷ bit_of z ∷ bit_of w ∷ []) (lead_four s c b 0 refl l) (saw_four s c b 0 (bit_of x) (bit_of y) (bit_of z) (bit_of w) refl fx fy fz fw)
                (rw (set_bit x, set_bit y, set_bit z)
                (then (integer_reads s p a.0) (then (integer_reads s eid i.0) (then d.0.reads (then k.reads (then m.reads (nothing s (itself r))))))));
            fine = λ v. ((absent_part d.0, absent_box k (clean m.reads v), absent_value m, k.tidy), k.kept.rest);
            right = λ v. let u = clean m.reads v in and_true (d.1.so (clean k.reads u)) (sound_if_law y (k.sound u));
          }

      pub action_request_opens : c.value ≡ 0 → Opens s (record { cursor = hd.cursor; d1 = 0; d2 = n; last = z; message = kind.ActionRequest (request_of x y z w eid service cred hd 0 0) })
      unfolding values_of message_tidy sound rows_present closed_by
      action_request_opens v =
          record {
            room = box_room s y cred g e (d.0.room ∙ integer_room s eid i.0 ∙ room_after a);
            whole = λ q r f m.
                message_read v (request_read f m) (kind.ActionRequest (request_of x y z w eid service cred hd q.used r.value)) q.rows refl (λ t. (t.0, no_entries_tidy refl, t.1)) refl (list_few y f) f.long;
          }

      pub event_request_opens : c.value ≡ 2 → Opens s (record { cursor = hd.cursor; d1 = 0; d2 = n; last = z; message = kind.EventRequest (request_of x y z w eid service cred hd 0 0) })
      unfolding values_of message_tidy sound rows_present closed_by layout_of
      event_request_opens v =
          record {
            room = box_room s y cred g e (d.0.room ∙ integer_room s eid i.0 ∙ room_after a);
            whole = λ q r f m.
                message_read v (kind_as {j = 0} refl (request_read f m)) (kind.EventRequest (request_of x y z w eid service cred hd q.used r.value)) q.rows refl (λ t. (t.0, no_entries_tidy refl, t.1)) refl (list_few y f) f.long;
          }

-- ---- the rows and the number behind them

pub opens_ready : {s : List ℕ} {o : Opened} → Opens s o → {rows : List Row} → rows ≡ replicate 32 empty_row → Ready (due_of o) (record { cursor = o.cursor; used = 0; rows = rows })
opens_ready {s} {o} p e = fresh (due_of o) o.cursor e (λ z. let a = p.room z in omega arith)

pub read_rows : {s : List ℕ} {o : Opened} → Opens s o → {rows : List Row} → rows ≡ replicate 32 empty_row → {q : Rows}
    → Filled s (due_of o) (record { cursor = o.cursor; used = 0; rows = rows }) q → {r : Cursor} → MaybeInteger s o.last q.cursor r
    → MessageRead s r (closed_by o.message q.used r.value) (beside q.rows)
read_rows {s} {o} p e {q} f {r} m = let g : Filled s (due_of o) (unread o.cursor) q = rw (sym e) f in p.whole q r g m

-- ---- choices that are left

pub even : (n : ℕ) → n % 2 ≡ 0 → n ≤ 2 → (n ≡ 2 → ⊥) → n ≡ 0
even n a b c = omega (arith, c)

pub odd : (n : ℕ) → n % 2 ≡ 1 → 3 ≤ n → n ≤ 5 → (n ≡ 5 → ⊥) → n ≡ 3
odd n a b c d = omega (arith, d)

pub low_even : (n : ℕ) → n < 8 → n % 2 ≡ 0 → (n ≡ 4 → ⊥) → (n ≡ 6 → ⊥) → n ≤ 2
low_even n a b c d = omega (arith, c, d)

pub low_odd : (n : ℕ) → n < 8 → (n % 2 ≡ 0 → ⊥) → (n ≡ 1 → ⊥) → (n ≡ 7 → ⊥) → (n % 2 ≡ 1) × (3 ≤ n) × (n ≤ 5)
low_odd n a b c d = (omega (arith, b), omega (arith, b, c), omega (arith, b, d))
