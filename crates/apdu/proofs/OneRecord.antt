-- A record is determined by its values, if it is sound and tidy, its rows keep the limit and its arrays have 32 elements: two such records over the same octets
-- that say the same are one. Messages of the same values have the same choice; what is left is one law for each of the ten.
-- Assumes nothing.
use Prim.Native.Nat.{ℕ, ◌≤◌}
use mathlib.Core.Path.{◌≡◌, refl, ap, sym, ◌∙◌}
use mathlib.Core.Bool.{true}
use mathlib.Core.List.{List, [], ◌∷◌}
use native.Mathlib.Omega.{arith}
use lib.ListN.{length, take}
use lib.Dec.{eqb}
use borrow.Author.Tests.{leb-true}
use Rattle.refusals.specs.Check.{pick}
use Rattle.apdu_format.specs.Limits.{most_rows}
use Rattle.apdu_format.specs.Reading.{Value, fields, string}
use Rattle.apdu.specs.declared.lists.Row.{Row}
use Rattle.apdu.specs.declared.lists.Entry.{Entry}
use Rattle.apdu.specs.declared.records.Request.{Request}
use Rattle.apdu.specs.declared.records.ActionResponse.{ActionResponse}
use Rattle.apdu.specs.declared.records.Response.{Response}
use Rattle.apdu.specs.declared.records.SetRequest.{SetRequest}
use Rattle.apdu.specs.declared.records.GetRequest.{GetRequest}
use Rattle.apdu.specs.declared.records.GetResponse.{GetResponse}
use Rattle.apdu.specs.declared.records.Bst.{Bst}
use Rattle.apdu.specs.declared.records.Vst.{Vst}
use Rattle.apdu.specs.declared.records.Message.{Message}
use Rattle.apdu.specs.declared.records.Message.TheVariants as kind
use Rattle.apdu.specs.Values.{values_of, empty_row, empty_entry}
use Rattle.apdu.specs.Tidy.{EntriesTidy, RowsTidy, message_tidy}
use Rattle.apdu.specs.Sound.{sound, rows_present, rows_fit}
use Rattle.apdu.proofs.SameRows.{array_same}
use Rattle.apdu.proofs.SameServices.{ServiceSame, request_same, action_response_same, response_same, set_request_same, get_request_same, get_response_same}
use Rattle.apdu.proofs.SameLinks.{MessageSame, bst_same, vst_same}

-- what `read` promises of a record besides its values
pub record Kept (s : List ℕ) (m : Message) (es : List Entry) (rs : List Row) : Type 0 where
  pub tidy : message_tidy m es rs
  pub sound_record : sound (length s) m es rs ≡ true
  pub few : rows_fit m es ≡ true
  pub rows : length rs ≡ 32
  pub entries : length es ≡ 32

-- ---- messages by their choice

data Choice : Type 0 where
  action_request_law : Choice
  action_response_law : Choice
  event_request_law : Choice
  event_response_law : Choice
  set_request_law : Choice
  set_response_law : Choice
  get_request_law : Choice
  get_response_law : Choice
  a_bst : Choice
  a_vst : Choice

number_of : Choice → ℕ
number_of action_request_law = 0
number_of action_response_law = 1
number_of event_request_law = 2
number_of event_response_law = 3
number_of set_request_law = 4
number_of set_response_law = 5
number_of get_request_law = 6
number_of get_response_law = 7
number_of a_bst = 8
number_of a_vst = 9

choice_of : ℕ → Choice
choice_of n =
    pick (eqb n 0) action_request_law
    (pick (eqb n 1) action_response_law
    (pick (eqb n 2) event_request_law
    (pick (eqb n 3) event_response_law
    (pick (eqb n 4) set_request_law
    (pick (eqb n 5) set_response_law (pick (eqb n 6) get_request_law (pick (eqb n 7) get_response_law (pick (eqb n 8) a_bst a_vst))))))))

choice_number : (c : Choice) → choice_of (number_of c) ≡ c
unfolding choice_of number_of
choice_number action_request_law = refl
choice_number action_response_law = refl
choice_number event_request_law = refl
choice_number event_response_law = refl
choice_number set_request_law = refl
choice_number set_response_law = refl
choice_number get_request_law = refl
choice_number get_response_law = refl
choice_number a_bst = refl
choice_number a_vst = refl

abbrev Body : Choice → Type 0
Body action_request_law = Request
Body action_response_law = ActionResponse
Body event_request_law = Request
Body event_response_law = Response
Body set_request_law = SetRequest
Body set_response_law = Response
Body get_request_law = GetRequest
Body get_response_law = GetResponse
Body a_bst = Bst
Body a_vst = Vst

abbrev message : (c : Choice) → Body c → Message
message action_request_law m = kind.ActionRequest m
message action_response_law m = kind.ActionResponse m
message event_request_law m = kind.EventRequest m
message event_response_law m = kind.EventResponse m
message set_request_law m = kind.SetRequest m
message set_response_law m = kind.SetResponse m
message get_request_law m = kind.GetRequest m
message get_response_law m = kind.GetResponse m
message a_bst m = kind.Bst m
message a_vst m = kind.Vst m

-- a message is one of this choice
record Chosen (m : Message) (c : Choice) : Type 0 where
  body : Body c
  is : m ≡ message c body

chosen : (m : Message) → (c : Choice) × Chosen m c
chosen (kind.ActionRequest m) = (action_request_law, record { body = m; is = refl })
chosen (kind.ActionResponse m) = (action_response_law, record { body = m; is = refl })
chosen (kind.EventRequest m) = (event_request_law, record { body = m; is = refl })
chosen (kind.EventResponse m) = (event_response_law, record { body = m; is = refl })
chosen (kind.SetRequest m) = (set_request_law, record { body = m; is = refl })
chosen (kind.SetResponse m) = (set_response_law, record { body = m; is = refl })
chosen (kind.GetRequest m) = (get_request_law, record { body = m; is = refl })
chosen (kind.GetResponse m) = (get_response_law, record { body = m; is = refl })
chosen (kind.Bst m) = (a_bst, record { body = m; is = refl })
chosen (kind.Vst m) = (a_vst, record { body = m; is = refl })

-- the number that values begin with
first_of : List Value → ℕ
first_of [] = 0
first_of (fields [] ∷ vs) = 0
first_of (fields (c ∷ fs) ∷ vs) = c
first_of (string at l ∷ vs) = 0

first_number : (c : Choice) (x : Body c) (s : List ℕ) (es : List Entry) (rs : List Row) → first_of (values_of s (message c x) es rs) ≡ number_of c
unfolding first_of number_of values_of
first_number action_request_law x s es rs = refl
first_number action_response_law x s es rs = refl
first_number event_request_law x s es rs = refl
first_number event_response_law x s es rs = refl
first_number set_request_law x s es rs = refl
first_number set_response_law x s es rs = refl
first_number get_request_law x s es rs = refl
first_number get_response_law x s es rs = refl
first_number a_bst x s es rs = refl
first_number a_vst x s es rs = refl

-- ---- the law

module _ (s : List ℕ) (es fs : List Entry) (rs qs : List Row) where
  module _ {A : Type 0} {m k : A} (f : A → Message) (a : Kept s (f m) es rs) (b : Kept s (f k) fs qs) where
    -- a service's message has no entries, and the rows that it counts
    service : (n : A → ℕ) → EntriesTidy 0 es → EntriesTidy 0 fs → RowsTidy (n m) rs → RowsTidy (n k) qs → ServiceSame m k (take (n m) rs) (take (n k) qs)
        → MessageSame (f m) (f k) es fs rs qs
    service n t u v w h =
        let c : n m ≡ n k = ap n h.message in
        let w' : RowsTidy (n m) qs = rw (← c) at w in
        record {
          message = ap f h.message;
          entries = array_same empty_entry 0 es fs (a.entries ∙ sym b.entries) refl t.rest u.rest;
          rows = array_same empty_row (n m) rs qs (a.rows ∙ sym b.rows) (h.rows ∙ ap (λ (i : ℕ). take i qs) (sym c)) v.rest w'.rest;
        }

    -- a link's message
    link : MessageSame m k es fs rs qs → MessageSame (f m) (f k) es fs rs qs
    link h = record { message = ap f h.message; entries = h.entries; rows = h.rows }

  few : {m : Message} {es : List Entry} {rs : List Row} → Kept s m es rs → rows_present m es ≤ length rs
  unfolding rows_fit
  few {m} {es} {rs} h = omega (arith, leb-true (rows_present m es) most_rows h.few, h.rows)

  by_choice : (c : Choice) (m k : Body c) → Kept s (message c m) es rs → Kept s (message c k) fs qs → values_of s (message c m) es rs ≡ values_of s (message c k) fs qs
      → MessageSame (message c m) (message c k) es fs rs qs
  unfolding values_of message_tidy sound rows_present
  by_choice action_request_law m k a b h =
      service kind.ActionRequest a b (λ x. x.rows) a.tidy.1 b.tidy.1 a.tidy.2 b.tidy.2
      (request_same s rs qs a.tidy.2.each b.tidy.2.each m k a.tidy.0 b.tidy.0 (few a) (few b) a.sound_record b.sound_record cc)
  by_choice action_response_law m k a b h =
      service kind.ActionResponse a b (λ x. x.rows) a.tidy.1 b.tidy.1 a.tidy.2 b.tidy.2
      (action_response_same s rs qs a.tidy.2.each b.tidy.2.each m k a.tidy.0 b.tidy.0 (few a) (few b) a.sound_record b.sound_record cc)
  by_choice event_request_law m k a b h =
      service kind.EventRequest a b (λ x. x.rows) a.tidy.1 b.tidy.1 a.tidy.2 b.tidy.2
      (request_same s rs qs a.tidy.2.each b.tidy.2.each m k a.tidy.0 b.tidy.0 (few a) (few b) a.sound_record b.sound_record cc)
  by_choice event_response_law m k a b h =
      service kind.EventResponse a b (λ x. 0) a.tidy.1 b.tidy.1 a.tidy.2 b.tidy.2
      (record { message = response_same m k a.tidy.0 b.tidy.0 cc; rows = refl })
  by_choice set_request_law m k a b h =
      service kind.SetRequest a b (λ x. x.rows) a.tidy.1 b.tidy.1 a.tidy.2 b.tidy.2
      (set_request_same s rs qs a.tidy.2.each b.tidy.2.each m k a.tidy.0 b.tidy.0 (few a) (few b) a.sound_record b.sound_record cc)
  by_choice set_response_law m k a b h =
      service kind.SetResponse a b (λ x. 0) a.tidy.1 b.tidy.1 a.tidy.2 b.tidy.2
      (record { message = response_same m k a.tidy.0 b.tidy.0 cc; rows = refl })
  by_choice get_request_law m k a b h =
      service kind.GetRequest a b (λ x. 0) a.tidy.1 b.tidy.1 a.tidy.2 b.tidy.2
      (record { message = get_request_same s m k a.tidy.0 b.tidy.0 cc; rows = refl })
  by_choice get_response_law m k a b h =
      service kind.GetResponse a b (λ x. x.rows) a.tidy.1 b.tidy.1 a.tidy.2 b.tidy.2
      (get_response_same s rs qs a.tidy.2.each b.tidy.2.each m k a.tidy.0 b.tidy.0 (few a) (few b) a.sound_record b.sound_record cc)
  by_choice a_bst m k a b h =
      link kind.Bst a b
      (bst_same s es fs rs qs (a.entries ∙ sym b.entries) (a.rows ∙ sym b.rows) m k a.tidy.0 b.tidy.0 a.tidy.1 b.tidy.1 (few a) (few b) a.sound_record b.sound_record cc)
  by_choice a_vst m k a b h =
      link kind.Vst a b
      (vst_same s es fs rs qs (a.entries ∙ sym b.entries) (a.rows ∙ sym b.rows) m k a.tidy.0 b.tidy.0 a.tidy.1 b.tidy.1 (few a) (few b) a.sound_record b.sound_record cc)

  of_choices : (c d : Choice) (m k : Message) → Chosen m c → Chosen k d → Kept s m es rs → Kept s k fs qs → values_of s m es rs ≡ values_of s k fs qs → MessageSame m k es fs rs qs
  of_choices c d m k x y a b h =
      let h' : values_of s (message c x.body) es rs ≡ values_of s (message d y.body) fs qs = rw (x.is, y.is) at h in
      let n : number_of c ≡ number_of d = sym (first_number c x.body s es rs) ∙ ap first_of h' ∙ first_number d y.body s fs qs in
      let e : c ≡ d = sym (choice_number c) ∙ ap choice_of n ∙ choice_number d in
      let z : Chosen k c = rw (← e) at y in
      rw (x.is, z.is) (by_choice c x.body z.body (rw x.is at a) (rw z.is at b) (rw (x.is, z.is) at h))

pub one_record : (s : List ℕ) (m k : Message) (es fs : List Entry) (rs qs : List Row) → Kept s m es rs → Kept s k fs qs → values_of s m es rs ≡ values_of s k fs qs
    → MessageSame m k es fs rs qs
one_record s m k es fs rs qs a b h = of_choices s es fs rs qs (chosen m).0 (chosen k).0 m k (chosen m).1 (chosen k).1 a b h
