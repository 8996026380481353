-- The calls, one law for each way out.
-- Assumes nothing.
use Prim.Native.Nat.{ℕ, ◌≤◌, ◌<◌}
use mathlib.Core.Path.{◌≡◌, refl, ap, sym, ◌∙◌}
use mathlib.Core.Bool.{Bool, true, false, not}
use mathlib.Core.List.{List, []}
use lib.Dec.{eqb, ltb, leb}
use lib.ListN.{length, take}
use borrow.Author.Tests.{eq-eqb, ne_eqb, lt-ltb, le-ltb, leb-true, leb-false, not-true, not-false}
use Rattle.refusals.specs.Check.{pick, first_of}
use Rattle.refusals.proofs.Tests.{by_cases}
use Rattle.apdu.specs.declared.records.GetRequest.{GetRequest}
use Rattle.apdu.specs.declared.records.SetRequest.{SetRequest}
use Rattle.apdu.specs.declared.records.Request.{Request}
use Rattle.apdu.specs.declared.records.Message.{Message}
use Rattle.apdu.specs.declared.records.Message.TheVariants as kind
use Rattle.apdu_reading.specs.declared.front.Answer.TheVariants as answer
use Rattle.apdu_reading.specs.declared.front.Reading.{Reading}
use Rattle.apdu_reading.specs.Answers.{Reads}
use Rattle.directory.specs.declared.Row.{Row}
use Rattle.directory.specs.Directory.{sound_directory}
use Rattle.directory.specs.Gathered.{gathered, list_of}
use Rattle.directory.proofs.Looking.{gathered_few, gathered_many, unsound}
use Rattle.attributes.specs.declared.answers.RequestOutcome.TheVariants as told
use Rattle.attributes.specs.declared.answers.RequestAnswer.{RequestAnswer}
use Rattle.attributes.specs.Serving.{Attribute, Tag, exact, ids_from, get_faults, get_status, set_faults, set_status, set_rows, get_reply, get_refusal, set_reply, echo_reply, effect, Effect, sent, too_long, told_of, getting, setting, carried, served, by_reading, requested, Answered}
use Rattle.std.proofs.Common.{Result, Ok, Err}
use Rattle.std.specs.Result.{is_ok}
use Rattle.attributes.specs.declared.status.Status.{Status}
use Rattle.attributes.specs.Inside.{tag_of, Sends, unserved, number_of, status_of}
use Rattle.attributes.proofs.Faults.{status_nonzero}
use Rattle.attributes.proofs.Sending.{long_kept}

-- ---- the status of a GET

module _ (eid : ℕ) (credentials : List ℕ) (rows : List Row) (s : List ℕ) (m : GetRequest) where
  abbrev tag : Tag
  tag = tag_of eid credentials rows [] []

  pub get_eid : (m.eid ≡ eid → ⊥) → 2 ≡ get_status tag s m
  unfolding get_status first_of
  get_eid h = rw (ne_eqb m.eid eid h)

  module _ (e : m.eid ≡ eid) where
    pub get_no_ids : not m.has_ids ≡ true → 2 ≡ get_status tag s m
    unfolding get_status first_of
    get_no_ids h = rw (eq-eqb m.eid eid e, h)

    pub get_rows : not m.has_ids ≡ false → {sure : Bool} → sure ≡ exact s credentials m.has_credentials m.credentials m.credentials_length
        → {r : ℕ} → r ≡ first_of (get_faults rows sure (ids_from s m.ids m.count)) → r ≡ get_status tag s m
    unfolding get_status first_of
    get_rows h x k = k ∙ rw (eq-eqb m.eid eid e, h, x)

module _ (eid : ℕ) (credentials : List ℕ) (rows : List Row) (s : List ℕ) (m : SetRequest) (attributes : List Attribute) where
  abbrev set_tag : Tag
  set_tag = tag_of eid credentials rows [] []

  pub set_eid : (m.eid ≡ eid → ⊥) → 2 ≡ set_status set_tag s m attributes
  unfolding set_status first_of
  set_eid h = rw (ne_eqb m.eid eid h)

  pub set_each : m.eid ≡ eid → {sure : Bool} → sure ≡ exact s credentials m.has_credentials m.credentials m.credentials_length
      → {r : ℕ} → r ≡ first_of (set_faults rows sure (take m.count attributes)) → r ≡ set_status set_tag s m attributes
  unfolding set_status first_of
  set_each e x k = k ∙ rw (eq-eqb m.eid eid e, x)

-- ---- GET

module _ (eid : ℕ) (credentials : List ℕ) (rows : List Row) (f w : List ℕ) (s : List ℕ) (m : GetRequest) (out : List ℕ) {status : ℕ}
    (is : status ≡ get_status (tag_of eid credentials rows [] []) s m) where
  abbrev whole : Tag
  whole = tag_of eid credentials rows f w

  status_is_law : get_status whole s m ≡ status
  status_is_law = sym (is ∙ same)
    where
      same : get_status (tag_of eid credentials rows [] []) s m ≡ get_status (tag_of eid credentials rows f w) s m
      same = unfold get_status in refl

  abbrev values : Effect
  values = sent (get_reply whole s m) w out

  pub get_refused : (status ≡ 0 → ⊥) → {r : RequestAnswer} {out' : List ℕ} → Sends (get_refusal s m status) out r out' → effect (told_of r.outcome) w out' ≡ getting whole s m out
  unfolding getting
  get_refused n h = h.so w ∙ rw (status_is_law, ne_eqb status 0 n)

  module _ (z : status ≡ 0) {a : RequestAnswer} {o : List ℕ} (h : Sends (get_reply (tag_of 0 [] rows f w) s m) out a o) where
    said : effect (told_of a.outcome) w o ≡ values
    unfolding get_reply
    said = h.so w

    pub get_values : too_long (told_of a.outcome) ≡ false → effect (told_of a.outcome) w o ≡ getting whole s m out
    unfolding getting
    get_values t =
        let k : too_long values.outcome ≡ false = ap (λ (e : Effect). too_long e.outcome) (sym said) ∙ t in
        said ∙ rw (status_is_law, eq-eqb status 0 z, k)

    pub get_long : too_long (told_of a.outcome) ≡ true → {r : RequestAnswer} {out' : List ℕ} → Sends (get_refusal s m 3) o r out' → effect (told_of r.outcome) w out' ≡ getting whole s m out
    unfolding getting
    get_long t {r} {out'} g =
        let k : too_long values.outcome ≡ true = ap (λ (e : Effect). too_long e.outcome) (sym said) ∙ t in
        let e : o ≡ out = ap (λ (e : Effect). e.output) said ∙ long_kept (get_reply whole s m) w out k in
        g.so w ∙ rw (status_is_law, eq-eqb status 0 z, k, e)

-- ---- SET

false_true : false ≡ true → ⊥
false_true e = cc

module _ (eid : ℕ) (credentials : List ℕ) (rows : List Row) (w : List ℕ) (s : List ℕ) (m : SetRequest) (attributes : List Attribute) (out : List ℕ) {status : ℕ}
    (is : status ≡ set_status (tag_of eid credentials rows [] []) s m attributes) {w' : List ℕ}
    (written : w' ≡ pick (eqb status 0) (set_rows s rows (take m.count attributes) w) w) where
  abbrev own : Tag
  own = tag_of eid credentials rows [] w

  set_status_is : set_status own s m attributes ≡ status
  set_status_is = sym (is ∙ same)
    where
      same : set_status (tag_of eid credentials rows [] []) s m attributes ≡ set_status (tag_of eid credentials rows [] w) s m attributes
      same = unfold set_status in refl

  pub set_silent : not m.mode ≡ true → effect (told_of told.NoReply) w' out ≡ setting own s m attributes out
  unfolding setting told_of
  set_silent h = rw (set_status_is, not-true m.mode h, written)

  pub set_replied : not m.mode ≡ false → {r : RequestAnswer} {out' : List ℕ} → Sends (set_reply s m status) out r out' → effect (told_of r.outcome) w' out' ≡ setting own s m attributes out
  unfolding setting
  set_replied h {r} {out'} g = g.so w' ∙ rw (set_status_is, not-false m.mode h, written)

-- what is written where the check was passed, and where it was not
module _ {A : Type 0} (r : Result A Status) {b : Bool} (is : b ≡ is_ok r) where
  pub all_written : b ≡ true → (x y : List ℕ) → x ≡ pick (eqb (status_of r) 0) x y
  all_written t x y = by_result r (sym is ∙ t)
    where
      by_result : (q : Result A Status) → is_ok q ≡ true → x ≡ pick (eqb (status_of q) 0) x y
      by_result (Ok a) e = refl
      by_result (Err status) e = absurd (false_true e)

  pub none_written : b ≡ false → (x y : List ℕ) → y ≡ pick (eqb (status_of r) 0) x y
  none_written t x y = by_result r (sym is ∙ t)
    where
      by_result : (q : Result A Status) → is_ok q ≡ false → y ≡ pick (eqb (status_of q) 0) x y
      by_result (Ok a) e = absurd (false_true (sym e))
      by_result (Err status) e = rw (ne_eqb (number_of status) 0 (status_nonzero status))

-- ---- a request that is served

module _ (eid : ℕ) (credentials : List ℕ) (rows : List Row) (f w s : List ℕ) (attributes : List Attribute) (out : List ℕ) {m : Message} (r : RequestAnswer) {out' : List ℕ} where
  pub carried_echo : {x : Request} → m ≡ kind.ActionRequest x → Sends (echo_reply s x) out r out' → effect (told_of r.outcome) w out' ≡ carried (tag_of eid credentials rows f w) s m attributes out
  unfolding carried
  carried_echo e h = rw e (h.so w)

  pub carried_set : {x : SetRequest} {w' : List ℕ} → m ≡ kind.SetRequest x → effect (told_of r.outcome) w' out' ≡ setting (tag_of eid credentials rows [] w) s x attributes out
      → effect (told_of r.outcome) w' out' ≡ carried (tag_of eid credentials rows f w) s m attributes out
  unfolding carried setting set_status
  carried_set e h = rw e h

  pub carried_get : {x : GetRequest} → m ≡ kind.GetRequest x → effect (told_of r.outcome) w out' ≡ getting (tag_of eid credentials rows f w) s x out → effect (told_of r.outcome) w out' ≡ carried (tag_of eid credentials rows f w) s m attributes out
  unfolding carried
  carried_get e h = rw e h

-- any other message
pub carried_none : (tag : Tag) (s : List ℕ) (m : Message) (attributes : List Attribute) (out : List ℕ)
    → ((x : Request) → m ≡ kind.ActionRequest x → ⊥) → ((x : SetRequest) → m ≡ kind.SetRequest x → ⊥) → ((x : GetRequest) → m ≡ kind.GetRequest x → ⊥)
    → effect (told_of (told.Refused 24)) tag.writable out ≡ carried tag s m attributes out
unfolding carried told_of
carried_none _ s (kind.ActionRequest x) attributes out a b c = absurd (a x refl)
carried_none _ s (kind.ActionResponse x) attributes out a b c = refl
carried_none _ s (kind.EventRequest x) attributes out a b c = refl
carried_none _ s (kind.EventResponse x) attributes out a b c = refl
carried_none _ s (kind.SetRequest x) attributes out a b c = absurd (b x refl)
carried_none _ s (kind.SetResponse x) attributes out a b c = refl
carried_none _ s (kind.GetRequest x) attributes out a b c = absurd (c x refl)
carried_none _ s (kind.GetResponse x) attributes out a b c = refl
carried_none _ s (kind.Bst x) attributes out a b c = refl
carried_none _ s (kind.Vst x) attributes out a b c = refl

-- ---- the call

module _ (tag : Tag) (s out : List ℕ) (r : Reading) (h : Reads s r) where
  answered : (a : RequestAnswer) {w out' : List ℕ} → effect (told_of a.outcome) w out' ≡ requested tag s r out → Answered tag s out a w out'
  answered a e = record { reading = r; reads = h; is = e }

  pub answered_1 : length out < 512 → Answered tag s out (record { outcome = told.Refused 1 }) tag.writable out
  unfolding requested first_of told_of
  answered_1 n = answered _ (rw (lt-ltb (length out) 512 n))

  module _ (room : 512 ≤ length out) {b : Bool} (is : b ≡ sound_directory (length tag.factory) (length tag.writable) tag.directory) where
    pub answered_26 : not b ≡ true → Answered tag s out (record { outcome = told.Refused 26 }) tag.writable out
    unfolding requested first_of told_of
    answered_26 n = answered _ (rw (le-ltb (length out) 512 room, ← is, n))

    module _ (fine : not b ≡ false) where
      passed : requested tag s r out ≡ by_reading tag s r.answer r.lists.rows out
      unfolding requested first_of
      passed = rw (le-ltb (length out) 512 room, ← is, fine)

      pub answered_read : {k p : ℕ} → r.answer ≡ answer.Refused k p → Answered tag s out (record { outcome = told.RefusedAt k p }) tag.writable out
      unfolding by_reading told_of
      answered_read e = answered _ (rw (passed, e))

      module _ {m : Message} (e : r.answer ≡ answer.Message m) {v : Bool} (k : v ≡ served m) where
        pub answered_24 : not v ≡ true → Answered tag s out unserved tag.writable out
        unfolding by_reading told_of
        answered_24 n = answered _ (rw (passed, e, ← k, not-true v n))

        pub answered_served : not v ≡ false → (a : RequestAnswer) {w out' : List ℕ} → effect (told_of a.outcome) w out' ≡ carried tag s m r.lists.rows out → Answered tag s out a w out'
        unfolding by_reading
        answered_served n a g = answered a (rw (passed, e, ← k, not-false v n) g)

-- ---- the directory that was gathered

module _ (eid : ℕ) (credentials : List ℕ) (rows : List Row) (f w s out : List ℕ) (r : Reading) where
  abbrev lent : List Row → Tag
  lent l = tag_of eid credentials l f w

  gathered_requested : requested (lent (list_of (gathered rows))) s r out ≡ requested (lent rows) s r out
  unfolding requested first_of
  gathered_requested =
      by_cases (leb (length rows) 32)
      (λ t. ap (λ (l : List Row). requested (lent l) s r out) (gathered_few rows (leb-true (length rows) 32 t)))
      (λ t.
      let h = leb-false (length rows) 32 t in
      let u : sound_directory (length f) (length w) rows ≡ false = unsound (length f) (length w) rows h in
      let v : sound_directory (length f) (length w) (list_of (gathered rows)) ≡ false = gathered_many (length f) (length w) rows h ∙ u in
      by_cases (ltb (length out) 512) (λ k. rw k) (λ k. rw (k, u, v)))

pub gathered_answered : (eid : ℕ) (credentials : List ℕ) (rows : List Row) (f w s out : List ℕ) (a : RequestAnswer) (w' out' : List ℕ)
    → Answered (tag_of eid credentials (list_of (gathered rows)) f w) s out a w' out' → Answered (tag_of eid credentials rows f w) s out a w' out'
gathered_answered eid credentials rows f w s out a w' out' h =
    record {
      reading = h.reading;
      reads = h.reads;
      is = h.is ∙ gathered_requested eid credentials rows f w s out h.reading;
    }
