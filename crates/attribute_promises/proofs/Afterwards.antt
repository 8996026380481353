-- The writable area after any call: its length; the octets in no row that a SET names; those of a row, kept where no SET names it, kept where it is protected
-- and the SET has not the tag's exact credentials, and those of the last value where a SET was carried out, which a GET then gives.
-- Assumes nothing.
use Prim.Native.Nat.{ℕ, zero, suc, ◌+◌, ◌≤◌}
use mathlib.Core.Path.{◌≡◌, refl, ap, sym, ◌∙◌}
use mathlib.Core.Bool.{Bool, true, false, ◌&&◌}
use mathlib.Core.List.{List, [], ◌∷◌, ◌++◌, append-nil}
use native.Mathlib.Omega.{arith}
use lib.Dec.{eqb}
use lib.ListN.{length, take, drop}
use lib.Seq.{take-take}
use borrow.Author.Tests.{eqb-true, le-ltb, not-false}
use Rattle.refusals.specs.Check.{pick, first_of}
use Rattle.refusals.proofs.Tests.{by_test, first_none, and_true}
use Rattle.bits.specs.Strings.{is_inside, string_at}
use Rattle.bits.proofs.Strings.{length_string}
use Rattle.apdu_format.specs.Writing.{size}
use Rattle.apdu_format.proofs.Tests.{never, both}
use Rattle.apdu.specs.declared.lists.Lists.{Lists}
use Rattle.apdu.specs.declared.records.Message.TheVariants as kind
use Rattle.apdu.specs.declared.records.SetRequest.{SetRequest}
use Rattle.apdu.specs.declared.records.GetRequest.{GetRequest}
use Rattle.apdu.specs.Sound.{part_fits, parts_fit, nested, closes, rows_sound, sound_if, set_request_sound, sound}
use Rattle.apdu_reading.specs.declared.front.Answer.{Answer}
use Rattle.apdu_reading.specs.declared.front.Answer.TheVariants as answer
use Rattle.apdu_reading.specs.declared.front.Reading.{Reading}
use Rattle.apdu_reading.specs.Answers.{sound_by, SoundRecord, Reads}
use Rattle.apdu_reading.proofs.Encoded.{record_encodes}
use Rattle.directory.specs.Directory.{sound_directory, known_in, row_of}
use Rattle.attributes.specs.declared.answers.RequestAnswer.{RequestAnswer}
use Rattle.attributes.specs.Serving.{least_output, Attribute, Tag, replied, Effect, sent, too_long, exact, getting, set_faults, set_status, set_rows, setting, served, carried, by_reading, requested, value_of, values_in, rows_of, attributes_at, get_reply, Answered}
use Rattle.attributes.proofs.ValueReply.{count_ids}
use Rattle.attribute_promises.specs.Promises.{LengthKept, OctetKept, KeepsRow, RowKept, ProtectedKept, afterwards, SetGives, GetsOne, one_value, RepliesWith, SetThenGet}
use Rattle.attribute_promises.proofs.OneEffect.{case_of, case_of_law, answered_is, from_answered}
use Rattle.attribute_promises.proofs.Cases.{first_check, by_request}
use Rattle.attribute_promises.proofs.Repeated.{get_repeats}
use Rattle.attribute_promises.proofs.Replies.{values_by, Fine, sent_fine}
use Rattle.attribute_promises.proofs.GetValues.{value_fine}
use Rattle.attribute_promises.proofs.Promises.{sent_reads}
use Rattle.attribute_promises.proofs.Kept.{row_id, rows_length, fine_among, row_kept, octet_kept, unnamed_if, set_then_get}
use Rattle.attribute_promises.proofs.Kept.{Fine as FineSet}

-- ---- the values of a SET lie inside the request

enough : (rs : List Attribute) (n : ℕ) → closes n rs ≡ true → n ≤ length rs
unfolding closes
enough [] zero h = omega arith
enough [] (suc n) h = never h
enough (r ∷ rs) zero h = omega arith
enough (r ∷ rs) (suc n) h = let q = enough rs (nested r.kind r.n + n) h in omega arith

fit_take : (n k : ℕ) (rs : List Attribute) → parts_fit n rs ≡ true → parts_fit n (take k rs) ≡ true
unfolding parts_fit
fit_take n zero rs h = refl
fit_take n (suc k) [] h = refl
fit_take n (suc k) (r ∷ rs) h = let q = both (part_fits n r.kind r.n r.start) (parts_fit n rs) h in and_true q.0 (fit_take n k rs q.1)

short : (k : ℕ) (rs : List Attribute) → length (take k rs) ≤ k
short zero rs = omega arith
short (suc k) [] = omega arith
short (suc k) (r ∷ rs) = let q = short k rs in omega arith

-- the rows of a SET are inside, and those that its counts announce
set_rows_law : (n : ℕ) (m : SetRequest) (rs : List Attribute) → set_request_sound n m rs ≡ true
    → (parts_fit n (take m.rows rs) ≡ true) × (closes m.count (take m.rows rs) ≡ true)
unfolding set_request_sound rows_sound
set_rows_law n m rs h =
    let l = take m.rows rs in
    both (parts_fit n l) (closes m.count l) (both (sound_if m.has_credentials (is_inside n m.credentials m.credentials_length)) (parts_fit n l && closes m.count l) h).1

-- they stand at the front of its rows
named_front : (n : ℕ) (m : SetRequest) (rs : List Attribute) → set_request_sound n m rs ≡ true → take m.count (take m.rows rs) ≡ take m.count rs
named_front n m rs h =
    let l = take m.rows rs in
    let k : m.count ≤ m.rows = let a = enough l m.count (set_rows_law n m rs h).1 in let b = short m.rows rs in omega arith in
    take-take m.count m.rows rs k

set_fits : (n : ℕ) (m : SetRequest) (rs : List Attribute) → set_request_sound n m rs ≡ true → parts_fit n (take m.count rs) ≡ true
set_fits n m rs h = ap (parts_fit n) (sym (named_front n m rs h)) ∙ fit_take n m.count (take m.rows rs) (set_rows_law n m rs h).0

-- a SET that was read is sound
set_named : (a : Answer) (l : Lists) (n : ℕ) (m : SetRequest) → a ≡ answer.Message (kind.SetRequest m) → sound_by n l a → set_request_sound n m l.rows ≡ true
unfolding sound_by sound
set_named a l n m e h = rw e at h

-- ---- the call

module _ (tag : Tag) (s out : List ℕ) where
  abbrev sure_of : SetRequest → Bool
  sure_of m = exact s tag.credentials m.has_credentials m.credentials m.credentials_length

  sound_then : first_check tag out ≡ 0 → sound_directory (length tag.factory) (length tag.writable) tag.directory ≡ true
  sound_then z = not-false _ (first_none 25 _ [] (first_none 0 _ _ z).1).0

  no_fault : (m : SetRequest) (attributes : List Attribute) → set_status tag s m attributes ≡ 0 → first_of (set_faults tag.directory (sure_of m) (take m.count attributes)) ≡ 0
  unfolding set_status
  no_fault m attributes z = (first_none 1 _ _ z).1

  -- what holds of the writable area, and of it behind a SET without a fault, holds of it behind any call
  module _ (r : Reading) (h : SoundRecord s r) (Q : List ℕ → Type 0) (now : Q tag.writable)
      (set : (m : SetRequest) → r.answer ≡ answer.Message (kind.SetRequest m) → sound_directory (length tag.factory) (length tag.writable) tag.directory ≡ true
      → first_of (set_faults tag.directory (sure_of m) (take m.count r.lists.rows)) ≡ 0 → parts_fit (length s) (take m.count r.lists.rows) ≡ true
      → Q (set_rows s tag.directory (take m.count r.lists.rows) tag.writable)) where
    area_after : Q (requested tag s r out).writable
    unfolding setting sent
    area_after =
        by_request tag s out (λ (e : Effect). Q e.writable) (λ q. now) (λ k. now) (λ k p. now) r
        (λ t m e. by_test (λ (z : Effect). Q z.writable) m.mode (λ u. area t m e) (λ u. area t m e))
      where
        area : eqb (first_check tag out) 0 ≡ true → (m : SetRequest) → r.answer ≡ answer.Message (kind.SetRequest m)
            → Q (pick (eqb (set_status tag s m r.lists.rows) 0) (set_rows s tag.directory (take m.count r.lists.rows) tag.writable) tag.writable)
        area t m e =
            by_test Q (eqb (set_status tag s m r.lists.rows) 0)
            (λ z.
            set m e (sound_then (eqb-true _ _ t)) (no_fault m r.lists.rows (eqb-true _ _ z))
            (set_fits (length s) m r.lists.rows (set_named r.answer r.lists (length s) m e h.is)))
            (λ z. now)

  -- ---- a SET that is carried out

  module _ (r : Reading) (a : Attribute) (h : SoundRecord s r) (g : SetGives tag s r out a) where
    none : first_check tag out ≡ 0
    unfolding first_of
    none = rw (le-ltb (length out) least_output g.room, g.sound)

    area_set : (requested tag s r out).writable ≡ set_rows s tag.directory (take g.m.count r.lists.rows) tag.writable
    unfolding requested by_reading served carried setting sent
    area_set =
        rw (none, g.is)
        (by_test (λ (e : Effect). e.writable ≡ set_rows s tag.directory (take g.m.count r.lists.rows) tag.writable) g.m.mode (λ t. rw g.fine) (λ t. rw g.fine))

    inside : parts_fit (length s) (take g.m.count r.lists.rows) ≡ true
    inside = set_fits (length s) g.m r.lists.rows (set_named r.answer r.lists (length s) g.m g.is h.is)

    no_fault_listed : first_of (set_faults tag.directory (sure_of g.m) (g.before ++ (a ∷ g.behind))) ≡ 0
    no_fault_listed = ap (λ (l : List Attribute). first_of (set_faults tag.directory (sure_of g.m) l)) (sym g.list) ∙ no_fault g.m r.lists.rows g.fine

    fine_set : FineSet tag.directory (sure_of g.m) a
    fine_set = fine_among tag.directory (sure_of g.m) a g.before g.behind no_fault_listed

    value_set : value_of tag.factory (requested tag s r out).writable (row_of a.id tag.directory) ≡ string_at s a.start a.n
    value_set =
        ap (λ (w : List ℕ). value_of tag.factory w (row_of a.id tag.directory))
        (area_set ∙ ap (λ (l : List Attribute). set_rows s tag.directory l tag.writable) g.list)
        ∙ set_then_get s tag.directory (sure_of g.m) tag.factory a g.behind g.last g.before tag.writable g.sound no_fault_listed
        (ap (parts_fit (length s)) (sym g.list) ∙ inside)

-- ---- a GET of one row

module _ (tag : Tag) (t out : List ℕ) (q : Reading) (reads : Reads t q) (id : ℕ) (m : GetRequest) (g : GetsOne tag t q out id m)
    (fine : sound_directory (length tag.factory) (length tag.writable) tag.directory ≡ true) where
  one : m.count ≡ 1
  one = sym (count_ids t m.ids m.count) ∙ ap length g.ids

  reply_fine : Fine (get_reply tag t m)
  reply_fine =
      value_fine tag t m fine (omega (arith, one))
      (get_repeats t m q.lists.entries q.lists.rows (record_encodes t q reads.outcome (kind.GetRequest m) g.is).ranges)
      one

  outcome_is : (sent (get_reply tag t m) tag.writable out).outcome ≡ replied (size (values_by (get_reply tag t m)))
  outcome_is = sent_fine (get_reply tag t m) reply_fine tag.writable out g.room

  not_long : too_long (sent (get_reply tag t m) tag.writable out).outcome ≡ false
  unfolding too_long
  not_long = ap too_long outcome_is

  get_sent : requested tag t q out ≡ sent (get_reply tag t m) tag.writable out
  unfolding requested by_reading served carried getting first_of
  get_sent = rw (le-ltb (length out) least_output g.room, fine, g.is, g.fine, not_long)

  -- its reply, with the value of the row
  reply_is : known_in id tag.directory ≡ true → (v : List ℕ) → (row_of id tag.directory).length ≡ length v → value_of tag.factory tag.writable (row_of id tag.directory) ≡ v
      → get_reply tag t m ≡ one_value m id v
  unfolding get_reply one_value rows_of values_in attributes_at
  reply_is k v l e = rw (g.ids, one, append-nil (value_of tag.factory tag.writable (row_of id tag.directory)), e, row_id tag.directory id k, l)

  get_replies : (v : List ℕ) → get_reply tag t m ≡ one_value m id v → {a : RequestAnswer} {w o : List ℕ} → Answered tag t out a w o → RepliesWith (one_value m id v) a o
  unfolding case_of
  get_replies v e {a} {w} {o} x =
      let n = size (values_by (get_reply tag t m)) in
      let i = answered_is x q reads ∙ get_sent in
      record {
        n = n;
        is = case_of_law a.outcome (ap (λ (z : Effect). z.outcome) i ∙ outcome_is);
        reads = rw (← e, ap (λ (z : Effect). z.output) i) (sent_reads (get_reply tag t m) tag.writable out n outcome_is);
      }

-- ---- the promises

pub length_kept : LengthKept
unfolding LengthKept
length_kept tag s out a w o x =
    let r = x.reading in
    let Q : List ℕ → Type 0 = λ l. length l ≡ length tag.writable in
    from_answered x r x.reads (λ (e : Effect). Q e.writable)
    (area_after tag s out r x.reads.sound Q refl (λ m e d z i. rows_length s tag.directory (take m.count r.lists.rows) tag.writable))

pub octet_kept_always : OctetKept
unfolding OctetKept
octet_kept_always tag s out a w o x r reads n u =
    let Q : List ℕ → Type 0 = λ l. take 1 (drop n l) ≡ take 1 (drop n tag.writable) in
    from_answered x r reads (λ (e : Effect). Q e.writable)
    (area_after tag s out r reads.sound Q refl
    (λ m e d z i. octet_kept s tag.directory (sure_of tag s out m) tag.factory n (take m.count r.lists.rows) tag.writable d z i (u m e)))

pub row_kept_always : RowKept
unfolding RowKept
row_kept_always tag s out a w o x r reads id k u =
    from_answered x r reads (λ (e : Effect). KeepsRow tag id e.writable)
    (area_after tag s out r reads.sound (KeepsRow tag id) (record { so = refl })
    (λ m e d z i. record { so = row_kept s tag.directory (sure_of tag s out m) tag.factory id k (take m.count r.lists.rows) tag.writable d z i (u m e) }))

pub protected_kept_always : ProtectedKept
unfolding ProtectedKept
protected_kept_always tag s out a w o x r reads id k p without =
    from_answered x r reads (λ (e : Effect). KeepsRow tag id e.writable)
    (area_after tag s out r reads.sound (KeepsRow tag id) (record { so = refl })
    (λ m e d z i.
    let l = take m.count r.lists.rows in
    let u = unnamed_if tag.directory id p l (ap (λ (b : Bool). first_of (set_faults tag.directory b l)) (sym (without m e)) ∙ z) in
    record { so = row_kept s tag.directory (sure_of tag s out m) tag.factory id k l tag.writable d z i u }))

pub set_then_get_always : SetThenGet
unfolding SetThenGet LengthKept
set_then_get_always tag s out a w o x r reads at g t out' b w' o' y q reads' m get =
    let later = afterwards tag w in
    let d : sound_directory (length later.factory) (length later.writable) later.directory ≡ true =
    ap (λ (n : ℕ). sound_directory (length tag.factory) n tag.directory) (length_kept tag s out a w o x) ∙ g.sound in
    let f = fine_set tag s out r at reads.sound g in
    let v = string_at s at.start at.n in
    let e : value_of tag.factory w (row_of at.id tag.directory) ≡ v =
    ap (λ (z : Effect). value_of tag.factory z.writable (row_of at.id tag.directory)) (answered_is x r reads) ∙ value_set tag s out r at reads.sound g in
    get_replies later t out' q reads' at.id m get d v
    (reply_is later t out' q reads' at.id m get d f.known v (sym f.whole ∙ sym (length_string s at.start at.n)) e) y
