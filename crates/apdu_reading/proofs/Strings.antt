-- Strings and lists of ids, component by component.
-- Assumes nothing.
use Prim.Native.Nat.{ℕ, zero, suc, ◌+◌, ◌*◌, ◌≤◌, ◌<◌}
use mathlib.Core.Path.{◌≡◌, refl, ap, sym, ◌∙◌}
use mathlib.Core.List.{List, [], ◌∷◌, ◌++◌, append_assoc, append-nil}
use mathlib.Core.Bool.{Bool, true, false}
use native.Mathlib.Nat.{add-zero}
use native.Mathlib.Numerals.{add-one}
use native.Mathlib.Omega.{arith}
use lib.ListN.{length, drop}
use lib.Dec.{leb, eqb}
use borrow.Author.Tests.{le-leb, eqb-false}
use Rattle.refusals.specs.Check.{pick, first_of}
use Rattle.bits.specs.Bits.{bits, number, field, read_field}
use Rattle.bits.proofs.Laws.{field_lt}
use Rattle.apdu_format.specs.Component.{Component, integer, string_form, string_length, string_octets, id_count, list_start}
use Rattle.apdu_format.specs.Rules.{shape, checks_of, brings, times, announced}
use Rattle.apdu_format.specs.Reading.{Value, fields, string, numbers_of, sum, need, fields_of, value_at}
use Rattle.apdu.specs.Values.{num, str, ids_at, id_list}
use Rattle.apdu_reading.specs.declared.cursor.Cursor.{Cursor}
use Rattle.bits.specs.Strings.{is_inside}
use Rattle.apdu_reading.specs.Cursor.{cursor, state_of, component, marked_at, ReadsTo, Inside}
use Rattle.apdu_reading.proofs.Pieces.{sees, good, fine, room_kept, piece_read}
use Rattle.apdu_reading.proofs.Components.{count_extended, start_is}
use Rattle.apdu_reading.proofs.Numbers.{integer_extended, extended_read, extended_saw}
use Rattle.apdu_reading.proofs.Chains.{Same, same, itself, valued, nothing, then, saying, still, clean, enter, alone}

-- an integer by itself
pub integer_reads : (s : List ℕ) (c : Cursor) {d : Cursor} → d ≡ component s integer c → ReadsTo s (integer ∷ []) c d (num d.value ∷ [])
unfolding brings
integer_reads s c {d} e =
    rw e (valued (λ h. ap (λ (v : Value). v ∷ []) (extended_saw integer_extended s c h)) (alone s integer c refl refl))

pub fault_of_law : {d e : Cursor} → d ≡ e → d.fault ≡ 0 → e.fault ≡ 0
fault_of_law p h = sym (ap (λ (q : Cursor). q.fault) p) ∙ h

pub room_of : (s : List ℕ) (i : Component) (c : Cursor) {d : Cursor} → ((fs : List ℕ) → announced i fs ≡ 0) → d ≡ component s i c → d.room ≡ c.room
room_of s i c a e = ap (λ (q : Cursor). q.room) e ∙ room_kept s i c a

pub integer_room : (s : List ℕ) (c : Cursor) {d : Cursor} → d ≡ component s integer c → d.room ≡ c.room
unfolding announced
integer_room s c e = room_of s integer c (λ fs. refl) e

-- ---- strings

-- the value of the bits of one field
pub piece_number : (s : List ℕ) (at w : ℕ) → w ≤ 48 → read_field s at w ≡ number w (drop at (bits s))
unfolding read_field field
piece_number s at w h = let l : leb w 48 ≡ true = le-leb _ _ h in rw l

module _ (s : List ℕ) (c : Cursor) {f l o : Cursor} (x : f ≡ component s string_form c) (y : l ≡ component s string_length f) (z : o ≡ component s (string_octets l.value) l) where
  form_saw : f.fault ≡ 0 → sees s string_form c ≡ fields (0 ∷ [])
  unfolding shape value_at fields_of numbers_of checks_of first_of need sum
  form_saw h =
      let g = good s string_form c (fault_of_law x h) in
      let n = number 1 (drop c.at (bits s)) in
      let k : n < 2 = unfold field in field_lt s c.at 1 in
      let u : n ≡ 1 → ⊥ = eqb-false n 1 (unset (eqb n 1) g.right) in
      let e : n ≡ 0 = omega arith in
      rw e
    where
      unset : (b : Bool) → ◌≡◌ {A = ℕ} (pick b 16 0) 0 → b ≡ false
      unset true h = absurd (omega arith)
      unset false h = refl

  length_value : l.fault ≡ 0 → l.value ≡ number 7 (drop f.at (bits s))
  unfolding shape need sum
  length_value h =
      let g = good s string_length f (fault_of_law y h) in
      ap (λ (q : Cursor). q.value) (y ∙ fine s string_length f g.clean g.there g.right) ∙ piece_number s f.at 7 (omega arith)

  length_saw : l.fault ≡ 0 → sees s string_length f ≡ fields (l.value ∷ [])
  unfolding shape value_at fields_of
  length_saw h = rw (length_value h)

  octets_reads : ReadsTo s (string_octets l.value ∷ []) l o (sees s (string_octets l.value) l ∷ [])
  unfolding brings
  octets_reads = alone s (string_octets l.value) l z refl

  length_reads : ReadsTo s (string_length ∷ []) f o (sees s string_length f ∷ sees s (string_octets l.value) l ∷ [])
  unfolding brings numbers_of
  length_reads = enter string_length f y (λ h. rw (length_saw h) octets_reads) (λ h. still octets_reads h)

  form_reads : ReadsTo s (string_form ∷ []) c o (sees s string_form c ∷ sees s string_length f ∷ sees s (string_octets l.value) l ∷ [])
  unfolding brings
  form_reads = enter string_form c x (λ h. length_reads) (λ h. still length_reads h)

  pub string_reads : ReadsTo s (string_form ∷ []) c (marked_at o l.value l.at) (str s l.at l.value)
  unfolding marked_at shape value_at
  string_reads =
      saying
      (valued
      (λ h.
      let a : l.fault ≡ 0 = clean octets_reads h in
      let b : f.fault ≡ 0 = clean length_reads h in
      rw (form_saw b, length_saw a))
      form_reads)
      (same o l.value l.at)

  pub string_room : o.room ≡ c.room
  unfolding announced
  string_room =
      room_of s (string_octets l.value) l (λ fs. refl) z ∙ room_of s string_length f (λ fs. refl) y ∙ room_of s string_form c (λ fs. refl) x

  pub string_inside : Inside s true (marked_at o l.value l.at)
  unfolding marked_at shape need is_inside
  string_inside = record { so = λ h. le-leb _ _ (good s (string_octets l.value) l (fault_of_law z h)).there }

-- ---- lists of ids

pub times_snoc : (n : ℕ) (is : List Component) → times (suc n) is ≡ times n is ++ is
unfolding times
times_snoc zero is = append-nil is
times_snoc (suc n) is = ap (λ (x : List Component). is ++ x) (times_snoc n is) ∙ sym (append_assoc is (times n is) is)

-- i ids behind d
pub record Ids (s : List ℕ) (d : Cursor) (i : ℕ) (e : Cursor) : Type 0 where
  pub reads : ReadsTo s (times i (integer ∷ [])) d e (ids_at s d.at i)
  pub at : e.fault ≡ 0 → e.at ≡ d.at + 8 * i
  pub there : e.fault ≡ 0 → d.at ≤ 8 * length s → e.at ≤ 8 * length s
  pub room : e.room ≡ d.room

pub ids_none : (s : List ℕ) (d : Cursor) → Ids s d 0 d
unfolding times ids_at
ids_none s d = record { reads = nothing s (itself d); at = λ h. omega arith; there = λ h k. k; room = refl }

module _ (s : List ℕ) (d : Cursor) (i : ℕ) {e f : Cursor} (p : Ids s d i e) (x : f ≡ component s integer e) where
  one_reads : ReadsTo s (integer ∷ []) e f (sees s integer e ∷ [])
  unfolding brings
  one_reads = alone s integer e x refl

  one_at : f.fault ≡ 0 → (f.at ≡ e.at + 8) × (e.at ≡ d.at + 8 * i)
  one_at h =
      let r = extended_read integer_extended s e (fault_of_law x h) in
      (ap (λ (q : Cursor). q.at) (x ∙ r.is), p.at r.clean)

  pub ids_more : Ids s d (i + 1) f
  unfolding ids_at
  ids_more =
      rw add-one
      (record {
        reads = rw (times_snoc i (integer ∷ [])) (valued (λ h. rw (one_at h).1) (then p.reads one_reads));
        at = λ h. let a = one_at h in omega (arith, a.0, a.1);
        there = λ h k. omega (arith, (one_at h).0, (extended_read integer_extended s e (fault_of_law x h)).there);
        room = integer_room s e x ∙ p.room;
      })

module _ (s : List ℕ) (c : Cursor) {d : Cursor} (x : d ≡ component s id_count c) where
  start_there : d.fault ≡ 0 → (d.at + 0 ≤ 8 * length s) × (d.position ≡ 0)
  start_there h =
      let r = extended_read count_extended s c (fault_of_law x h) in
      let e = x ∙ r.is in
      let a : d.at ≡ c.at + 8 = ap (λ (q : Cursor). q.at) e in
      (omega (arith, r.there), ap (λ (q : Cursor). q.position) e)

  start_moved : d.fault ≡ 0 → component s list_start d ≡ cursor (d.at + 0) d.begun d.room 0 0 (read_field s d.at 0) 0
  start_moved h = sym (start_is s d) ∙ piece_read s 0 false d h (start_there h).0

  start_same : (h : d.fault ≡ 0) → Same (cursor (d.at + 0) d.begun d.room 0 0 (read_field s d.at 0) 0) d
  unfolding state_of
  start_same h = record { so = λ log. rw (add-zero d.at, h, (start_there h).1) }

  -- where the ids start
  start_reads : d.fault ≡ 0 → ReadsTo s (list_start ∷ []) d d (string d.at [] ∷ [])
  unfolding brings shape value_at
  start_reads h = saying (alone s list_start d refl refl) (rw (start_moved h) (start_same h))

  module _ (n : ℕ) {e : Cursor} (p : Ids s d n e) (all : n ≡ d.value) where
    count_saw : d.fault ≡ 0 → sees s id_count c ≡ num n
    count_saw h = extended_saw count_extended s c (fault_of_law x h) ∙ ap (λ (q : Cursor). num q.value) (sym x) ∙ ap num (sym all)

    ids_reads : d.fault ≡ 0 → ReadsTo s (brings id_count (numbers_of (sees s id_count c))) d e ((string d.at [] ∷ []) ++ ids_at s d.at n)
    unfolding brings numbers_of
    ids_reads h = rw (count_saw h) (then (start_reads h) p.reads)

    pub list_reads : ReadsTo s (id_count ∷ []) c (marked_at e n d.at) (id_list s d.at n)
    unfolding marked_at
    list_reads =
        saying (valued (λ h. let a : d.fault ≡ 0 = clean p.reads h in rw (count_saw a)) (enter id_count c x ids_reads (λ h. still p.reads h))) (same e n d.at)

    pub list_inside : Inside s true (marked_at e n d.at)
    unfolding marked_at is_inside
    list_inside =
        record {
          so = λ h.
              let z = (start_there (clean p.reads h)).0 in
              let w = p.there h (omega arith) in
              le-leb (d.at + 8 * n) (8 * length s) (omega (arith, p.at h));
        }

    pub list_room : e.room ≡ c.room
    unfolding announced
    list_room = p.room ∙ room_of s id_count c (λ fs. refl) x

-- ---- what the functions ensure

-- a string is read, with its length and its start
pub string_by : (s : List ℕ) (c : Cursor) {f l o r : Cursor} → f ≡ component s string_form c → l ≡ component s string_length f → o ≡ component s (string_octets l.value) l
    → r ≡ marked_at o l.value l.at → l.value < 128
    → ReadsTo s (string_form ∷ []) c r (str s r.start r.value) × (r.value < 128) × (r.room ≡ c.room) × Inside s true r
unfolding marked_at
string_by s c x y z m k = rw m (string_reads s c x y z, k, string_room s c x y z, string_inside s c x y z)

pub list_by : (s : List ℕ) (c : Cursor) {d : Cursor} → d ≡ component s id_count c → (n : ℕ) {e r : Cursor} → Ids s d n e → n ≡ d.value
    → r ≡ marked_at e d.value d.at → d.value ≤ 16
    → ReadsTo s (id_count ∷ []) c r (id_list s r.start r.value) × (r.value < 128) × (r.room ≡ c.room) × Inside s true r
unfolding marked_at
list_by s c {d} x n {e} p all m k =
    let v : marked_at e d.value d.at ≡ marked_at e n d.at = ap (λ (v : ℕ). marked_at e v d.at) (sym all) in
    rw (m ∙ v) (list_reads s c x n p all, omega arith, list_room s c x n p all, list_inside s c x n p all)
