-- The application lists of a message, one after the other.
-- Assumes nothing.
use Prim.Native.Nat.{ℕ, zero, suc, ◌+◌, ◌≤◌, ◌<◌}
use mathlib.Core.Path.{◌≡◌, refl, ap, sym, ◌∙◌}
use mathlib.Core.List.{List, [], ◌∷◌, ◌++◌}
use mathlib.Core.Bool.{Bool, true, ◌||◌}
use native.Mathlib.Nat.{zero-add}
use native.Mathlib.Omega.{arith}
use lib.ListN.{length, get_or, take, drop, replicate, take-append-drop}
use lib.Seq.{take-take}
use lib.Dec.{eqb}
use Rattle.apdu_format.specs.Component.{entry_count, entry}
use Rattle.apdu_format.specs.Rules.{when, times}
use Rattle.apdu.specs.declared.lists.Row.{Row}
use Rattle.apdu.specs.declared.lists.Entry.{Entry}
use Rattle.apdu.specs.Values.{num, if, entries_values, rows_of, list_values, empty_row, empty_entry}
use Rattle.apdu.proofs.Laws.{zero_tidy, own_sound, rows_of_append}
use Rattle.apdu_reading.specs.declared.cursor.Cursor.{Cursor}
use Rattle.apdu_reading.specs.Cursor.{ReadsTo}
use Rattle.apdu_reading.specs.Lists.{between}
use Rattle.apdu_reading.specs.Applications.{CountMaybe, ListsWhole}
use Rattle.apdu_reading.proofs.Stores.{Applications, counted, StoreReady, Stored, Listed, Both, Upto}
use Rattle.apdu_reading.proofs.Chains.{valued, then, clean}
use Rattle.apdu_reading.proofs.Boxes.{and_then, found_nothing, if_join, unused}

-- ---- an application list

pub list_ready : (s : List ℕ) (p : Bool) (base : ℕ) (a : Applications) → StoreReady base a → {d : Cursor} → CountMaybe s p a.rows.cursor d
    → StoreReady base (counted a d)
list_ready s p base a o m =
    let f = o.free in
    record {
      free = record { sum = λ z. let b = f.sum (m.clean z) in let r = m.room in omega arith; rest = f.rest; long = f.long; few = f.few };
      rest = o.rest;
      long = o.long;
      each = λ z j. o.each (m.clean z) j;
    }

listed : {s : List ℕ} {p : Bool} {base : ℕ} {a : Applications} {d : Cursor} → CountMaybe s p a.rows.cursor d
    → {r : Applications} → Stored s base (counted a d) d.value r → Listed s p base a d.value r
listed {d = d} m t = record { begin = d; leads = m.leads; small = m.small; absent = m.absent; stored = t }

list_reads : (s : List ℕ) (p : Bool) (base : ℕ) (a : Applications) (n : ℕ) (r : Applications) → Listed s p base a n r
    → ReadsTo s (when p (entry_count ∷ [])) a.rows.cursor r.rows.cursor
    (if p (num n ∷ entries_values s (between base (base + n) r.entries) (between a.rows.used r.rows.used r.rows.rows)))
unfolding times
list_reads s p base a n r l =
    valued (λ g. if_join p (num n ∷ []) _ (λ z. found_nothing (rw (ap (λ (k : ℕ). times k (entry ∷ [])) (l.absent z)) at l.stored.reads) g))
    (and_then l.leads l.stored.reads)

-- ---- lists with nothing in them

pub empty_entry_law : (n j : ℕ) → get_or (replicate n empty_entry) j empty_entry ≡ empty_entry
empty_entry_law zero j = refl
empty_entry_law (suc n) zero = refl
empty_entry_law (suc n) (suc j) = empty_entry_law n j

abbrev apps : Cursor → List Row → List Entry → Applications
apps c rows es = record { rows = record { cursor = c; used = 0; rows = rows }; entries = es }

pub nothing_stored : (c : Cursor) {rows : List Row} {es : List Entry} → rows ≡ replicate 32 empty_row → es ≡ replicate 32 empty_entry → c.room ≡ 32
    → StoreReady 0 (apps c rows es)
nothing_stored c e f r =
    rw (e, f)
    (record {
      free = record { sum = λ z. omega arith; rest = unused; long = refl; few = omega arith };
      rest = record { rest = λ j w. empty_entry_law 32 j };
      long = refl;
      each = λ z j. rw (empty_entry_law 32 j) (zero_tidy, record { are = λ q. (refl, (refl, (refl, (refl, tt)))) }, zero_tidy);
    })

-- ---- what is stored is what the record's values say

take_none : {A : Type 0} (n : ℕ) → take {A = A} n [] ≡ []
take_none zero = refl
take_none (suc n) = refl

drop_none : {A : Type 0} (n : ℕ) → drop {A = A} n [] ≡ []
drop_none zero = refl
drop_none (suc n) = refl

take_between : {A : Type 0} (i n : ℕ) (l : List A) → between i (i + n) l ≡ take n (drop i l)
take_between zero n l = rw (zero-add n)
take_between (suc i) n [] = ap (drop (suc i)) (take_none (suc i + n)) ∙ drop_none (suc i) ∙ sym (ap (take n) (drop_none (suc i)) ∙ take_none n)
take_between (suc i) n (a ∷ l) = let e : suc i + n ≡ suc (i + n) = omega arith in rw e (take_between i n l)

module _ (s : List ℕ) (p : Bool) (c : Cursor) {rows : List Row} {es : List Entry} {m o : ℕ} {r : Applications}
    (b : Both s p (apps c rows es) m o r) where
  abbrev before : Applications
  before = b.list

  abbrev own : List Entry
  own = take o (drop m r.entries)

  first_kept : take m r.entries ≡ take m before.entries
  first_kept = b.second.stored.kept

  first_count : rows_of (take m r.entries) ≡ before.rows.used
  first_count = rw first_kept (sym (zero-add (rows_of (take m before.entries))) ∙ rw (zero-add m) at b.first.stored.rows)

  own_entries : between m (m + o) r.entries ≡ own
  own_entries = take_between m o r.entries

  own_count : before.rows.used + rows_of own ≡ r.rows.used
  own_count = rw own_entries at b.second.stored.rows

  own_rows : between before.rows.used r.rows.used r.rows.rows ≡ take (rows_of own) (drop (rows_of (take m r.entries)) r.rows.rows)
  own_rows =
      ap (λ (n : ℕ). between before.rows.used n r.rows.rows) (sym own_count)
      ∙ take_between before.rows.used (rows_of own) r.rows.rows ∙ rw first_count

  first_values : num m ∷ entries_values s (between 0 (0 + m) before.entries) (between 0 before.rows.used before.rows.rows)
      ≡ list_values s m (take m r.entries) r.rows.rows
  first_values = rw (zero-add m, first_count, first_kept, b.second.stored.grown.kept)

  second_values : num o ∷ entries_values s (between m (m + o) r.entries) (between before.rows.used r.rows.used r.rows.rows)
      ≡ list_values s o own (drop (rows_of (take m r.entries)) r.rows.rows)
  second_values = rw (own_rows, own_entries)

  both_count : rows_of (take (m + o) r.entries) ≡ r.rows.used
  both_count =
      let new = between m (m + o) r.entries in
      let w : take (m + o) r.entries ≡ take m r.entries ++ new =
      sym (take-append-drop m (take (m + o) r.entries)) ∙ ap (λ (l : List Entry). l ++ new) (take-take m (m + o) r.entries (omega arith)) in
      rw (w, rows_of_append, first_count) b.second.stored.rows

  pub both_whole : ListsWhole s p c m o r.rows.cursor (record { entries = r.entries; rows = r.rows.rows })
  both_whole =
      let q = b.second.stored in
      let first = list_reads s true 0 (apps c rows es) m before b.first in
      let second = list_reads s p m before o r b.second in
      record {
        reads = λ rest. then (valued (λ g. first_values) first) (then (valued (λ g. ap (if p) second_values) second) rest);
        first = λ g. rw (first_count, first_kept, q.grown.kept) (rw (zero-add m) at (b.first.stored.sound (clean second g)));
        second = λ g.
            own_sound (length s) own (drop (rows_of (take m r.entries)) r.rows.rows) ∙ rw (← own_rows) (rw own_entries at (q.sound g));
        tidy = λ g. record { each = q.ready.each g; entries = q.ready.rest; rows = rw both_count q.ready.free.rest };
        absent = b.second.absent;
        few = let w = q.ready.free.few in let e = first_count in let u = own_count in omega arith;
        rows = q.ready.free.long;
        entries = q.ready.long;
      }

-- ---- round by round

module _ (s : List ℕ) (p : Bool) (a : Applications) where
  pub none_read : StoreReady 0 a → Upto s p a 0 0 0 a
  unfolding Upto
  none_read o = (refl, o, refl)

  module _ (m o : ℕ) (r : Applications) where
    pub upto_ready : (k : ℕ) → k < 2 → Upto s p a k m o r → StoreReady (m + o) r × (m + o ≤ 16)
    unfolding Upto
    upto_ready zero h u = (rw u.0 u.1, omega (arith, u.0))
    upto_ready (suc zero) h u =
        let e : m + o ≡ 0 + o = omega (arith, u.0) in (rw e u.1.stored.ready, omega (arith, u.0, u.1.small))
    upto_ready (suc (suc k)) h u = absurd (omega arith)

    pub upto_more : (k : ℕ) → k < 2 → Upto s p a k m o r → {d : Cursor} → CountMaybe s (eqb k 0 || p) r.rows.cursor d → {t : Applications}
        → Stored s (m + o) (counted r d) d.value t → Upto s p a (k + 1) (m + o) d.value t
    unfolding Upto
    upto_more zero h u n st = (u.0, rw (u.0, u.2) at (listed n st))
    upto_more (suc zero) h u n st = let e : m + o ≡ o = omega (arith, u.0) in record { list = r; first = rw e u.1; second = listed n st }
    upto_more (suc (suc k)) h u n st = absurd (omega arith)

    pub upto_both : (k : ℕ) → 2 ≤ k → Upto s p a k m o r → Both s p a m o r
    unfolding Upto
    upto_both zero h u = absurd (omega arith)
    upto_both (suc zero) h u = absurd (omega arith)
    upto_both (suc (suc k)) h u = u
