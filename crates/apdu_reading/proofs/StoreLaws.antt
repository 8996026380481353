-- Entries stored one by one, each with its rows.
-- Assumes nothing.
use Prim.Native.Nat.{ℕ, ◌+◌, ◌-◌, ◌≤◌, ◌<◌}
use mathlib.Core.Path.{◌≡◌, refl, ap, sym, ◌∙◌}
use mathlib.Core.List.{List, [], ◌∷◌, ◌++◌, append-nil}
use mathlib.Core.Bool.{Bool, true, false}
use native.Mathlib.Numerals.{add-one}
use native.Mathlib.Nat.{add-zero, le_antisymm}
use native.Mathlib.Omega.{arith}
use lib.ListN.{length, get_or, take, drop, set, length-set, length-drop, take-append-drop}
use lib.Seq.{drop-append-le, take-take, length-take-le, take-set-le, get_or-set_same, get_or-set_other}
use lib.Dec.{eqb}
use borrow.Author.Tests.{eqb-true, eqb-false}
use Rattle.refusals.proofs.Tests.{by_cases}
use Rattle.bits.specs.Bits.{bits}
use Rattle.apdu_format.specs.Component.{Component, entry, entry_count}
use Rattle.apdu_format.specs.Rules.{brings, times, announced}
use Rattle.apdu_format.specs.Reading.{numbers_of, runs}
use Rattle.apdu.specs.declared.lists.Entry.{Entry}
use Rattle.apdu.specs.Values.{num, entry_values, entries_values, entry_rows, rows_of, empty_entry}
use Rattle.apdu.specs.Tidy.{entry_tidy}
use Rattle.apdu.specs.Sound.{entries_sound}
use Rattle.apdu.proofs.Laws.{rows_of_snoc, entries_more, sound_more}
use Rattle.apdu_reading.specs.declared.cursor.Cursor.{Cursor}
use Rattle.apdu_reading.specs.declared.rows.Rows.{Rows}
use Rattle.apdu_reading.specs.declared.applications.EntryRead.{EntryRead}
use Rattle.apdu_reading.specs.Cursor.{state_of, component, marked_at}
use Rattle.apdu_reading.specs.Lists.{Leads, between}
use Rattle.apdu_reading.specs.Applications.{Grown, EntryWhole, CountMaybe}
use Rattle.apdu_reading.proofs.Stores.{Applications, StoreReady, Stored}
use Rattle.apdu_reading.proofs.Pieces.{sees, silent}
use Rattle.apdu_reading.proofs.Components.{entries_extended}
use Rattle.apdu_reading.proofs.Numbers.{extended_read, extended_saw}
use Rattle.apdu_reading.proofs.Chains.{more, state_log, itself, nothing, then, clean}
use Rattle.apdu_reading.proofs.Strings.{fault_of_law, room_of, times_snoc}
use Rattle.apdu_reading.proofs.Containers.{one}
use Rattle.apdu_reading.proofs.Fill.{between_none, between_snoc}

-- ---- lists of entries

-- what was stored before, and then what is new
between_join : {A : Type 0} (i j k : ℕ) (l m : List A) → i ≤ j → j ≤ k → k ≤ length m → take j m ≡ take j l → between i k m ≡ between i j l ++ between j k m
between_join i j k l m a b c e =
    let n : length (take j m) ≡ j = length-take-le j m (omega arith) in
    let w : take k m ≡ take j m ++ between j k m = sym (take-append-drop j (take k m)) ∙ ap (λ (x : List _). x ++ drop j (take k m)) (take-take j k m b) in
    ap (drop i) w ∙ drop-append-le i (take j m) (between j k m) (omega arith) ∙ ap (λ (x : List _). drop i x ++ between j k m) e

length_between : {A : Type 0} (j k : ℕ) (m : List A) → k ≤ length m → length (between j k m) ≡ k - j
length_between j k m h = let n : length (take k m) ≡ k = length-take-le k m h in length-drop j (take k m) ∙ rw n

-- ---- the loop

abbrev apps : Rows → List Entry → Applications
apps r l = record { rows = r; entries = l }

pub stored_none : (s : List ℕ) (base : ℕ) (a : Applications) → StoreReady base a → Stored s base a 0 a
unfolding times entries_values rows_of entries_sound
stored_none s base a p =
    let z : base + 0 ≡ base = add-zero base in
    record {
      reads = rw (z, between_none base a.entries) (nothing s (itself a.rows.cursor));
      grown = record { free = p.free; more = omega arith; kept = refl };
      sound = λ h. rw (z, between_none base a.entries);
      ready = rw z p;
      rows = rw (z, between_none base a.entries) (omega arith);
      kept = refl;
    }

grown_on : (r q t : Rows) → Grown r q → Grown q t → Grown r t
grown_on r q t g h =
    record {
      free = h.free;
      more = let a = g.more in let b = h.more in omega arith;
      kept = sym (take-take r.used q.used t.rows g.more) ∙ ap (take r.used) h.kept ∙ take-take r.used q.used q.rows g.more ∙ g.kept;
    }

module _ (s : List ℕ) (base : ℕ) (a : Applications) (i : ℕ) {r : Rows} {l : List Entry} (p : Stored s base a i (apps r l)) {t : EntryRead} (w : EntryWhole s r t) (room : base + i < 32) where
  abbrev later : List Entry
  later = set l (base + i) t.entry

  slot : base + (i + 1) ≡ base + i + 1
  slot = omega arith

  entries_are : between base (base + (i + 1)) later ≡ between base (base + i) l ++ (t.entry ∷ [])
  entries_are = rw slot (between_snoc base (base + i) l t.entry (omega arith) (let n = p.ready.long in omega arith))

  rows_are : between a.rows.used t.rows.used t.rows.rows ≡ between a.rows.used r.used r.rows ++ between r.used t.rows.used t.rows.rows
  rows_are =
      between_join a.rows.used r.used t.rows.used r.rows t.rows.rows p.grown.more w.grown.more
      (let n = w.grown.free.long in let f = w.grown.free.few in omega arith) w.grown.kept

  old_rows : rows_of (between base (base + i) l) ≡ length (between a.rows.used r.used r.rows)
  old_rows =
      let n = p.grown.free.long in
      let f = p.grown.free.few in
      let x = p.rows in
      let y = length_between a.rows.used r.used r.rows (omega arith) in
      omega arith

  new_rows : entry_rows t.entry ≡ length (between r.used t.rows.used t.rows.rows)
  new_rows =
      let n = w.grown.free.long in
      let f = w.grown.free.few in
      let x = w.rows in
      let y = length_between r.used t.rows.used t.rows.rows (omega arith) in
      omega arith

  values_are : entries_values s (between base (base + (i + 1)) later) (between a.rows.used t.rows.used t.rows.rows)
      ≡ entries_values s (between base (base + i) l) (between a.rows.used r.used r.rows) ++ entry_values s t.entry (between r.used t.rows.used t.rows.rows)
  values_are =
      rw (entries_are, rows_are)
      (entries_more (between base (base + i) l) t.entry (between a.rows.used r.used r.rows) (between r.used t.rows.used t.rows.rows) old_rows new_rows s)

  sound_are : t.rows.cursor.fault ≡ 0 → entries_sound (length s) (between base (base + (i + 1)) later) (between a.rows.used t.rows.used t.rows.rows) ≡ true
  sound_are h =
      rw (entries_are, rows_are)
      (sound_more (between base (base + i) l) t.entry (between a.rows.used r.used r.rows) (between r.used t.rows.used t.rows.rows) old_rows new_rows (length s)
      (p.sound (clean w.reads h)) (w.sound h))

  pub stored_more : Stored s base a (i + 1) (apps t.rows later)
  stored_more =
      record {
        reads = rw values_are (rw (add-one, times_snoc i (entry ∷ [])) (then p.reads w.reads));
        grown = grown_on a.rows r t.rows p.grown w.grown;
        sound = sound_are;
        ready =
            record {
              free = w.grown.free;
              rest = record { rest = λ j h. get_or-set_other l (base + i) j t.entry empty_entry (λ z. omega arith) ∙ p.ready.rest.rest j (omega arith) };
              long = length-set l (base + i) t.entry ∙ p.ready.long;
              each = λ h j. each_tidy h j;
            };
        rows = rw (entries_are, rows_of_snoc) (let x = p.rows in let y = w.rows in omega arith);
        kept = take-set-le base l (base + i) t.entry (omega arith) ∙ p.kept;
      }
    where
      each_tidy : t.rows.cursor.fault ≡ 0 → (j : ℕ) → entry_tidy (get_or later j empty_entry)
      each_tidy h j =
          by_cases (eqb j (base + i))
          (λ e. let k : j ≡ base + i = eqb-true _ _ e in let n = p.ready.long in rw (k, get_or-set_same l (base + i) t.entry empty_entry (omega arith)) (w.tidy h))
          (λ e. rw (get_or-set_other l (base + i) j t.entry empty_entry (eqb-false _ _ e)) (p.ready.each (clean w.reads h) j))

pub stored_all : {s : List ℕ} {base : ℕ} {a : Applications} {i n : ℕ} {r : Applications} → Stored s base a i r → i ≤ n → n ≤ i → Stored s base a n r
stored_all p h k = rw (le_antisymm k h) p

-- ---- the count of an application list

unlike : {P : Type 0} {p : Bool} → p ≡ true → p ≡ false → P
unlike a b = absurd (let y : ◌≡◌ {A = ℕ} 0 1 = cc in omega arith)

module _ (s : List ℕ) (c : Cursor) {d : Cursor} (y : d ≡ component s entry_count c) where
  count_saw : d.fault ≡ 0 → sees s entry_count c ≡ num d.value
  count_saw g = extended_saw entries_extended s c (fault_of_law y g) ∙ ap (λ (q : Cursor). num q.value) (sym y)

  count_more : more s entry_count c ≡ times d.value (entry ∷ [])
  unfolding brings numbers_of times
  count_more =
      by_cases (eqb d.fault 0)
      (λ p. rw (← y, p, count_saw (eqb-true _ _ p)))
      (λ p.
      let z : d.value ≡ 0 = ap (λ (q : Cursor). q.value) y ∙ silent s entry_count c (λ w. eqb-false _ _ p (ap (λ (q : Cursor). q.fault) y ∙ w)) in
      rw (← y, p, z))

  entries_lead : Leads s (entry_count ∷ []) c (times d.value (entry ∷ [])) d (num d.value ∷ [])
  entries_lead =
      record {
        so = λ log.
            one s entry_count c y log
            ∙ ap (λ (is : List Component). runs (bits s) is (state_of d (log ++ (sees s entry_count c ∷ [])))) count_more
            ∙ ap (runs (bits s) (times d.value (entry ∷ []))) (state_log d _ _ (λ g. rw (count_saw g)));
      }

  pub count_there : (p : Bool) → p ≡ true → d.value ≤ 16 → CountMaybe s p c d
  unfolding announced
  count_there p t k = record { leads = rw t entries_lead; room = room_of s entry_count c (λ fs. refl) y; small = k; clean = λ g. (extended_read entries_extended s c (fault_of_law y g)).clean; absent = λ f. unlike t f }

pub count_absent : (s : List ℕ) (p : Bool) (c : Cursor) {r : Cursor} → p ≡ false → r ≡ marked_at c 0 0 → CountMaybe s p c r
unfolding marked_at times state_of
count_absent s p c f e = rw (e, f) (record { leads = record { so = λ log. rw append-nil }; room = refl; small = omega arith; clean = λ g. g; absent = λ g. refl })
