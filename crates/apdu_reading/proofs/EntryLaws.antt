-- Application entries: an octet, what its bits say is there, and the rows of its parameter; and lists of them.
-- Assumes nothing.
use Prim.Native.Nat.{ℕ, ◌+◌, ◌-◌, ◌/◌, ◌%◌, ◌<◌}
use mathlib.Core.Path.{◌≡◌, refl, ap, sym, ◌∙◌}
use mathlib.Core.List.{List, [], ◌∷◌, ◌++◌, append_assoc, append-nil}
use mathlib.Core.Bool.{Bool, true, false}
use native.Mathlib.Omega.{arith}
use lib.ListN.{length, take, drop, length-drop}
use lib.Seq.{length-take-le}
use lib.Dec.{eqb}
use borrow.Author.Tests.{eqb-true, eqb-false}
use Rattle.refusals.specs.Check.{check, first_of}
use Rattle.refusals.proofs.Tests.{by_test, by_cases, and_true, first_none}
use Rattle.bits.specs.Bits.{bits, read_field}
use Rattle.apdu_format.specs.Component.{Component, integer, entry, container}
use Rattle.apdu_format.specs.Rules.{shape, brings, when, times, checks_of, announced}
use Rattle.apdu_format.specs.Reading.{Value, fields, numbers_of, sum, need, fields_of, value_at, runs}
use Rattle.apdu_format.proofs.Runs.{runs_append}
use Rattle.apdu.specs.declared.lists.Row.{Row}
use Rattle.apdu.specs.declared.lists.Entry.{Entry}
use Rattle.apdu.specs.Values.{bit_of, num_if, if, head_values, row_values, rows_values, entry_values, entry_rows}
use Rattle.apdu.specs.Sound.{nested, rows_sound, container_sound, entry_sound}
use Rattle.apdu.proofs.Laws.{sound_if_law}
use Rattle.apdu.proofs.Dues.{two, due_two, total_two}
use Rattle.apdu_reading.specs.declared.cursor.Cursor.{Cursor}
use Rattle.apdu_reading.specs.declared.container.Head.{Head}
use Rattle.apdu_reading.specs.declared.rows.Rows.{Rows}
use Rattle.apdu_reading.specs.declared.applications.EntryHead.{EntryHead}
use Rattle.apdu_reading.specs.Cursor.{state_of, component, ReadsTo}
use Rattle.apdu.specs.RowCounters.{row, total}
use Rattle.apdu_reading.specs.Lists.{between, Ready, Filled}
use Rattle.apdu_reading.specs.Optional.{Maybe, HeadMaybe}
use Rattle.apdu_reading.specs.Applications.{EntryOpens, Open, EntryWhole}
use Rattle.apdu_reading.proofs.Pieces.{sees, good, fine, silent}
use Rattle.apdu_reading.proofs.Components.{entry_bits}
use Rattle.apdu_reading.proofs.Chains.{more, state_log, valued, clean}
use Rattle.apdu_reading.proofs.Strings.{fault_of_law, room_of}
use Rattle.apdu_reading.proofs.Containers.{one}
use Rattle.apdu_reading.proofs.Fill.{filled_none}
use Rattle.apdu_reading.proofs.Boxes.{and_then, found_nothing}

-- ---- an entry up to its rows

module _ (s : List ℕ) (c : Cursor) {o : Cursor} (e : o ≡ component s entry c) (low : o.value < 256) where
  abbrev x : Bool
  x = eqb (o.value / 128) 1

  abbrev y : Bool
  y = eqb (o.value / 64 % 2) 1

  octet_is : o.fault ≡ 0 → o.value ≡ read_field s c.at 8
  unfolding shape need sum
  octet_is h =
      let g = good s entry c (fault_of_law e h) in
      ap (λ (q : Cursor). q.value) (e ∙ fine s entry c g.clean g.there g.right)

  entry_fields : o.fault ≡ 0 → fields_of (1 ∷ 1 ∷ 1 ∷ 5 ∷ []) (drop c.at (bits s)) ≡ o.value / 128 ∷ o.value / 64 % 2 ∷ o.value / 32 % 2 ∷ o.value % 32 ∷ []
  entry_fields h = entry_bits s c.at o.value (octet_is h)

  unextended : o.fault ≡ 0 → o.value / 32 % 2 ≡ 0
  unfolding shape value_at numbers_of checks_of
  unextended h =
      let g = good s entry c (fault_of_law e h) in
      let r : first_of (check 16 (eqb (o.value / 32 % 2) 1) ∷ []) ≡ 0 = rw (entry_fields h) at g.right in
      let u : o.value / 32 % 2 ≡ 1 → ⊥ = eqb-false (o.value / 32 % 2) 1 (first_none 15 (eqb (o.value / 32 % 2) 1) [] r).0 in
      omega arith

  bit_x : bit_of x ≡ o.value / 128
  bit_x =
      by_cases x
      (λ p. let q : o.value / 128 ≡ 1 = eqb-true _ _ p in rw (p, q))
      (λ p. let q : o.value / 128 ≡ 1 → ⊥ = eqb-false (o.value / 128) 1 p in let z : o.value / 128 ≡ 0 = omega arith in rw (p, z))

  bit_y : bit_of y ≡ o.value / 64 % 2
  bit_y =
      by_cases y
      (λ p. let q : o.value / 64 % 2 ≡ 1 = eqb-true _ _ p in rw (p, q))
      (λ p. let q : o.value / 64 % 2 ≡ 1 → ⊥ = eqb-false (o.value / 64 % 2) 1 p in let z : o.value / 64 % 2 ≡ 0 = omega arith in rw (p, z))

  entry_saw : o.fault ≡ 0 → sees s entry c ≡ fields (bit_of x ∷ bit_of y ∷ 0 ∷ o.value % 32 ∷ [])
  unfolding shape value_at
  entry_saw h = ap fields (entry_fields h ∙ rw (bit_x, bit_y, unextended h))

  entry_more : more s entry c ≡ when x (integer ∷ []) ++ when y (container 1 ∷ [])
  unfolding brings shape value_at numbers_of
  entry_more =
      by_cases (eqb o.fault 0)
      (λ p. rw (← e, p, entry_fields (eqb-true _ _ p)))
      (λ p.
      let z : o.value ≡ 0 = ap (λ (q : Cursor). q.value) e ∙ silent s entry c (λ w. eqb-false _ _ p (ap (λ (q : Cursor). q.fault) e ∙ w)) in
      rw (← e, p, z))

  module _ {eid : Cursor} (m : Maybe s x (integer ∷ []) o eid (num_if x eid.value)) {h : Head} (q : HeadMaybe s y eid h) {n : ℕ} (d : n ≡ nested h.kind h.n) where
    abbrev entry_of : Entry
    entry_of =
        record
        { has_eid = x; has_parameter = y; aid = o.value % 32; eid = eid.value; kind = h.kind; n = h.n; start = h.start; rows = 0 }

    head_nil : (p : Bool) (vs : List Value) → if p vs ≡ if p (vs ++ [])
    head_nil true vs = sym (append-nil vs)
    head_nil false vs = refl

    entry_log : (log : List Value) → h.cursor.fault ≡ 0 → ((log ++ (sees s entry c ∷ [])) ++ num_if x eid.value) ++ if y (head_values s h.kind h.n h.start) ≡ log ++ entry_values s entry_of []
    unfolding entry_values rows_values
    entry_log log g =
        let f : o.fault ≡ 0 = clean m.reads (q.clean g) in
        rw (entry_saw f, head_nil y (head_values s h.kind h.n h.start))
        (append_assoc (log ++ (fields (bit_of x ∷ bit_of y ∷ 0 ∷ o.value % 32 ∷ []) ∷ [])) (num_if x eid.value) (if y (head_values s h.kind h.n h.start ++ []))
        ∙ append_assoc log (fields (bit_of x ∷ bit_of y ∷ 0 ∷ o.value % 32 ∷ []) ∷ []) (num_if x eid.value ++ if y (head_values s h.kind h.n h.start ++ [])))

    pub entry_opens : EntryOpens s c (record { cursor = h.cursor; entry = entry_of; due = n })
    entry_opens =
        let b = bits s in
        record {
          leads =
              record {
                so = λ log.
                    let l = log ++ (sees s entry c ∷ []) in
                    one s entry c e log
                    ∙ ap (λ (is : List Component). runs b is (state_of o l)) entry_more
                    ∙ runs_append b (when x (integer ∷ [])) (when y (container 1 ∷ [])) (state_of o l)
                    ∙ ap (runs b (when y (container 1 ∷ []))) (m.reads.so l)
                    ∙ q.leads.so (l ++ num_if x eid.value)
                    ∙ ap (λ (k : ℕ). runs b (times k (row 2)) (state_of h.cursor ((l ++ num_if x eid.value) ++ if y (head_values s h.kind h.n h.start)))) (sym d)
                    ∙ ap (runs b (times n (row 2))) (state_log h.cursor _ _ (entry_log log));
              };
          room = λ g. let a = q.room g in let f = m.room in let r : o.room ≡ c.room = room_of s entry c (λ fs. unfold announced in refl) e in omega arith;
          clean = λ g. (good s entry c (fault_of_law e (clean m.reads (q.clean g)))).clean;
          parts = q.parts;
          none = refl;
          counts = d;
          eid = record { are = λ z. ((m.absent z).0, tt) };
          parameter = record { are = λ z. let a = q.absent z in (a.0, (a.1, (a.2, (d ∙ rw a.0, tt)))) };
          tidy = q.tidy;
        }

-- ---- an entry with its rows

-- no values, no rows
no_values : (s : List ℕ) (rs : List Row) (n : ℕ) → rows_values s rs ≡ [] → length rs ≡ n → n ≡ 0
unfolding rows_values row_values
no_values s [] n h k = sym k
no_values s (r ∷ rs) n h k = let z : ◌≡◌ {A = ℕ} 0 1 = cc in absurd (omega arith)

module _ (s : List ℕ) (r : Rows) (o : Open r) {h : EntryHead} (p : EntryOpens s r.cursor h) where
  pub entry_ready : Ready (two h.due) (record { cursor = h.cursor; used = r.used; rows = r.rows })
  entry_ready =
      record {
        sum = λ z. let a = p.room z in let b = o.sum (p.clean z) in omega arith;
        rest = o.rest;
        long = o.long;
        few = o.few;
      }

  module _ {q : Rows} (f : Filled s (two h.due) (record { cursor = h.cursor; used = r.used; rows = r.rows }) q) where
    abbrev new : List Row
    new = between r.used q.used q.rows

    due_read : ReadsTo s (times h.due (row 2)) h.cursor q.cursor (rows_values s new)
    due_read = rw (sym (due_two h.due)) f.reads

    abbrev entry_with : Entry
    entry_with =
        record {
          has_eid = h.entry.has_eid;
          has_parameter = h.entry.has_parameter;
          aid = h.entry.aid;
          eid = h.entry.eid;
          kind = h.entry.kind;
          n = h.entry.n;
          start = h.entry.start;
          rows = q.used - r.used;
        }

    none_due : h.entry.has_parameter ≡ false → q.cursor.fault ≡ 0 → rows_values s new ≡ []
    unfolding times
    none_due z g = found_nothing (rw (p.parameter.are z).1.1.1.0 at due_read) g

    joined : (t : Bool) (a : List Value) (b : List Value) (hv rv : List Value) → (t ≡ false → rv ≡ []) → (a ++ (b ++ if t (hv ++ []))) ++ rv ≡ a ++ (b ++ if t (hv ++ rv))
    joined true a b hv rv z = append_assoc a (b ++ (hv ++ [])) rv ∙ ap (λ (l : List Value). a ++ l) (append_assoc b (hv ++ []) rv ∙ ap (λ (l : List Value). b ++ l) (append_assoc hv [] rv))
    joined false a b hv rv z = rw (z refl) (append-nil _)

    entry_values_law : q.cursor.fault ≡ 0 → entry_values s h.entry [] ++ rows_values s new ≡ entry_values s entry_with new
    unfolding entry_values rows_values
    entry_values_law g =
        joined h.entry.has_parameter (fields (bit_of h.entry.has_eid ∷ bit_of h.entry.has_parameter ∷ 0 ∷ h.entry.aid ∷ []) ∷ []) (num_if h.entry.has_eid h.entry.eid)
        (head_values s h.entry.kind h.entry.n h.entry.start) (rows_values s new) (λ z. none_due z g)

    no_new : h.entry.has_parameter ≡ false → q.cursor.fault ≡ 0 → q.used - r.used ≡ 0
    no_new z g =
        let l = f.long in
        let u = f.few in
        let m = f.more in
        let t : length (take q.used q.rows) ≡ q.used = length-take-le q.used q.rows (omega arith) in
        no_values s new (q.used - r.used) (none_due z g) (length-drop r.used (take q.used q.rows) ∙ rw t)

    entry_sound_law : q.cursor.fault ≡ 0 → entry_sound (length s) entry_with new ≡ true
    unfolding entry_sound container_sound
    entry_sound_law g =
        let t : nested h.entry.kind h.entry.n ≡ total (two h.due) = sym (total_two h.due ∙ p.counts) in
        sound_if_law h.entry.has_parameter (and_true (p.parts (clean f.reads g)) (ap (λ (k : ℕ). rows_sound (length s) k new) t ∙ f.sound g))

    -- without a parameter no rows are announced
    entry_used : (h.due ≡ 0 → q.used ≡ r.used) → r.used + entry_rows entry_with ≡ q.used
    unfolding entry_rows
    entry_used none =
        let m = f.more in
        by_test (λ (n : ℕ). r.used + n ≡ q.used) h.entry.has_parameter (λ z. omega arith) (λ z. let e = none (p.parameter.are z).1.1.1.0 in omega arith)

    pub entry_whole : (h.due ≡ 0 → q.used ≡ r.used) → EntryWhole s r (record { entry = entry_with; rows = q })
    entry_whole none =
        record {
          reads = valued entry_values_law (and_then p.leads due_read);
          grown = record { free = record { sum = f.sum; rest = f.rest; long = f.long; few = f.few }; more = f.more; kept = f.kept };
          rows = entry_used none;
          sound = entry_sound_law;
          tidy = λ g. (
            p.eid,
            record { are = λ z. let a = p.parameter.are z in (a.0, (a.1.0, (a.1.1.0, (no_new z g, tt)))) },
            p.tidy,
          );
        }

  -- an entry that announces no rows
  pub entry_alone : h.due ≡ 0 → EntryWhole s r (record { entry = h.entry; rows = record { cursor = h.cursor; used = r.used; rows = r.rows } })
  entry_alone z =
      let e : r.used - r.used ≡ h.entry.rows = omega (arith, p.none) in
      rw e at (entry_whole (filled_none s (two h.due) entry_ready (total_two h.due ∙ z)) (λ x. refl))
