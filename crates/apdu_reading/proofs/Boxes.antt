-- Containers and attribute lists with all their rows: what was announced is read behind what announced it.
-- Assumes nothing.
use Prim.Native.Nat.{ℕ, zero, suc, ◌+◌, ◌≤◌}
use mathlib.Core.Path.{◌≡◌, refl, ap, sym, ◌∙◌}
use mathlib.Core.List.{List, [], ◌∷◌, ◌++◌, append_assoc, append-nil}
use mathlib.Core.Bool.{Bool, true, false}
use native.Mathlib.Omega.{arith}
use lib.ListN.{length, get_or, take, replicate}
use lib.Dec.{eqb}
use borrow.Author.Tests.{eq-eqb}
use Rattle.refusals.specs.Check.{pick}
use Rattle.refusals.proofs.Tests.{and_true}
use Rattle.bits.specs.Bits.{bits}
use Rattle.apdu_format.specs.Component.{Component, row_count, container}
use Rattle.apdu_format.specs.Rules.{when, times}
use Rattle.apdu_format.specs.Reading.{Value, State}
use Rattle.apdu_format.proofs.Runs.{runs_none}
use Rattle.apdu.specs.declared.lists.Row.{Row}
use Rattle.apdu.specs.Values.{num, if, head_values, row_values, rows_values, container_values, empty_row}
use Rattle.apdu.specs.Tidy.{start_tidy, RowsTidy}
use Rattle.apdu.specs.Sound.{nested, rows_sound, container_sound}
use Rattle.apdu.proofs.Laws.{zero_tidy}
use Rattle.apdu.proofs.Dues.{two, one, due_two, due_one, total_two, total_one}
use Rattle.apdu_reading.specs.declared.cursor.Cursor.{Cursor}
use Rattle.apdu_reading.specs.declared.container.Head.{Head}
use Rattle.apdu.specs.declared.due.Due.{Due}
use Rattle.apdu_reading.specs.declared.rows.Rows.{Rows}
use Rattle.apdu_reading.specs.Cursor.{state_of, ReadsTo}
use Rattle.apdu.specs.RowCounters.{row, total}
use Rattle.apdu_reading.specs.Lists.{Leads, Ready, Filled}
use Rattle.apdu_reading.specs.Optional.{HeadMaybe, AttributesMaybe}
use Rattle.apdu_reading.specs.Messages.{unread}
use Rattle.apdu_reading.proofs.Chains.{Same, state_log, valued, clean}

-- ---- leads and readings

pub and_then : {s : List ℕ} {is js : List Component} {c d r : Cursor} {vs ws : List Value} → Leads s is c js d vs → ReadsTo s js d r ws → ReadsTo s is c r (vs ++ ws)
and_then {s} {is} {js} {c} {d} {r} {vs} {ws} p q =
    record { so = λ log. p.so log ∙ q.so (log ++ vs) ∙ ap (state_of r) (append_assoc log vs ws) }

-- where nothing is read, nothing is found
pub found_nothing : {s : List ℕ} {c r : Cursor} {vs : List Value} → ReadsTo s [] c r vs → r.fault ≡ 0 → vs ≡ []
unfolding state_of
found_nothing {s} {c} {r} {vs} p h =
    let e : state_of c [] ≡ state_of r vs = sym (runs_none (bits s) (state_of c [])) ∙ p.so [] in
    let f : c.fault ≡ 0 = ap (λ (d : State). d.fault) e ∙ h in
    let g : pick (eqb c.fault 0) [] [] ≡ pick (eqb r.fault 0) vs [] = ap (λ (d : State). d.log) e in
    sym (rw (eq-eqb _ _ f, eq-eqb _ _ h) at g)

-- ---- rows of which none is used

empty : (n j : ℕ) → get_or (replicate n empty_row) j empty_row ≡ empty_row
empty zero j = refl
empty (suc n) zero = refl
empty (suc n) (suc j) = empty n j

pub unused : RowsTidy 0 (replicate 32 empty_row)
unused = record { each = λ j. rw (empty 32 j) zero_tidy; rest = λ j w. empty 32 j }

abbrev rows_at : Cursor → ℕ → List Row → Rows
rows_at c used rows = record { cursor = c; used = used; rows = rows }

pub fresh : (o : Due) (c : Cursor) {rows : List Row} → rows ≡ replicate 32 empty_row → (c.fault ≡ 0 → total o + c.room ≡ 32) → Ready o (rows_at c 0 rows)
fresh o c e h =
    rw e (record { sum = λ z. let a = h z in omega arith; rest = unused; long = refl; few = omega arith })

-- no values, no rows
pub no_rows : (s : List ℕ) (n : ℕ) (rs : List Row) → rows_values s (take n rs) ≡ [] → n ≤ length rs → n ≡ 0
unfolding rows_values row_values
no_rows s zero rs h k = refl
no_rows s (suc n) [] h k = absurd (omega arith)
no_rows s (suc n) (r ∷ rs) h k = let z : ◌≡◌ {A = ℕ} 0 1 = cc in absurd (omega arith)

pub if_join : (p : Bool) (vs ws : List Value) → (p ≡ false → ws ≡ []) → if p vs ++ ws ≡ if p (vs ++ ws)
if_join true vs ws h = refl
if_join false vs ws h = h refl

-- the rows behind the used ones are empty, and where nothing was there none is used
pub record Kept (p : Bool) (r : Rows) : Type 0 where
  pub rest : RowsTidy r.used r.rows
  pub none : p ≡ false → r.cursor.fault ≡ 0 → r.used ≡ 0

-- ---- a container with its rows

pub record Boxed (s : List ℕ) (p : Bool) (c : Cursor) (kind n start : ℕ) (r : Rows) : Type 0 where
  pub reads : ReadsTo s (when p (container 1 ∷ [])) c r.cursor (if p (container_values s kind n start (take r.used r.rows)))
  pub sound : r.cursor.fault ≡ 0 → container_sound (length s) kind n start (take r.used r.rows) ≡ true
  pub absent : p ≡ false → (kind ≡ 0) × (n ≡ 0) × (start ≡ 0)
  pub tidy : start_tidy kind start
  pub kept : Kept p r

module _ (s : List ℕ) (p : Bool) (c : Cursor) {h : Head} (m : HeadMaybe s p c h) {n : ℕ} (e : n ≡ nested h.kind h.n) where
  pub box_room : c.room ≡ 32 → h.cursor.fault ≡ 0 → 0 + n + h.cursor.room ≡ 32
  box_room r z = let a = m.room z in omega arith

  module _ {q : Rows} (f : Filled s (two n) (unread h.cursor) q) where
    rows_read : ReadsTo s (times (nested h.kind h.n) (row 2)) h.cursor q.cursor (rows_values s (take q.used q.rows))
    rows_read = rw (ap (λ (k : ℕ). times k (row 2)) (sym e) ∙ sym (due_two n)) f.reads

    none_found : p ≡ false → q.cursor.fault ≡ 0 → rows_values s (take q.used q.rows) ≡ []
    unfolding times
    none_found z g =
        let a = m.absent z in
        let b : nested h.kind h.n ≡ 0 = rw a.0 in
        found_nothing (rw b at rows_read) g

    box_sound : q.cursor.fault ≡ 0 → container_sound (length s) h.kind h.n h.start (take q.used q.rows) ≡ true
    unfolding container_sound
    box_sound g =
        let t : nested h.kind h.n ≡ total (two n) = sym (total_two n ∙ e) in
        and_true (m.parts (clean f.reads g)) (ap (λ (k : ℕ). rows_sound (length s) k (take q.used q.rows)) t ∙ f.sound g)

    pub boxed : Boxed s p c h.kind h.n h.start q
    boxed =
        record {
          reads = valued (λ g. if_join p (head_values s h.kind h.n h.start) (rows_values s (take q.used q.rows)) (λ z. none_found z g)) (and_then m.leads rows_read);
          sound = box_sound;
          absent = m.absent;
          tidy = m.tidy;
          kept =
              record {
                rest = f.rest;
                none = λ z g. no_rows s q.used q.rows (none_found z g) (let l = f.long in let u = f.few in omega arith);
              };
        }

-- ---- an attribute list with its rows

pub record Listed (s : List ℕ) (p : Bool) (c : Cursor) (count : ℕ) (r : Rows) : Type 0 where
  pub reads : ReadsTo s (when p (row_count 1 ∷ [])) c r.cursor (if p (num count ∷ rows_values s (take r.used r.rows)))
  pub sound : r.cursor.fault ≡ 0 → rows_sound (length s) count (take r.used r.rows) ≡ true
  pub absent : p ≡ false → count ≡ 0
  pub kept : Kept p r

module _ (s : List ℕ) (p : Bool) (c : Cursor) {d : Cursor} (m : AttributesMaybe s p c d) where
  pub list_room : c.room ≡ 32 → d.fault ≡ 0 → d.value + 0 + d.room ≡ 32
  list_room r z = let a = m.room z in omega arith

  module _ {q : Rows} (f : Filled s (one d.value) (unread d) q) where
    list_read : ReadsTo s (times d.value (row 1)) d q.cursor (rows_values s (take q.used q.rows))
    list_read = rw (sym (due_one d.value)) f.reads

    nothing_found : p ≡ false → q.cursor.fault ≡ 0 → rows_values s (take q.used q.rows) ≡ []
    unfolding times
    nothing_found z g = found_nothing (rw (m.absent z) at list_read) g

    pub listed : Listed s p c d.value q
    listed =
        record {
          reads = valued (λ g. if_join p (num d.value ∷ []) (rows_values s (take q.used q.rows)) (λ z. nothing_found z g)) (and_then m.leads list_read);
          sound = λ g. ap (λ (k : ℕ). rows_sound (length s) k (take q.used q.rows)) (sym (total_one d.value)) ∙ f.sound g;
          absent = m.absent;
          kept =
              record {
                rest = f.rest;
                none = λ z g. no_rows s q.used q.rows (nothing_found z g) (let l = f.long in let u = f.few in omega arith);
              };
        }

-- ---- a message without rows

-- where nothing is read the cursor stays
pub stays : {s : List ℕ} {c r : Cursor} {vs : List Value} → ReadsTo s [] c r vs → Same c r
stays {s} {c} {r} {vs} p =
    record {
      so = λ log.
          sym (runs_none (bits s) (state_of c log)) ∙ p.so log
          ∙ state_log r (log ++ vs) log (λ z. ap (λ (l : List Value). log ++ l) (found_nothing p z) ∙ append-nil log);
    }

module _ {s : List ℕ} {c : Cursor} {q : Rows} (f : Filled s (two 0) (unread c) q) where
  none_read : ReadsTo s [] c q.cursor (rows_values s (take q.used q.rows))
  unfolding times
  none_read = rw (sym (due_two 0)) f.reads

  pub rowless : Same c q.cursor
  rowless = stays none_read

  pub rowless_tidy : q.cursor.fault ≡ 0 → RowsTidy 0 q.rows
  rowless_tidy z =
      let n : q.used ≡ 0 = no_rows s q.used q.rows (found_nothing none_read z) (let l = f.long in let u = f.few in omega arith) in
      rw (sym n) f.rest
