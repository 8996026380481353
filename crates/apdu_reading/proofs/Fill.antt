-- Rows stored one by one: after each turn the rows that were due are those stored and those still due.
-- Assumes nothing.
use Prim.Native.Nat.{ℕ, zero, suc, ◌+◌, ◌-◌, ◌≤◌, ◌<◌}
use mathlib.Core.Path.{◌≡◌, refl, ap, sym, ◌∙◌}
use mathlib.Core.List.{List, [], ◌∷◌, ◌++◌, append_assoc, append-nil}
use mathlib.Core.Bool.{Bool, true, false}
use native.Mathlib.Numerals.{add-one}
use native.Mathlib.Omega.{arith}
use lib.ListN.{length, take, set, length-set}
use lib.Seq.{take-suc-set, take-set-le, get_or-set_same, get_or-set_other, drop-append-le, length-take-le}
use lib.Dec.{ltb, eqb}
use borrow.Author.Tests.{eq-eqb, ne_eqb, le-ltb, ltb-true, ltb-false, eqb-true, eqb-false}
use Rattle.refusals.specs.Check.{pick}
use Rattle.refusals.proofs.Tests.{by_cases, and_true}
use Rattle.bits.specs.Bits.{bits}
use Rattle.apdu_format.specs.Reading.{Value, State, runs}
use Rattle.apdu_format.proofs.Runs.{runs_none, runs_stopped}
use Rattle.apdu.specs.declared.lists.Row.{Row}
use Rattle.apdu.specs.Values.{row_values, rows_values, empty_row}
use Rattle.apdu.specs.Tidy.{RowsTidy}
use Rattle.apdu.specs.Sound.{parts_fit, closes, rows_sound}
use Rattle.apdu.proofs.Laws.{rows_snoc, fit_snoc, closes_more}
use Rattle.apdu.proofs.Dues.{due_none}
use Rattle.apdu_reading.specs.declared.cursor.Cursor.{Cursor}
use Rattle.apdu.specs.declared.due.Due.{Due}
use Rattle.apdu_reading.specs.declared.container.RowRead.{RowRead}
use Rattle.apdu_reading.specs.declared.rows.Rows.{Rows}
use Rattle.apdu_reading.specs.Cursor.{state_of}
use Rattle.apdu.specs.RowCounters.{total, due_list}
use Rattle.apdu_reading.specs.Rows.{Next}
use Rattle.apdu_reading.specs.Lists.{between, Ready, Filled}
use Rattle.apdu_reading.proofs.Chains.{state_log, itself, nothing}

abbrev rows_at : Cursor → ℕ → List Row → Rows
rows_at c used rows = record { cursor = c; used = used; rows = rows }

-- rows that were stored since place k, and what is still due
pub record Held (s : List ℕ) (c₀ : Cursor) (o₀ : Due) (k : ℕ) (rows₀ : List Row) (c : Cursor) (o : Due) (used : ℕ) (rows : List Row) : Type 0 where
  pub so : (log : List Value) → runs (bits s) (due_list o₀) (state_of c₀ log) ≡ runs (bits s) (due_list o) (state_of c (log ++ rows_values s (between k used rows)))
  pub sum : c.fault ≡ 0 → total o + c.room + used ≡ 32
  pub fit : parts_fit (length s) (between k used rows) ≡ true
  pub closing : c.fault ≡ 0 → (rest : List Row) → closes (total o₀) (between k used rows ++ rest) ≡ closes (total o) rest
  pub more : k ≤ used
  pub kept : take k rows ≡ take k rows₀
  pub rest : RowsTidy used rows
  pub long : length rows ≡ 32

pub between_none : {A : Type 0} (k : ℕ) (rs : List A) → between k k rs ≡ []
between_none zero rs = refl
between_none (suc k) [] = refl
between_none (suc k) (r ∷ rs) = between_none k rs

pub between_snoc : {A : Type 0} (k n : ℕ) (rs : List A) (r : A) → k ≤ n → n < length rs → between k (n + 1) (set rs n r) ≡ between k n rs ++ (r ∷ [])
between_snoc k n rs r h l =
    rw (add-one, take-suc-set rs n r l) (drop-append-le k (take n rs) (r ∷ []) (let m : length (take n rs) ≡ n = length-take-le n rs (omega arith) in omega arith))

pub held_none : (s : List ℕ) (o : Due) (r : Rows) → Ready o r → Held s r.cursor o r.used r.rows r.cursor o r.used r.rows
unfolding rows_values parts_fit
held_none s o r p =
    record {
      so = λ log. rw (between_none r.used r.rows, append-nil);
      sum = p.sum;
      fit = rw (between_none r.used r.rows);
      closing = λ z rest. rw (between_none r.used r.rows);
      more = omega arith;
      kept = refl;
      rest = p.rest;
      long = p.long;
    }

-- whether another row is wanted
abbrev Wants : Cursor → ℕ → Bool
Wants c used = pick (eqb c.fault 0) (ltb used (32 - c.room)) false

no : {P : Type 0} → false ≡ true → P
no z = absurd (let y : ◌≡◌ {A = ℕ} 0 1 = cc in omega arith)

wanted : (c : Cursor) (used : ℕ) → Wants c used ≡ true → (c.fault ≡ 0) × (used < 32 - c.room)
wanted c used h = by_cases (eqb c.fault 0) (λ p. (eqb-true _ _ p, ltb-true _ _ (rw p at h))) (λ p. no (rw p at h))

-- nothing is due
none_due : (s : List ℕ) (o : Due) → total o ≡ 0 → (d : State) → runs (bits s) (due_list o) d ≡ d
none_due s o h d = rw (due_none o h) (runs_none (bits s) d)

module _ (s : List ℕ) (c₀ : Cursor) (o₀ : Due) (k : ℕ) (rows₀ : List Row) {c : Cursor} {o : Due} {used : ℕ} {rows : List Row} (p : Held s c₀ o₀ k rows₀ c o used rows) where
  more_rows : (r : RowRead) → Next s c o r → c.fault ≡ 0 → 0 < total o → used < 32 → r.cursor.fault ≡ 0 → Held s c₀ o₀ k rows₀ r.cursor r.due (used + 1) (set rows used r.row)
  more_rows r q z some l h =
      let long = p.long in
      let b : between k (used + 1) (set rows used r.row) ≡ between k used rows ++ (r.row ∷ []) = between_snoc k used rows r.row p.more (omega arith) in
      let e : rows_values s (between k (used + 1) (set rows used r.row)) ≡ rows_values s (between k used rows) ++ row_values s r.row =
      ap (rows_values s) b ∙ rows_snoc s (between k used rows) r.row in
      record {
        so = λ log.
            p.so log ∙ q.so (log ++ rows_values s (between k used rows))
            ∙ ap (λ (l : List Value). runs (bits s) (due_list r.due) (state_of r.cursor l)) (append_assoc log (rows_values s (between k used rows)) (row_values s r.row) ∙ ap (λ (l : List Value). log ++ l) (sym e));
        sum = λ w. let a = p.sum z in let g = q.sums h in omega arith;
        fit = ap (parts_fit (length s)) b ∙ fit_snoc (length s) (between k used rows) r.row ∙ and_true p.fit (q.parts h);
        closing = λ w rest.
            ap (λ (l : List Row). closes (total o₀) (l ++ rest)) b
            ∙ ap (closes (total o₀)) (append_assoc (between k used rows) (r.row ∷ []) rest)
            ∙ p.closing z (r.row ∷ rest)
            ∙ closes_more (total o) r.row rest (total r.due) (λ y. omega arith) q.counts;
        more = let a = p.more in omega arith;
        kept = take-set-le k rows used r.row p.more ∙ p.kept;
        rest =
            record {
              each = λ j.
                  by_cases (eqb j used)
                  (λ y. let i : j ≡ used = eqb-true _ _ y in rw (i, get_or-set_same rows used r.row empty_row (omega arith)) q.tidy)
                  (λ y. rw (get_or-set_other rows used j r.row empty_row (eqb-false _ _ y)) (p.rest.each j));
              rest = λ j w. get_or-set_other rows used j r.row empty_row (λ y. omega arith) ∙ p.rest.rest j (omega arith);
            };
        long = length-set rows used r.row ∙ long;
      }

  pub stopped_rows : (r : RowRead) → Next s c o r → (r.cursor.fault ≡ 0 → ⊥) → Held s c₀ o₀ k rows₀ r.cursor r.due used rows
  stopped_rows r q h =
      record {
        so = λ log. p.so log ∙ q.so (log ++ rows_values s (between k used rows)) ∙ ap (runs (bits s) (due_list r.due)) (state_log r.cursor _ _ (λ z. absurd (h z)));
        sum = λ w. absurd (h w);
        fit = p.fit;
        closing = λ w. absurd (h w);
        more = p.more;
        kept = p.kept;
        rest = p.rest;
        long = p.long;
      }

  ended : Wants c used ≡ false → (log : List Value) → runs (bits s) (due_list o) (state_of c log) ≡ state_of c log
  unfolding state_of
  ended w log =
      by_cases (eqb c.fault 0)
      (λ e.
      let a : 32 - c.room ≤ used = ltb-false _ _ (rw e at w) in
      let b = p.sum (eqb-true _ _ e) in
      none_due s o (omega arith) (state_of c log))
      (λ e. runs_stopped (bits s) (due_list o) (state_of c log) (eqb-false _ _ e))

  module _ {t : Bool} (w : t ≡ Wants c used) where
    pub some_due : t ≡ true → 0 < total o
    some_due e = let q = wanted c used (sym w ∙ e) in let a = p.sum q.0 in let b = q.1 in omega arith

    pub few : t ≡ true → used < 32
    few e = let q = wanted c used (sym w ∙ e) in let b = q.1 in omega arith

    pub again : t ≡ true → (r : RowRead) → Next s c o r → r.cursor.fault ≡ 0 → Held s c₀ o₀ k rows₀ r.cursor r.due (used + 1) (set rows used r.row)
    again e r q h = more_rows r q (wanted c used (sym w ∙ e)).0 (some_due e) (few e) h

    pub less : t ≡ true → (f : ℕ) → f ≡ 0 → pick (eqb f 0) (33 - (used + 1)) 0 < pick (eqb c.fault 0) (33 - used) 0
    less e f h = let k = few e in rw (eq-eqb _ _ (wanted c used (sym w ∙ e)).0, eq-eqb _ _ h) (omega arith)

    pub less_stop : t ≡ true → (f : ℕ) → (f ≡ 0 → ⊥) → pick (eqb f 0) (33 - used) 0 < pick (eqb c.fault 0) (33 - used) 0
    less_stop e f h = let k = few e in rw (eq-eqb _ _ (wanted c used (sym w ∙ e)).0, ne_eqb _ _ h) (omega arith)

    full : Wants c used ≡ false → c.fault ≡ 0 → 32 - c.room ≤ used
    full z f = ltb-false _ _ (rw (eq-eqb _ _ f) at z)

    all_sound : Wants c used ≡ false → c.fault ≡ 0 → rows_sound (length s) (total o₀) (between k used rows) ≡ true
    unfolding rows_sound closes
    all_sound z f =
        let a = p.sum f in
        let b = full z f in
        let n : total o ≡ 0 = omega arith in
        and_true p.fit (ap (closes (total o₀)) (sym (append-nil (between k used rows))) ∙ p.closing f [] ∙ ap (λ (i : ℕ). closes i []) n)

    pub done : used ≤ 32 → t ≡ false → Filled s o₀ (rows_at c₀ k rows₀) (rows_at c used rows)
    done low e =
        let z = sym w ∙ e in
        record {
          reads = record { so = λ log. p.so log ∙ ended z (log ++ rows_values s (between k used rows)) };
          sum = λ f. let a = p.sum f in let b = full z f in omega arith;
          sound = all_sound z;
          more = p.more;
          kept = p.kept;
          rest = p.rest;
          long = p.long;
          few = low;
        }

-- nothing is due
pub filled_none : (s : List ℕ) (o : Due) {r : Rows} → Ready o r → total o ≡ 0 → Filled s o r r
unfolding rows_values rows_sound parts_fit closes
filled_none s o {r} p z =
    record {
      reads = rw (due_none o z, between_none r.used r.rows) (nothing s (itself r.cursor));
      sum = λ f. let a = p.sum f in omega arith;
      more = omega arith;
      sound = λ f. rw (z, between_none r.used r.rows);
      kept = refl;
      rest = p.rest;
      long = p.long;
      few = p.few;
    }

-- where more rows may be announced than there is room, none is wanted
pub none_wanted : (c : Cursor) (used : ℕ) → c.fault ≡ 0 → 32 ≤ c.room → false ≡ Wants c used
none_wanted c used h k = let l : ltb used (32 - c.room) ≡ false = le-ltb used (32 - c.room) (omega arith) in rw (eq-eqb _ _ h, l)
