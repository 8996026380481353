-- The next row: it is the first of the innermost list, and what it opens comes before the rest.
-- Assumes nothing.
use Prim.Native.Nat.{ℕ, suc, ◌+◌, ◌<◌}
use mathlib.Core.Path.{◌≡◌, ap, sym, ◌∙◌}
use mathlib.Core.List.{List, [], ◌∷◌, ◌++◌, append_assoc}
use native.Mathlib.Omega.{arith}
use Rattle.bits.specs.Bits.{bits}
use Rattle.apdu_format.specs.Component.{Component, integer, container}
use Rattle.apdu_format.specs.Rules.{times}
use Rattle.apdu_format.specs.Reading.{Value, runs}
use Rattle.apdu_format.proofs.Runs.{runs_append}
use Rattle.apdu.specs.declared.lists.Row.{Row}
use Rattle.apdu.specs.Values.{num, head_values, row_values}
use Rattle.apdu.proofs.Dues.{due_front, due_more, due_sums}
use Rattle.apdu_reading.specs.declared.cursor.Cursor.{Cursor}
use Rattle.apdu_reading.specs.declared.container.Head.{Head}
use Rattle.apdu.specs.declared.due.Due.{Due}
use Rattle.apdu_reading.specs.Cursor.{state_of, component}
use Rattle.apdu.specs.RowCounters.{row, level_of, after_row, total, due_list}
use Rattle.apdu.specs.Sound.{nested}
use Rattle.apdu_reading.specs.Rows.{Opens, Next}
use Rattle.apdu_reading.proofs.Strings.{integer_reads, integer_room}

abbrev row_of : ℕ → Head → Row
row_of id h = record { id = id; kind = h.kind; n = h.n; start = h.start }

-- the first row of a list, with its own list in front of what is left
row_step : (s : List ℕ) (c : Cursor) {d : Cursor} → d ≡ component s integer c → (depth : ℕ) (h : Head) → Opens s depth d h → (left : List Component) (log : List Value)
    → runs (bits s) (row depth ++ left) (state_of c log) ≡ runs (bits s) (times (nested h.kind h.n) (row (suc depth)) ++ left) (state_of h.cursor (log ++ row_values s (row_of d.value h)))
unfolding row_values
row_step s c {d} x depth h p left log =
    let b = bits s in
    runs_append b (integer ∷ []) (container depth ∷ left) (state_of c log)
    ∙ ap (runs b (container depth ∷ left)) ((integer_reads s c x).so log)
    ∙ runs_append b (container depth ∷ []) left (state_of d (log ++ (num d.value ∷ [])))
    ∙ ap (runs b left) (p.so (log ++ (num d.value ∷ [])))
    ∙ sym (runs_append b (times (nested h.kind h.n) (row (suc depth))) left _)
    ∙ ap (λ (l : List Value). runs b (times (nested h.kind h.n) (row (suc depth)) ++ left) (state_of h.cursor l))
    (append_assoc log (num d.value ∷ []) (head_values s h.kind h.n h.start))

pub next : (s : List ℕ) (c : Cursor) (o : Due) → 0 < total o → {d : Cursor} → (d ≡ component s integer c) × (d.value < 128) → {l : ℕ} → l ≡ level_of o → {h : Head} → Opens s l d h
    → {n : ℕ} → n ≡ nested h.kind h.n → {due : Due} → due ≡ after_row o n → Next s c o (record { cursor = h.cursor; due = due; row = row_of d.value h })
next s c o some {d} x {l} a {h} p {n} e {due} f =
    let left = due_list (after_row o 0) in
    let deep : level_of o ≡ 5 → n ≡ 0 = λ five. e ∙ p.deep (let k : l ≡ 5 = a ∙ five in omega arith) in
    let p' : Opens s (level_of o) d h = rw a at p in
    let t : total due + 1 ≡ total o + n = ap (λ (u : Due). total u + 1) f ∙ due_sums o n some deep in
    record {
      so = λ log.
          ap (λ (is : List Component). runs (bits s) is (state_of c log)) (due_front o some)
          ∙ row_step s c x.0 (level_of o) h p' left log
          ∙ ap (λ (is : List Component). runs (bits s) is (state_of h.cursor (log ++ row_values s (row_of d.value h))))
          (ap (λ (k : ℕ). times k (row (suc (level_of o))) ++ left) (sym e) ∙ sym (due_more o n deep) ∙ ap due_list (sym f));
      sums = λ z. let g = p.room z in let r = integer_room s c x.0 in omega arith;
      counts = rw e at t;
      parts = p.parts;
      tidy = p.tidy;
    }
