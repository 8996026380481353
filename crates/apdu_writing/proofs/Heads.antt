-- A container up to its rows: its kind, and what that kind holds.
-- Assumes nothing.
use Prim.Native.Nat.{ℕ, suc, ◌+◌, ◌<◌}
use mathlib.Core.Path.{◌≡◌, sym, ◌∙◌}
use mathlib.Core.List.{List, [], ◌∷◌, ◌++◌}
use mathlib.Core.Bool.{Bool, true, false}
use native.Mathlib.Omega.{arith}
use native.Mathlib.Numerals.{add-one}
use lib.ListN.{length}
use lib.Dec.{eqb}
use borrow.Author.Tests.{eqb-true, ne_eqb}
use Rattle.refusals.proofs.Tests.{by_cases}
use Rattle.bits.specs.Strings.{is_inside}
use Rattle.apdu_format.specs.Component.{Component, integer, string_form, id_count, row_count, container}
use Rattle.apdu_format.specs.Rules.{content, known_kind, times}
use Rattle.apdu_format.specs.Reading.{Value}
use Rattle.apdu_format.proofs.Tests.{never}
use Rattle.apdu.specs.Values.{num, str, id_list, head_values, row_values}
use Rattle.apdu_writing.specs.declared.quill.Quill.{Quill}
use Rattle.apdu.specs.Sound.{part_fits, nested}
use Rattle.apdu_writing.specs.Quill.{Moves, Puts, Known}
use Rattle.apdu.specs.declared.lists.Row.{Row}
use Rattle.apdu.specs.declared.due.Due.{Due}
use Rattle.apdu.specs.RowCounters.{row, level_of, after_row, total, due_list}
use Rattle.apdu_writing.specs.Rows.{Opens, Deep, Next}
use Rattle.apdu.proofs.Dues.{due_front, due_more, due_sums}
use Rattle.apdu_writing.proofs.Chains.{idle, then, before}

-- what is still in range was so before
pub clean : {s : Bool} {is js : List Component} {c r : Quill} {o o' : List ℕ} {vs : List Value} → Moves s is js c r o o' vs → r.ok ≡ true → c.ok ≡ true
clean p h = (p.good h).came

pub stays : {s : Bool} {is js : List Component} {c r : Quill} {o o' : List ℕ} {vs : List Value} → Moves s is js c r o o' vs → c.ok ≡ false → r.ok ≡ false
stays {r = r} p h = by_cases r.ok (λ g. never (sym h ∙ clean p g)) (λ g. g)

module _ (s : List ℕ) (d n start : ℕ) {c e : Quill} {o o₁ : List ℕ} where
  open_string : {r : Quill} {o₂ : List ℕ} → Moves true (container d ∷ []) (content d 2) c e o o₁ (num 2 ∷ []) → Puts (is_inside (length s) start n) (string_form ∷ []) e r o₁ o₂ (str s start n)
      → Opens s d 2 n start c r o o₂
  unfolding content part_fits head_values times
  open_string p q = then p q

  open_eid : {r : Quill} {o₂ : List ℕ} → Moves true (container d ∷ []) (content d 7) c e o o₁ (num 7 ∷ []) → Puts true (integer ∷ []) e r o₁ o₂ (num n ∷ [])
      → Opens s d 7 n start c r o o₂
  unfolding content part_fits head_values times
  open_eid p q = then p q

  open_ids : {r : Quill} {o₂ : List ℕ} → Moves true (container d ∷ []) (content d 8) c e o o₁ (num 8 ∷ []) → Puts (is_inside (length s) start n) (id_count ∷ []) e r o₁ o₂ (id_list s start n)
      → Opens s d 8 n start c r o o₂
  unfolding content part_fits head_values times
  open_ids p q = then p q

  open_rows : {r : Quill} {o₂ : List ℕ} → Moves true (container d ∷ []) (content d 9) c e o o₁ (num 9 ∷ []) → Moves true (row_count (suc d) ∷ []) (times n (row (suc d))) e r o₁ o₂ (num n ∷ [])
      → Opens s d 9 n start c r o o₂
  unfolding content part_fits head_values
  open_rows p q = then p q

  -- a kind that is not known
  open_none : (k : ℕ) {r : Quill} {o₂ : List ℕ} → Moves true (container d ∷ []) (content d k) c e o o₁ (num k ∷ []) → e.ok ≡ false → r.ok ≡ false
      → Opens s d k n start c r o o₂
  unfolding head_values
  open_none k p h g = then p (idle h g)

  module _ {k : ℕ} (p : Moves true (container d ∷ []) (content d k) c e o o₁ (num k ∷ []) × Known d k e) where
    deep : {t : Bool} {is js : List Component} {r : Quill} {o₂ : List ℕ} {vs : List Value} → Moves t is js e r o₁ o₂ vs → Deep d r
    deep q = record { so = λ h. p.1.deep (clean q h) }

    pub head_string : k ≡ 2 → {r : Quill} {o₂ : List ℕ} → Puts (is_inside (length s) start n) (string_form ∷ []) e r o₁ o₂ (str s start n) → Opens s d k n start c r o o₂ × Deep d r
    head_string h q = (rw h (open_string (rw h at p.0) q), deep q)

    pub head_eid : k ≡ 7 → {r : Quill} {o₂ : List ℕ} → Puts true (integer ∷ []) e r o₁ o₂ (num n ∷ []) → Opens s d k n start c r o o₂ × Deep d r
    head_eid h q = (rw h (open_eid (rw h at p.0) q), deep q)

    pub head_ids : k ≡ 8 → {r : Quill} {o₂ : List ℕ} → Puts (is_inside (length s) start n) (id_count ∷ []) e r o₁ o₂ (id_list s start n) → Opens s d k n start c r o o₂ × Deep d r
    head_ids h q = (rw h (open_ids (rw h at p.0) q), deep q)

    pub head_rows : (k ≡ 2 → ⊥) → (k ≡ 7 → ⊥) → (k ≡ 8 → ⊥) → {r : Quill} {o₂ : List ℕ} → Moves true (row_count (d + 1) ∷ []) (times n (row (d + 1))) e r o₁ o₂ (num n ∷ [])
        → Opens s d k n start c r o o₂ × Deep d r
    head_rows a b f {r} q = (
      by_cases (eqb k 9)
          (λ h. let m = eqb-true k 9 h in rw m (open_rows (rw m at p.0) (rw (add-one d) at q)))
          (λ h.
          let no : e.ok ≡ false = by_cases e.ok (λ g. never (sym (unknown h) ∙ p.1.kind g)) (λ g. g) in
          open_none k p.0 no (stays q no)),
      deep q,
    )
      where
        unknown : eqb k 9 ≡ false → known_kind k ≡ false
        unknown h = rw (ne_eqb k 2 a, ne_eqb k 7 b, ne_eqb k 8 f, h)

-- ---- one row

-- what is left to write does not matter where a value is out of range
retarget : {s : Bool} {is js ks : List Component} {c r : Quill} {o o' : List ℕ} {vs : List Value} → r.ok ≡ false → Moves s is js c r o o' vs → Moves s is ks c r o o' vs
retarget h p = record { good = λ g. never (sym h ∙ g); bad = p.bad }

module _ (s : List ℕ) (w : Row) (u : Due) (some : 0 < total u) {level : ℕ} (at : level ≡ level_of u) {c d r : Quill} {o o₁ o₂ : List ℕ} {due : Due}
    (id : Puts true (integer ∷ []) c d o o₁ (num w.id ∷ [])) (box : Opens s level w.kind w.n w.start d r o₁ o₂ × Deep level r)
    (rest : due ≡ after_row u (nested w.kind w.n)) where
  abbrev m : ℕ
  m = nested w.kind w.n

  row_put : Moves (part_fits (length s) w.kind w.n w.start) (due_list u) (times m (row (suc (level_of u))) ++ due_list (after_row u 0)) c r o o₂ (row_values s w)
  unfolding row_values
  row_put =
      let x = due_list (after_row u 0) in
      let e : Opens s (level_of u) w.kind w.n w.start d r o₁ o₂ = rw at at box.0 in
      rw (due_front u some) (then (before (container (level_of u) ∷ x) id) (before x e))

  shallow : r.ok ≡ true → level_of u ≡ 5 → m ≡ 0
  shallow h five = let k = box.1.so h in absurd (omega (arith, at, five))

  row_due : Moves (part_fits (length s) w.kind w.n w.start) (due_list u) (due_list due) c r o o₂ (row_values s w)
  row_due =
      by_cases r.ok
      (λ h. rw (rest, due_more u m (shallow h)) row_put)
      (λ h. retarget h row_put)

  pub next_by : Next s w u c (record { quill = r; due = due }) o o₂
  next_by = record { so = row_due; sums = λ h. rw rest (due_sums u m some (shallow h)) }
