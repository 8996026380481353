-- Attribute rows one after the other, and when they are all that were announced.
-- Assumes nothing.
use Prim.Native.Nat.{ℕ, suc, ◌+◌, ◌-◌, ◌≤◌, ◌<◌}
use mathlib.Core.Path.{◌≡◌, refl, ap, sym, ◌∙◌}
use mathlib.Core.List.{List, [], ◌∷◌, ◌++◌, append_assoc}
use mathlib.Core.Bool.{Bool, true, false, ◌&&◌}
use mathlib.Core.Logic.{◌⊎◌, inl, inr}
use native.Mathlib.Omega.{arith}
use native.Mathlib.Numerals.{add-one}
use lib.ListN.{length, take, drop, get_or, take-append-drop}
use lib.Seq.{take-suc, drop-cons, take_all}
use lib.Dec.{eqb}
use borrow.Author.Tests.{eqb-true, eqb-false, eq-eqb, ne_eqb}
use Rattle.refusals.proofs.Tests.{by_cases, and_true, and_left, and_right}
use Rattle.apdu_format.specs.Component.{Component}
use Rattle.apdu_format.specs.Reading.{Value}
use Rattle.apdu_format.proofs.Tests.{never}
use Rattle.apdu.specs.declared.lists.Row.{Row}
use Rattle.apdu.specs.Values.{rows_values, empty_row}
use Rattle.apdu.proofs.Laws.{drop_all, rows_append, rows_snoc, fit_append, fit_snoc, closes_more}
use Rattle.apdu_writing.specs.declared.quill.Quill.{Quill}
use Rattle.apdu.specs.declared.due.Due.{Due}
use Rattle.apdu_writing.specs.declared.container.RowPut.{RowPut}
use Rattle.apdu.specs.Sound.{parts_fit, closes, rows_sound}
use Rattle.apdu_writing.specs.Quill.{Stops, Moves, Puts, halted}
use Rattle.apdu.specs.RowCounters.{total, due_list}
use Rattle.apdu_writing.specs.Rows.{Next}
use Rattle.apdu_writing.proofs.Chains.{nothing, then}
use Rattle.apdu_writing.proofs.Heads.{clean}
use Rattle.apdu.specs.Tables.{lesser}
use Rattle.apdu.proofs.Dues.{due_none}
use Rattle.apdu.proofs.Tables.{part_length}

-- ---- how many

module _ (table : List Row) (first count : ℕ) {i n : ℕ} (e : length table ≡ 32) (f : n ≡ lesser (32 - first) count) where
  pub part_in : i < n → i < length (take count (drop first table))
  part_in h = omega (arith, part_length table first count e f)

  pub part_end : i ≤ n → n ≤ i → i ≡ length (take count (drop first table))
  part_end h k = omega (arith, part_length table first count e f)

module _ (u : Due) where
  pub due_5 : (u.d5 ≡ 0 → ⊥) → false ≡ eqb (total u) 0
  due_5 h = sym (ne_eqb (total u) 0 (λ z. h (omega arith)))

  pub due_4 : (u.d4 ≡ 0 → ⊥) → false ≡ eqb (total u) 0
  due_4 h = sym (ne_eqb (total u) 0 (λ z. h (omega arith)))

  pub due_3 : (u.d3 ≡ 0 → ⊥) → false ≡ eqb (total u) 0
  due_3 h = sym (ne_eqb (total u) 0 (λ z. h (omega arith)))

  pub due_2 : (u.d2 ≡ 0 → ⊥) → false ≡ eqb (total u) 0
  due_2 h = sym (ne_eqb (total u) 0 (λ z. h (omega arith)))

pub none_due : (u : Due) → u.d5 ≡ 0 → u.d4 ≡ 0 → u.d3 ≡ 0 → u.d2 ≡ 0 → eqb u.d1 0 ≡ eqb (total u) 0
none_due u a b e f =
    by_cases (eqb u.d1 0)
    (λ h. let m = eqb-true u.d1 0 h in h ∙ sym (eq-eqb (total u) 0 (omega arith)))
    (λ h. let m = eqb-false u.d1 0 h in h ∙ sym (ne_eqb (total u) 0 (λ z. m (omega arith))))

pub is_due : (n : ℕ) {r : Bool} → r ≡ eqb n 0 → r ≡ false → 0 < n
is_due n e h = omega (arith, eqb-false n 0 (sym e ∙ h))

-- the same writing, judged otherwise
pub resound : {s : Bool} {is js : List Component} {c r : Quill} {o o' : List ℕ} {vs : List Value} (t : Bool) → Moves s is js c r o o' vs
    → (r.ok ≡ true → s ≡ true → t ≡ true) → (s ≡ false → t ≡ false) → Moves t is js c r o o' vs
resound {s} {is} {js} {c} {r} {o} {o'} {vs} t p f g =
    record {
      good = λ h.
          let m = p.good h in
          record { holds = f h m.holds; came = m.came; w = m.w; small = m.small; k = m.k; whole = m.whole; so = m.so; to = m.to; ink = m.ink };
      bad = λ h k. judged (p.bad h k);
    }
  where
    judged : (s ≡ false) ⊎ Stops is c.room vs → (t ≡ false) ⊎ Stops is c.room vs
    judged (inl x) = inl (g x)
    judged (inr x) = inr x

closes_short : (n : ℕ) → (n ≡ 0 → ⊥) → closes n [] ≡ false
unfolding closes
closes_short n h = let m : n ≡ suc (n - 1) = omega (arith, h) in ap (λ (i : ℕ). closes i []) m

-- ---- the first i of these rows are written

pub record Run (s : List ℕ) (all : List Row) (i : ℕ) (u v : Due) (c d : Quill) (o o' : List ℕ) : Type 0 where
  pub so : Moves (parts_fit (length s) (take i all)) (due_list u) (due_list v) c d o o' (rows_values s (take i all))
  pub counts : d.ok ≡ true → closes (total u) all ≡ closes (total v) (drop i all)

module _ (s : List ℕ) (all : List Row) where
  pub run_none : (u : Due) (c : Quill) (o : List ℕ) → Run s all 0 u u c c o o
  unfolding parts_fit rows_values
  run_none u c o = record { so = nothing (due_list u) c o; counts = λ h. refl }

  module _ {i : ℕ} {u v : Due} {c d : Quill} {o o₁ : List ℕ} (p : Run s all i u v c d o o₁) where
    pub run_more : {w : Row} {r : RowPut} {o₂ : List ℕ} → w ≡ get_or all i empty_row → i < length all → (total v ≡ 0 → ⊥) → Next s w v d r o₁ o₂
        → Run s all (i + 1) u r.due c r.quill o o₂
    run_more {w} {r} e h some q =
        let t : take (i + 1) all ≡ take i all ++ (w ∷ []) =
        ap (λ (k : ℕ). take k all) (add-one i) ∙ take-suc all i empty_row h ∙ ap (λ (x : Row). take i all ++ (x ∷ [])) (sym e) in
        let f : drop i all ≡ w ∷ drop (i + 1) all =
        drop-cons all i empty_row h ∙ ap (λ (x : Row). x ∷ drop (suc i) all) (sym e) ∙ ap (λ (k : ℕ). w ∷ drop k all) (sym (add-one i)) in
        record {
          so = rw (t, fit_snoc (length s) (take i all) w, rows_snoc s (take i all) w) (then p.so q.so);
          counts = λ g.
              p.counts (clean q.so g) ∙ ap (closes (total v)) f ∙ closes_more (total v) w (drop (i + 1) all) (total r.due) some (q.sums g);
        }

    -- rows that are not those announced
    stop : (d.ok ≡ true → closes (total u) all ≡ false) → Puts (rows_sound (length s) (total u) all) (due_list u) c (halted d) o o₁ (rows_values s all)
    unfolding rows_sound
    stop f = record { good = λ h. never h; bad = λ h k. by_cases d.ok (λ g. inl (and_right (parts_fit (length s) all) (f g))) (λ g. early (p.so.bad g k)) }
      where
        split : take i all ++ drop i all ≡ all
        split = take-append-drop i all

        early : (parts_fit (length s) (take i all) ≡ false) ⊎ Stops (due_list u) c.room (rows_values s (take i all))
            → ((parts_fit (length s) all && closes (total u) all) ≡ false) ⊎ Stops (due_list u) c.room (rows_values s all)
        early (inl x) =
            inl (and_left (closes (total u) all) (ap (parts_fit (length s)) (sym split) ∙ fit_append (length s) (take i all) (drop i all) ∙ and_left (parts_fit (length s) (drop i all)) x))
        early (inr x) =
            let e : rows_values s all ≡ rows_values s (take i all) ++ rows_values s (drop i all) = ap (rows_values s) (sym split) ∙ rows_append s (take i all) (drop i all) in
            inr (record { so = λ rest b. rw (e, append_assoc (rows_values s (take i all)) (rows_values s (drop i all)) rest) (x.so (rows_values s (drop i all) ++ rest) b) })

    pub run_over : i < length all → total v ≡ 0 → {r : Quill} → r ≡ halted d → Puts (rows_sound (length s) (total u) all) (due_list u) c r o o₁ (rows_values s all)
    run_over h e x =
        rw x (stop (λ g. p.counts g ∙ ap (closes (total v)) (drop-cons all i empty_row h) ∙ ap (λ (n : ℕ). closes n (get_or all i empty_row ∷ drop (suc i) all)) e ∙ (unfold closes in refl)))

    pub run_short : i ≡ length all → (total v ≡ 0 → ⊥) → {r : Quill} → r ≡ halted d → Puts (rows_sound (length s) (total u) all) (due_list u) c r o o₁ (rows_values s all)
    run_short h e x = rw x (stop (λ g. p.counts g ∙ ap (closes (total v)) (drop_all i all (omega arith)) ∙ closes_short (total v) e))

    pub run_done : i ≡ length all → total v ≡ 0 → Puts (rows_sound (length s) (total u) all) (due_list u) c d o o₁ (rows_values s all)
    unfolding rows_sound
    run_done h e =
        let t : take i all ≡ all = take_all i all (omega arith) in
        let m : Puts (parts_fit (length s) all) (due_list u) c d o o₁ (rows_values s all) = rw (t, due_none v e) at p.so in
        let k : closes 0 [] ≡ true = unfold closes in refl in
        resound (parts_fit (length s) all && closes (total u) all) m
        (λ g x. and_true x (p.counts g ∙ ap (closes (total v)) (drop_all i all (omega arith)) ∙ ap (λ (n : ℕ). closes n []) e ∙ k))
        (λ x. and_left (closes (total u) all) x)
