-- The rows that are due: the next one, and what is due behind it.
-- Assumes nothing.
use Prim.Native.Nat.{ℕ, suc, ◌+◌, ◌-◌, ◌<◌}
use mathlib.Core.Path.{◌≡◌, refl, ap, ◌∙◌}
use mathlib.Core.List.{List, [], ◌++◌, append_assoc, append-nil}
use native.Mathlib.Omega.{arith}
use lib.Dec.{eqb}
use borrow.Author.Tests.{eqb-true, eqb-false}
use Rattle.refusals.proofs.Tests.{by_cases}
use Rattle.apdu_format.specs.Component.{Component}
use Rattle.apdu_format.specs.Rules.{times}
use Rattle.apdu.specs.declared.due.Due.{Due}
use Rattle.apdu.specs.RowCounters.{row, level_of, after_row, total, due_list}

times_more : (n : ℕ) (is : List Component) → (n ≡ 0 → ⊥) → times n is ≡ is ++ times (n - 1) is
unfolding times
times_more n is h = let e : n ≡ suc (n - 1) = omega (arith, h) in ap (λ (k : ℕ). times k is) e

-- the first of several lists of rows
first_more : (n d : ℕ) (rest : List Component) → (n ≡ 0 → ⊥) → times n (row d) ++ rest ≡ row d ++ (times (n - 1) (row d) ++ rest)
first_more n d rest h = ap (λ (l : List Component). l ++ rest) (times_more n (row d) h) ∙ append_assoc (row d) (times (n - 1) (row d)) rest

abbrev Front : Due → Type 0
Front u = due_list u ≡ row (level_of u) ++ due_list (after_row u 0)

abbrev More : Due → ℕ → Type 0
More u n = due_list (after_row u n) ≡ times n (row (suc (level_of u))) ++ due_list (after_row u 0)

abbrev Sums : Due → ℕ → Type 0
Sums u n = total (after_row u n) + 1 ≡ total u + n

module _ (u : Due) where
  abbrev l1 : List Component
  l1 = times u.d1 (row 1)

  abbrev l2 : List Component
  l2 = times u.d2 (row 2) ++ l1

  abbrev l3 : List Component
  l3 = times u.d3 (row 3) ++ l2

  abbrev l4 : List Component
  l4 = times u.d4 (row 4) ++ l3

  -- the next row
  pub due_front : 0 < total u → Front u
  unfolding due_list level_of after_row times
  due_front h =
      by_cases (eqb u.d5 0)
      (λ a5. let e5 = eqb-true u.d5 0 a5 in
      by_cases (eqb u.d4 0)
      (λ a4. let e4 = eqb-true u.d4 0 a4 in
      by_cases (eqb u.d3 0)
      (λ a3. let e3 = eqb-true u.d3 0 a3 in
      by_cases (eqb u.d2 0)
      (λ a2. let e2 = eqb-true u.d2 0 a2 in rw (e5, e4, e3, e2) (times_more u.d1 (row 1) (λ z. omega arith)))
      (λ a2. rw (a2, e5, e4, e3) (first_more u.d2 2 l1 (eqb-false u.d2 0 a2))))
      (λ a3. rw (a3, e5, e4) (first_more u.d3 3 l2 (eqb-false u.d3 0 a3))))
      (λ a4. rw (a4, e5) (first_more u.d4 4 l3 (eqb-false u.d4 0 a4))))
      (λ a5. rw a5 (first_more u.d5 5 l4 (eqb-false u.d5 0 a5)))

  -- what is due behind a row that announces n rows
  pub due_more : (n : ℕ) → (level_of u ≡ 5 → n ≡ 0) → More u n
  unfolding due_list level_of after_row times
  due_more n =
      by_cases (eqb u.d5 0)
      (λ a5.
      by_cases (eqb u.d4 0)
      (λ a4.
      by_cases (eqb u.d3 0)
      (λ a3.
      by_cases (eqb u.d2 0)
      (λ a2 h. rw (a5, a4, a3, a2))
      (λ a2 h. rw (a5, a4, a3, a2)))
      (λ a3 h. rw (a5, a4, a3)))
      (λ a4 h. rw (a5, a4)))
      (λ a5 h. rw (a5, h (rw a5)))

  pub due_sums : (n : ℕ) → 0 < total u → (level_of u ≡ 5 → n ≡ 0) → Sums u n
  unfolding level_of after_row
  due_sums n h =
      by_cases (eqb u.d5 0)
      (λ a5. let e5 = eqb-true u.d5 0 a5 in
      by_cases (eqb u.d4 0)
      (λ a4. let e4 = eqb-true u.d4 0 a4 in
      by_cases (eqb u.d3 0)
      (λ a3. let e3 = eqb-true u.d3 0 a3 in
      by_cases (eqb u.d2 0)
      (λ a2 k.
      let e2 = eqb-true u.d2 0 a2 in
      let e : after_row u n ≡ record { d1 = u.d1 - 1; d2 = n; d3 = 0; d4 = 0; d5 = 0 } = rw (a5, a4, a3, a2) in
      sums e (omega arith))
      (λ a2 k.
      let e2 = eqb-false u.d2 0 a2 in
      let e : after_row u n ≡ record { d1 = u.d1; d2 = u.d2 - 1; d3 = n; d4 = 0; d5 = 0 } = rw (a5, a4, a3, a2) in
      sums e (omega (arith, e2))))
      (λ a3 k.
      let e3 = eqb-false u.d3 0 a3 in
      let e : after_row u n ≡ record { d1 = u.d1; d2 = u.d2; d3 = u.d3 - 1; d4 = n; d5 = 0 } = rw (a5, a4, a3) in
      sums e (omega (arith, e3))))
      (λ a4 k.
      let e4 = eqb-false u.d4 0 a4 in
      let e : after_row u n ≡ record { d1 = u.d1; d2 = u.d2; d3 = u.d3; d4 = u.d4 - 1; d5 = n } = rw (a5, a4) in
      sums e (omega (arith, e4))))
      (λ a5 k.
      let e5 = eqb-false u.d5 0 a5 in
      let z : n ≡ 0 = k (rw a5) in
      let e : after_row u n ≡ record { d1 = u.d1; d2 = u.d2; d3 = u.d3; d4 = u.d4; d5 = u.d5 - 1 } = rw a5 in
      sums e (omega (arith, e5)))
    where
      sums : {v w : Due} → v ≡ w → total w + 1 ≡ total u + n → total v + 1 ≡ total u + n
      sums e m = rw e m

  -- none is due
  pub due_none : total u ≡ 0 → due_list u ≡ []
  unfolding due_list times
  due_none h =
      let e5 : u.d5 ≡ 0 = omega arith in
      let e4 : u.d4 ≡ 0 = omega arith in
      let e3 : u.d3 ≡ 0 = omega arith in
      let e2 : u.d2 ≡ 0 = omega arith in
      let e1 : u.d1 ≡ 0 = omega arith in
      rw (e5, e4, e3, e2, e1)

-- ---- one list alone

-- the n rows of a container at depth 1, and those of a message's own list
abbrev pub two : ℕ → Due
two n = record { d1 = 0; d2 = n; d3 = 0; d4 = 0; d5 = 0 }

abbrev pub one : ℕ → Due
one n = record { d1 = n; d2 = 0; d3 = 0; d4 = 0; d5 = 0 }

pub due_two : (n : ℕ) → due_list (two n) ≡ times n (row 2)
unfolding due_list times
due_two n = append-nil (times n (row 2))

pub due_one : (n : ℕ) → due_list (one n) ≡ times n (row 1)
unfolding due_list times
due_one n = refl

pub total_two : (n : ℕ) → total (two n) ≡ n
total_two n = omega arith

pub total_one : (n : ℕ) → total (one n) ≡ n
total_one n = omega arith
