-- Laws of rows: what the private tests answer, one law for each way out; and the tests over a list, which are the library's. Assumes nothing.
use Rattle.std.proofs.Common.{◌≡◌, ℕ, ◌+◌, ◌-◌, ◌<◌, ◌≤◌, Bool, true, false, not, ◌&&◌, ◌||◌, List, [], ◌∷◌, refl, ap, ◌∙◌, length, suc, arith}
use Rattle.std.specs.List.{list_all, list_any, find}
use lib.Dec.{eqb, ltb, leb}
use Rattle.refusals.proofs.Tests.{by_cases, leb_same}
use borrow.Author.Tests.{eq-eqb, ne_eqb, lt-ltb, le-ltb, le-leb, lt-leb}
use Rattle.directory.specs.declared.Row.{Row}
use Rattle.directory.specs.Directory.{area_octets, row_sound, each_sound, same_area, share_octet, clashes, apart_from, index_of, known_in, row_of, first_row}

pub each_is_all : (f w : ℕ) (rows : List Row) → each_sound f w rows ≡ list_all (row_sound f w) rows
unfolding each_sound
each_is_all f w [] = refl
each_is_all f w (r ∷ rows) = ap (λ b. row_sound f w r && b) (each_is_all f w rows)

not_either : (a b : Bool) → (not a && not b) ≡ not (a || b)
not_either true b = refl
not_either false b = refl

pub apart_is_any : (a : Row) (rows : List Row) → apart_from a rows ≡ not (list_any (clashes a) rows)
unfolding apart_from
apart_is_any a [] = refl
apart_is_any a (r ∷ rows) = rw (apart_is_any a rows) (not_either (clashes a r) (list_any (clashes a) rows))

pub first_is_find : (rows : List Row) (id : ℕ) → first_row rows id ≡ find (λ row. eqb row.id id) rows
unfolding first_row known_in row_of index_of
first_is_find [] id = refl
first_is_find (r ∷ rows) id =
    let first : ltb 0 (suc (length rows)) ≡ true = lt-ltb 0 (suc (length rows)) (omega arith) in
    let later : ltb (suc (index_of id rows)) (suc (length rows)) ≡ ltb (index_of id rows) (length rows) =
    leb_same (suc (suc (index_of id rows))) (suc (length rows)) (suc (index_of id rows)) (length rows) (λ h. omega arith) (λ h. omega arith) in
    by_cases (eqb r.id id) (λ e. simp (e, first)) (λ e. simp (e, later) (first_is_find rows id))

ltb_same : (a b c d : ℕ) → (a < b → c < d) → (c < d → a < b) → ltb a b ≡ ltb c d
ltb_same a b c d f g = leb_same (suc a) b (suc c) d f g

and_true_right : (b : Bool) → b ≡ (b && true)
and_true_right true = refl
and_true_right false = refl

-- ---- one row

module _ (f w : ℕ) (row : Row) {a : ℕ} (is : a ≡ area_octets f w row) where
  pub id_over : 127 < row.id → false ≡ row_sound f w row
  unfolding row_sound
  id_over h = simp (lt-leb _ _ h)

  module _ (i : row.id ≤ 127) where
    pub too_long : 127 < row.length → false ≡ row_sound f w row
    unfolding row_sound
    too_long h = simp (le-leb _ _ i, lt-leb _ _ h)

    module _ (l : row.length ≤ 127) where
      pub past_area : a < row.length → false ≡ row_sound f w row
      unfolding row_sound
      past_area h =
          let k : leb (row.start + row.length) (area_octets f w row) ≡ false = lt-leb (row.start + row.length) (area_octets f w row) (omega arith) in
          simp (le-leb _ _ i, le-leb _ _ l, k)

      pub in_area : row.length ≤ a → leb row.start (a - row.length) ≡ row_sound f w row
      unfolding row_sound
      in_area h =
          let k = leb_same row.start (a - row.length) (row.start + row.length) (area_octets f w row) (λ j. omega arith) (λ j. omega arith) in
          k ∙ simp (le-leb _ _ i, le-leb _ _ l)

-- ---- two rows

module _ (a b : Row) {s : Bool} (is : s ≡ same_area a.writable b.writable) where
  pub other_area : s ≡ false → false ≡ share_octet a b
  unfolding share_octet
  other_area h = simp (← is, h)

  module _ (h : s ≡ true) where
    pub first_empty : a.length ≡ 0 → false ≡ share_octet a b
    unfolding share_octet
    first_empty e = simp (← is, h, le-ltb 0 a.length (omega arith))

    module _ (n : a.length ≡ 0 → ⊥) where
      pub second_empty : b.length ≡ 0 → false ≡ share_octet a b
      unfolding share_octet
      second_empty e = simp (← is, h, lt-ltb 0 a.length (omega arith), le-ltb 0 b.length (omega arith))

      module _ (m : b.length ≡ 0 → ⊥) where
        pub first_before : a.start ≤ b.start → ltb (b.start - a.start) a.length ≡ share_octet a b
        unfolding share_octet
        first_before k =
            let e = ltb_same (b.start - a.start) a.length b.start (a.start + a.length) (λ j. omega arith) (λ j. omega arith) in
            e ∙ simp (← is, h, lt-ltb 0 a.length (omega arith), lt-ltb 0 b.length (omega arith), lt-ltb a.start (b.start + b.length) (omega arith))

        pub second_before : b.start < a.start → ltb (a.start - b.start) b.length ≡ share_octet a b
        unfolding share_octet
        second_before k =
            let e = ltb_same (a.start - b.start) b.length a.start (b.start + b.length) (λ j. omega arith) (λ j. omega arith) in
            e ∙ simp (← is, h, lt-ltb 0 a.length (omega arith), lt-ltb 0 b.length (omega arith), lt-ltb b.start (a.start + a.length) (omega arith)) (and_true_right (ltb a.start (b.start + b.length)))

pub clash_id : (a b : Row) → a.id ≡ b.id → true ≡ clashes a b
unfolding clashes
clash_id a b e = simp (eq-eqb _ _ e)

pub clash_octet : (a b : Row) {s : Bool} → (a.id ≡ b.id → ⊥) → s ≡ share_octet a b → s ≡ clashes a b
unfolding clashes
clash_octet a b n e = e ∙ simp (ne_eqb _ _ n)
