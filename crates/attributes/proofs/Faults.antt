-- The return status: checks in a row, a row that was looked up, and the rows in turn. What one row answers is the line of `get_fault` or `set_fault` itself.
-- Assumes nothing.
use Prim.Native.Nat.{ℕ, suc, ◌+◌, ◌-◌, ◌*◌, ◌≤◌, ◌<◌}
use mathlib.Core.Path.{◌≡◌, refl, ap, sym, ◌∙◌}
use mathlib.Core.Bool.{Bool, true, false}
use mathlib.Core.List.{List, [], ◌∷◌, ◌++◌}
use native.Mathlib.Omega.{arith}
use native.Mathlib.Numerals.{add-one}
use lib.ListN.{length, get_or, take, drop}
use lib.Seq.{drop-cons, drop-length, get_or-take, length-take-le}
use Rattle.refusals.specs.Check.{Check, check, first_of}
use Rattle.refusals.proofs.Tests.{by_cases, by_test}
use Rattle.bits.specs.Bits.{field}
use Rattle.apdu.specs.Values.{empty_row}
use Rattle.directory.specs.declared.Row.{Row}
use Rattle.std.proofs.Common.{Option, MatchOption}
use Rattle.std.specs.Option.{unwrap_or}
use Rattle.directory.specs.Directory.{no_row, known_in, row_of, first_row, finding}
use Rattle.directory.proofs.Looking.{few_finding, first_of_id}
use Rattle.attributes.specs.declared.status.Status.{Status}
use Rattle.attributes.specs.declared.status.Status.TheVariants as status
use Rattle.attributes.specs.Inside.{number_of}
use Rattle.attributes.specs.Serving.{Attribute, get_fault, get_faults, set_fault, set_faults, ids_from, set_row, set_rows}

-- ---- checks in a row

-- what is found in the first list is found in both
pub first_found : (xs ys : List Check) → (first_of xs ≡ 0 → ⊥) → first_of (xs ++ ys) ≡ first_of xs
unfolding first_of
first_found [] ys h = absurd (h refl)
first_found (x ∷ xs) ys h = by_cases x.holds (λ t. rw t) (λ t. rw t (first_found xs ys (λ z. h (rw t z))))

-- and where two checks do not hold, those behind them decide
two_pass : (a b : ℕ) (p q : Bool) (ys : List Check) → first_of (check (suc a) p ∷ check (suc b) q ∷ []) ≡ 0 → first_of (check (suc a) p ∷ check (suc b) q ∷ ys) ≡ first_of ys
unfolding first_of
two_pass a b true q ys h = absurd (omega arith)
two_pass a b false true ys h = absurd (omega arith)
two_pass a b false false ys h = refl

-- ---- a row that was looked up

module _ (rows : List Row) (few : length rows ≤ 32) (id : ℕ) where
  pub looked_up : MatchOption (finding rows id) (known_in id rows ≡ false) (λ row. (known_in id rows ≡ true) × (row ≡ row_of id rows))
  unfolding first_row
  looked_up =
      rw (few_finding rows few id)
      (by_test (λ (o : Option Row). MatchOption o (known_in id rows ≡ false) (λ row. (known_in id rows ≡ true) × (row ≡ row_of id rows))) (known_in id rows) (λ k. (k, refl)) (λ k. k))

  pub row_is : unwrap_or (finding rows id) no_row ≡ row_of id rows
  row_is = rw (few_finding rows few id) (first_of_id rows id)

-- a status is not 0
pub status_nonzero : (status : Status) → number_of status ≡ 0 → ⊥
status_nonzero status.AccessDenied e = absurd (omega arith)
status_nonzero status.ArgumentError e = absurd (omega arith)
status_nonzero status.ComplexityLimitation e = absurd (omega arith)

-- ---- the rows in turn

module _ (s : List ℕ) (ids count : ℕ) where
  pub ids_more : (i : ℕ) → i < count → ids_from s (ids + 8 * i) (count - i) ≡ field s (ids + 8 * i + 1) 7 ∷ ids_from s (ids + 8 * (i + 1)) (count - (i + 1))
  unfolding ids_from
  ids_more i h =
      let a : count - i ≡ suc (count - (i + 1)) = omega arith in
      let b : ids + 8 * i + 8 ≡ ids + 8 * (i + 1) = omega arith in
      ap (ids_from s (ids + 8 * i)) a ∙ ap (λ (k : ℕ). field s (ids + 8 * i + 1) 7 ∷ ids_from s k (count - (i + 1))) b

  pub ids_none : (i : ℕ) → i ≡ count → ids_from s (ids + 8 * i) (count - i) ≡ []
  unfolding ids_from
  ids_none i e = let z : count - i ≡ 0 = omega arith in ap (ids_from s (ids + 8 * i)) z

  pub ids_all : ids_from s ids count ≡ ids_from s (ids + 8 * 0) (count - 0)
  ids_all =
      let a : ids ≡ ids + 8 * 0 = omega arith in
      let b : count ≡ count - 0 = omega arith in
      ap (λ (k : ℕ). ids_from s k count) a ∙ ap (ids_from s (ids + 8 * 0)) b

  module _ (rows : List Row) (exact : Bool) where
    -- the status of the ids from the i-th on
    abbrev pub ids_left : ℕ → ℕ
    ids_left i = first_of (get_faults rows exact (ids_from s (ids + 8 * i) (count - i)))

    left_more : (i : ℕ) → i < count → ids_left i ≡ first_of (get_fault rows exact (field s (ids + 8 * i + 1) 7) ++ get_faults rows exact (ids_from s (ids + 8 * (i + 1)) (count - (i + 1))))
    unfolding get_faults
    left_more i h = ap (λ (l : List ℕ). first_of (get_faults rows exact l)) (ids_more i h)

    module _ (i : ℕ) (h : i < count) {k : ℕ} (is : k ≡ first_of (get_fault rows exact (field s (ids + 8 * i + 1) 7))) where
      pub ids_fault : (k ≡ 0 → ⊥) → ids_left i ≡ k
      ids_fault n = left_more i h ∙ first_found (get_fault rows exact (field s (ids + 8 * i + 1) 7)) _ (λ z. n (is ∙ z)) ∙ sym is

      pub ids_pass : k ≡ 0 → ids_left i ≡ ids_left (i + 1)
      ids_pass z = left_more i h ∙ (unfold get_fault in two_pass 1 0 _ _ _ (sym (unfold get_fault in is) ∙ z))

    pub ids_end : (i : ℕ) → i ≡ count → ids_left i ≡ 0
    unfolding get_faults first_of
    ids_end i e = ap (λ (l : List ℕ). first_of (get_faults rows exact l)) (ids_none i e)

-- the attributes from the i-th on
abbrev pub from : List Attribute → ℕ → ℕ → List Attribute
from attributes count i = drop i (take count attributes)

abbrev pub sets_left : List Attribute → ℕ → List Row → Bool → ℕ → ℕ
sets_left attributes count rows exact i = first_of (set_faults rows exact (from attributes count i))

module _ (attributes : List Attribute) (count : ℕ) (long : count ≤ length attributes) where
  from_more : (i : ℕ) → i < count → from attributes count i ≡ get_or attributes i empty_row ∷ from attributes count (i + 1)
  from_more i h =
      let k = length-take-le count attributes long in
      drop-cons (take count attributes) i empty_row (omega arith) ∙ ap (λ (r : Attribute). r ∷ drop (suc i) (take count attributes)) (get_or-take count attributes i empty_row h)
      ∙ ap (λ (j : ℕ). get_or attributes i empty_row ∷ drop j (take count attributes)) (sym (add-one i))

  from_none : (i : ℕ) → i ≡ count → from attributes count i ≡ []
  from_none i e = ap (λ (j : ℕ). drop j (take count attributes)) (e ∙ sym (length-take-le count attributes long)) ∙ drop-length (take count attributes)

  module _ (rows : List Row) (exact : Bool) where
    sets_more : (i : ℕ) → i < count → sets_left attributes count rows exact i ≡ first_of (set_fault rows exact (get_or attributes i empty_row) ++ set_faults rows exact (from attributes count (i + 1)))
    unfolding set_faults
    sets_more i h = ap (λ (l : List Attribute). first_of (set_faults rows exact l)) (from_more i h)

    module _ (i : ℕ) (h : i < count) {k : ℕ} (is : k ≡ first_of (set_fault rows exact (get_or attributes i empty_row))) where
      pub sets_fault : (k ≡ 0 → ⊥) → sets_left attributes count rows exact i ≡ k
      sets_fault n = sets_more i h ∙ first_found (set_fault rows exact (get_or attributes i empty_row)) _ (λ z. n (is ∙ z)) ∙ sym is

      pub sets_pass : k ≡ 0 → sets_left attributes count rows exact i ≡ sets_left attributes count rows exact (i + 1)
      sets_pass z = sets_more i h ∙ (unfold set_fault in two_pass 1 0 _ _ _ (sym (unfold set_fault in is) ∙ z))

    pub sets_end : (i : ℕ) → i ≡ count → sets_left attributes count rows exact i ≡ 0
    unfolding set_faults first_of
    sets_end i e = ap (λ (l : List Attribute). first_of (set_faults rows exact l)) (from_none i e)

  module _ (s : List ℕ) (rows : List Row) where
    pub rows_more : (i : ℕ) (w : List ℕ) → i < count → set_rows s rows (from attributes count i) w ≡ set_rows s rows (from attributes count (i + 1)) (set_row s rows (get_or attributes i empty_row) w)
    unfolding set_rows
    rows_more i w h = ap (λ (l : List Attribute). set_rows s rows l w) (from_more i h)

    pub rows_end : (i : ℕ) (w : List ℕ) → i ≡ count → set_rows s rows (from attributes count i) w ≡ w
    unfolding set_rows
    rows_end i w e = ap (λ (l : List Attribute). set_rows s rows l w) (from_none i e)
