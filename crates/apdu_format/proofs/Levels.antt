-- No message goes deeper than the levels that reading and writing allow: a component that is accepted brings only lower ones.
-- Assumes nothing.
use Prim.Native.Nat.{ℕ, zero, suc, ◌+◌, ◌-◌, ◌*◌, ◌≤◌}
use mathlib.Core.Path.{◌≡◌, refl, sym, ◌∙◌}
use mathlib.Core.List.{List, [], ◌∷◌, ◌++◌}
use mathlib.Core.Bool.{Bool, true, false, ◌&&◌}
use native.Mathlib.Omega.{arith}
use lib.ListN.{get_or, drop}
use lib.Dec.{ltb, leb, eqb}
use borrow.Author.Tests.{ltb-false, leb-true, eqb-true}
use Rattle.refusals.specs.Check.{first_of}
use Rattle.apdu_format.specs.Limits.{deepest}
use Rattle.apdu_format.specs.Component.{Component, choice, lead, integer, fixed, string_form, string_length, string_octets, id_count, list_start, row_count, entry_count, entry, container, class, octet_string, dsrc_eid, attribute_id_list, attribute_list}
use Rattle.apdu_format.specs.Table.{Part, always, given, Layout, layout, table, layout_of}
use Rattle.apdu_format.specs.Rules.{shape, checks_of, brings, content, present, times, when, is_set, after}
use Rattle.apdu_format.specs.Reading.{numbers_of, value_at, State, Step, fault_of, judged, step, through, run}
use Rattle.refusals.proofs.Tests.{by_test}
use Rattle.apdu_format.proofs.Tests.{both}
use Rattle.apdu_format.proofs.Rewriting.{no_fault}

-- how many levels a component takes, with what it brings
unfoldable pub height : Component → ℕ
height choice = 14
height (lead k) = 13
height integer = 1
height (fixed n) = 1
height string_form = 3
height string_length = 2
height (string_octets n) = 1
height id_count = 2
height list_start = 1
height (row_count d) = 3 + 2 * (5 - d)
height entry_count = 12
height entry = 11
height (container d) = 2 + 2 * (5 - d)
height class = 2

pub height_pos : (i : Component) → 1 ≤ height i
unfolding height
height_pos choice = omega arith
height_pos (lead k) = omega arith
height_pos integer = omega arith
height_pos (fixed n) = omega arith
height_pos string_form = omega arith
height_pos string_length = omega arith
height_pos (string_octets n) = omega arith
height_pos id_count = omega arith
height_pos list_start = omega arith
height_pos (row_count d) = omega arith
height_pos entry_count = omega arith
height_pos entry = omega arith
height_pos (container d) = omega arith
height_pos class = omega arith

pub height_most : (i : Component) → height i ≤ 14
unfolding height
height_most choice = omega arith
height_most (lead k) = omega arith
height_most integer = omega arith
height_most (fixed n) = omega arith
height_most string_form = omega arith
height_most string_length = omega arith
height_most (string_octets n) = omega arith
height_most id_count = omega arith
height_most list_start = omega arith
height_most (row_count d) = omega arith
height_most entry_count = omega arith
height_most entry = omega arith
height_most (container d) = omega arith
height_most class = omega arith

-- none of these takes more than l levels
abbrev pub Low : ℕ → List Component → Type 0
Low l [] = Unit {0}
Low l (i ∷ is) = (height i ≤ l) × Low l is

low_append : (l : ℕ) (is js : List Component) → Low l is → Low l js → Low l (is ++ js)
low_append l [] js h k = k
low_append l (i ∷ is) js h k = (h.0, low_append l is js h.1 k)

low_times : (l n : ℕ) (is : List Component) → Low l is → Low l (times n is)
unfolding times
low_times l zero is h = tt
low_times l (suc n) is h = low_append l is (times n is) h (low_times l n is h)

low_when : (l : ℕ) (p : Bool) (is : List Component) → Low l is → Low l (when p is)
low_when l true is h = h
low_when l false is h = tt

-- ---- the table, line by line

low_part : Part → Bool
low_part (always i) = leb (height i) 12
low_part (given n i) = leb (height i) 12

low_parts : List Part → Bool
low_parts [] = true
low_parts (p ∷ ps) = low_part p && low_parts ps

low_lines : List Layout → Bool
low_lines [] = true
low_lines (y ∷ ys) = low_parts y.body && low_lines ys

low_line : (ys : List Layout) (k : ℕ) → low_lines ys ≡ true → low_parts (get_or ys k (layout (4 ∷ []) [])).body ≡ true
unfolding low_lines low_parts
low_line [] k h = refl
low_line (y ∷ ys) zero h = (both (low_parts y.body) (low_lines ys) h).0
low_line (y ∷ ys) (suc k) h = low_line ys k (both (low_parts y.body) (low_lines ys) h).1

low_layout : (k : ℕ) → low_parts (layout_of k).body ≡ true
unfolding layout_of
low_layout k = low_line table k (unfold low_lines low_parts low_part height in refl)

low_present : (l : ℕ) → 12 ≤ l → (fs : List ℕ) (ps : List Part) → low_parts ps ≡ true → Low l (present fs ps)
unfolding present low_parts low_part
low_present l k fs [] h = tt
low_present l k fs (always i ∷ ps) h =
    let q = both (leb (height i) 12) (low_parts ps) h in
    let a = leb-true (height i) 12 q.0 in
    (omega arith, low_present l k fs ps q.1)
low_present l k fs (given n i ∷ ps) h =
    let q = both (leb (height i) 12) (low_parts ps) h in
    let a = leb-true (height i) 12 q.0 in
    low_append l (when (is_set fs n) (i ∷ [])) (present fs ps) (low_when l (is_set fs n) (i ∷ []) (omega arith, tt)) (low_present l k fs ps q.1)

-- ---- what an accepted component brings

-- a container that is accepted stands no deeper than 4
shallow : (d room : ℕ) (fs : List ℕ) → first_of (checks_of (container d) room fs) ≡ 0 → d ≤ deepest
unfolding checks_of first_of
shallow d room fs =
    by_test (λ (k : ℕ). k ≡ 0 → d ≤ deepest) (is_set fs 0) (λ p h. absurd (omega arith))
    (λ p. by_test (λ (k : ℕ). k ≡ 0 → d ≤ deepest) (ltb deepest d) (λ q h. absurd (omega arith)) (λ q h. ltb-false _ _ q))

-- what holds of each list that a container may hold
pub by_content : (P : List Component → Type 0) (d k : ℕ) → P (string_form ∷ []) → P (integer ∷ []) → P (id_count ∷ []) → P (row_count (suc d) ∷ []) → P [] → P (content d k)
unfolding content
by_content P d k a b c e f =
    by_test P (eqb k octet_string) (λ h. a)
    (λ h. by_test P (eqb k dsrc_eid) (λ h. b) (λ h. by_test P (eqb k attribute_id_list) (λ h. c) (λ h. by_test P (eqb k attribute_list) (λ h. e) (λ h. f))))

pub brings_low : (i : Component) (room : ℕ) (fs : List ℕ) (l : ℕ) → height i ≤ suc l → first_of (checks_of i room fs) ≡ 0 → Low l (brings i fs)
unfolding brings height
brings_low choice room fs l h ok = (omega arith, tt)
brings_low (lead k) room fs l h ok = low_present l (omega arith) fs (layout_of k).body (low_layout k)
brings_low integer room fs l h ok = tt
brings_low (fixed n) room fs l h ok = tt
brings_low string_form room fs l h ok = (omega arith, tt)
brings_low string_length room fs l h ok = (omega arith, tt)
brings_low (string_octets n) room fs l h ok = tt
brings_low id_count room fs l h ok = (omega arith, low_times l (after fs) (integer ∷ []) (omega arith, tt))
brings_low list_start room fs l h ok = tt
brings_low (row_count d) room fs l h ok = low_times l (after fs) (integer ∷ container d ∷ []) (omega arith, (omega arith, tt))
brings_low entry_count room fs l h ok = low_times l (after fs) (entry ∷ []) (omega arith, tt)
brings_low entry room fs l h ok =
    low_append l (when (is_set fs 0) (integer ∷ [])) (when (is_set fs 1) (container 1 ∷ [])) (low_when l (is_set fs 0) (integer ∷ []) (omega arith, tt))
    (low_when l (is_set fs 1) (container 1 ∷ []) (omega arith, tt))
brings_low (container d) room fs l h ok =
    let s : d ≤ 4 = shallow d room fs ok in
    by_content (Low l) d (after fs) (omega arith, tt) (omega arith, tt) (omega arith, tt) (omega arith, tt) tt
brings_low class room fs l h ok = (omega arith, low_when l (is_set fs 0) (fixed 2 ∷ []) (omega arith, tt))

-- ---- more levels change nothing

module _ (b : List ℕ) where
  step_low : (l : ℕ) (i : Component) (d : State) → height i ≤ suc l → Low l (step b i d).more
  unfolding step judged
  step_low l i d h =
      let v = value_at (shape i) d.at (drop d.at b) in
      by_test (λ (t : Step). Low l t.more) (eqb d.fault 0)
      (λ p. by_test (λ (t : Step). Low l t.more) (eqb (fault_of b i d v) 0)
      (λ q. brings_low i d.room (numbers_of v) l h (no_fault b i d v (eqb-true _ _ q)).1)
      (λ q. tt))
      (λ p. tt)

  pub run_nil : (l : ℕ) (d : State) → run b l [] d ≡ d
  unfolding run through
  run_nil zero d = refl
  run_nil (suc l) d = refl

  abbrev Levels : ℕ → ℕ → Type 0
  Levels l k = (is : List Component) (d : State) → Low l is → Low k is → run b l is d ≡ run b k is d

  next_levels : (l k : ℕ) → Levels l k → Levels (suc l) (suc k)
  unfolding run through
  next_levels l k ih [] d p q = refl
  next_levels l k ih (i ∷ is) d p q =
      let t = step b i d in
      let e = ih t.more t.state (step_low l i d p.0) (step_low k i d q.0) in
      rw e (next_levels l k ih is (run b k t.more t.state) p.1 q.1)

  pub run_levels : (l k : ℕ) → Levels l k
  run_levels zero k [] d p q = run_nil zero d ∙ sym (run_nil k d)
  run_levels zero k (i ∷ is) d p q = absurd (omega (arith, height_pos i, p.0))
  run_levels (suc l) zero [] d p q = run_nil (suc l) d ∙ sym (run_nil zero d)
  run_levels (suc l) zero (i ∷ is) d p q = absurd (omega (arith, height_pos i, q.0))
  run_levels (suc l) (suc k) is d p q = next_levels l k (run_levels l k) is d p q
