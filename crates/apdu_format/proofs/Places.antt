-- Every place that reading passes, and every position that it reports, is inside the message, and no number that it refuses with is above 21.
-- Assumes nothing.
use Prim.Native.Nat.{ℕ, zero, suc, ◌*◌, ◌≤◌}
use mathlib.Core.Path.{◌≡◌, refl}
use mathlib.Core.Bool.{true}
use mathlib.Core.List.{List, [], ◌∷◌}
use native.Mathlib.Omega.{arith}
use lib.ListN.{length, drop}
use lib.Dec.{eqb}
use borrow.Author.Tests.{eqb-true}
use Rattle.apdu_format.specs.Component.{Component, choice, lead, integer, fixed, string_form, string_length, string_octets, id_count, list_start, row_count, entry_count, entry, container, class}
use Rattle.apdu_format.specs.Rules.{shape, begins, checks_of}
use Rattle.apdu_format.specs.Reading.{Value, value_at, numbers_of, State, Step, octet_of, beginning, fault_of, position_of, judged, step, through, run}
use Rattle.refusals.proofs.Tests.{by_test, numbers_to, first_le}
use Rattle.apdu_format.proofs.Rewriting.{no_fault}

-- the places of d are inside n octets, and its fault is one of reading's
pub record Within (n : ℕ) (d : State) : Type 0 where
  pub at : d.at ≤ 8 * n
  pub begun : d.begun ≤ 8 * n
  pub position : d.position ≤ n
  pub fault : d.fault ≤ 21

checks_known : (i : Component) (room : ℕ) (fs : List ℕ) → numbers_to 21 (checks_of i room fs) ≡ true
unfolding checks_of numbers_to
checks_known choice room fs = refl
checks_known (lead k) room fs = refl
checks_known integer room fs = refl
checks_known (fixed n) room fs = refl
checks_known string_form room fs = refl
checks_known string_length room fs = refl
checks_known (string_octets n) room fs = refl
checks_known id_count room fs = refl
checks_known list_start room fs = refl
checks_known (row_count d) room fs = refl
checks_known entry_count room fs = refl
checks_known entry room fs = refl
checks_known (container d) room fs = refl
checks_known class room fs = refl

fault_known : (b : List ℕ) (i : Component) (d : State) (v : Value) → fault_of b i d v ≤ 21
unfolding fault_of numbers_to
fault_known b i d v = first_le 21 _ (checks_known i d.room (numbers_of v))

module _ (b : List ℕ) (n : ℕ) (long : length b ≡ 8 * n) where
  beginning_within : (i : Component) (d : State) → Within n d → beginning i d ≤ 8 * n
  unfolding beginning
  beginning_within i d w = by_test (λ (k : ℕ). k ≤ 8 * n) (begins i) (λ p. w.at) (λ p. w.begun)

  position_within : (k begun : ℕ) → begun ≤ 8 * n → position_of b k begun ≤ n
  unfolding position_of octet_of
  position_within k begun h = by_test (λ (p : ℕ). p ≤ n) (eqb k 13) (λ p. omega arith) (λ p. omega arith)

  step_within : (i : Component) (d : State) → Within n d → Within n (step b i d).state
  unfolding step judged
  step_within i d w =
      let v = value_at (shape i) d.at (drop d.at b) in
      let g = beginning_within i d w in
      by_test (λ (t : Step). Within n t.state) (eqb d.fault 0)
      (λ p. by_test (λ (t : Step). Within n t.state) (eqb (fault_of b i d v) 0)
      (λ q. let e = no_fault b i d v (eqb-true _ _ q) in record { at = omega (arith, e.0); begun = g; position = omega arith; fault = omega arith })
      (λ q. record { at = w.at; begun = w.begun; position = position_within (fault_of b i d v) (beginning i d) g; fault = fault_known b i d v }))
      (λ p. w)

  through_within : (f : Component → State → State) → ((i : Component) (d : State) → Within n d → Within n (f i d)) → (is : List Component) (d : State) → Within n d → Within n (through f is d)
  unfolding through
  through_within f k [] d w = w
  through_within f k (i ∷ is) d w = through_within f k is (f i d) (k i d w)

  pub run_within : (l : ℕ) (is : List Component) (d : State) → Within n d → Within n (run b l is d)
  unfolding run
  run_within zero is d w = w
  run_within (suc l) is d w =
      through_within (λ i d. let t = step b i d in run b l t.more t.state) (λ i d w. run_within l (step b i d).more (step b i d).state (step_within i d w)) is d w
