-- What is known of a component with an extension bit that was read: its number, the checks that it passed, its bounds.
-- Assumes nothing.
use Prim.Native.Nat.{ℕ, ◌+◌, ◌-◌, ◌*◌, ◌≤◌, ◌<◌}
use mathlib.Core.Path.{◌≡◌, refl, ap, ◌∙◌}
use mathlib.Core.List.{List, [], ◌∷◌}
use mathlib.Core.Bool.{Bool, true, false, not}
use native.Mathlib.Omega.{arith}
use lib.ListN.{length}
use lib.Dec.{ltb, eqb}
use borrow.Author.Tests.{eqb-true, eqb-false, ltb-false}
use Rattle.refusals.specs.Check.{Check, check, first_of}
use Rattle.refusals.proofs.Tests.{by_cases}
use Rattle.bits.specs.Bits.{read_field}
use Rattle.apdu_format.specs.Limits.{most_counted, deepest}
use Rattle.apdu_format.specs.Component.{Component, integer, id_count, container}
use Rattle.apdu_format.specs.Rules.{shape, begins, known_kind, checks_of, announced}
use Rattle.apdu_format.specs.Reading.{fields, sum, need, fields_of, value_at}
use Rattle.apdu.specs.Values.{num}
use Rattle.apdu_reading.specs.declared.cursor.Cursor.{Cursor}
use Rattle.apdu_reading.specs.Cursor.{cursor, component, judged_by}
use Rattle.apdu_reading.proofs.Pieces.{sees, good, fine, silent}
use Rattle.apdu_reading.proofs.Components.{Extended, count_extended, numbers_are, octet, rest, rest_lt, top, top_lt, kind_is}

-- ---- what is known of a component with an extension bit that was read

pub record ReadAs (s : List ℕ) (i : Component) (c : Cursor) (ts : ℕ → ℕ → List Check) : Type 0 where
  pub clean : c.fault ≡ 0
  pub there : c.at + 8 ≤ 8 * length s
  pub right : first_of (ts c.room (rest s c.at)) ≡ 0
  pub saw : sees s i c ≡ num (rest s c.at)
  pub is : component s i c ≡ cursor (c.at + 8) c.at (c.room - announced i (0 ∷ rest s c.at ∷ [])) 0 0 (rest s c.at) 0

passed_16 : (b : Bool) (ks : List Check) → first_of (check 16 b ∷ ks) ≡ 0 → (b ≡ false) × (first_of ks ≡ 0)
unfolding first_of
passed_16 true ks h = absurd (omega arith)
passed_16 false ks h = (refl, h)

module _ {i : Component} {ts : ℕ → ℕ → List Check} (k : Extended i ts) (s : List ℕ) (c : Cursor) where
  need_is : need (shape i) ≡ 8
  unfolding need sum
  need_is = rw k.small

  saw_is : sees s i c ≡ fields (top s c.at ∷ rest s c.at ∷ [])
  unfolding value_at fields_of top rest
  saw_is = rw k.small

  pub extended_read : (component s i c).fault ≡ 0 → ReadAs s i c ts
  extended_read h =
      let g = good s i c h in
      let n = numbers_are s i c k.small in
      let q = passed_16 (eqb (top s c.at) 1) (ts c.room (rest s c.at)) (rw (n, k.form) at g.right) in
      let l = top_lt s c.at in
      let u : top s c.at ≡ 1 → ⊥ = eqb-false (top s c.at) 1 q.0 in
      let z : top s c.at ≡ 0 = omega arith in
      let o = octet s c.at in
      let v : read_field s c.at 8 ≡ rest s c.at = omega arith in
      record {
        clean = g.clean;
        there = rw need_is at g.there;
        right = q.1;
        saw = saw_is ∙ rw z;
        is = fine s i c g.clean g.there g.right ∙ rw (need_is, n, k.first, z, v);
      }

  pub extended_lt : (component s i c).value < 128
  extended_lt =
      by_cases (eqb (component s i c).fault 0)
      (λ p. rw (extended_read (eqb-true _ _ p)).is (rest_lt s c.at))
      (λ p. rw (silent s i c (eqb-false _ _ p)) (omega arith))

  pub extended_saw : (component s i c).fault ≡ 0 → sees s i c ≡ num (component s i c).value
  extended_saw h = let r = extended_read h in rw (r.saw, r.is)

pub integer_extended : Extended integer (λ room v. [])
unfolding shape begins checks_of
integer_extended = record { small = refl; first = refl; form = λ room x y. refl }

pub count_le : (s : List ℕ) (c : Cursor) → (component s id_count c).value ≤ 16
count_le s c =
    by_cases (eqb (component s id_count c).fault 0)
    (λ p. let r = extended_read count_extended s c (eqb-true _ _ p) in rw r.is (small (rest s c.at) r.right))
    (λ p. rw (silent s id_count c (eqb-false _ _ p)) (omega arith))
  where
    small : (n : ℕ) → first_of (check 18 (ltb most_counted n) ∷ []) ≡ 0 → n ≤ 16
    small n h = by_cases (ltb most_counted n) (λ p. absurd (no (ltb most_counted n) p h)) (λ p. ltb-false _ _ p)
      where
        no : (b : Bool) → b ≡ true → first_of (check 18 b ∷ []) ≡ 0 → ⊥
        no true e h = unfold first_of in omega arith
        no false e h = let y : ◌≡◌ {A = ℕ} 0 1 = cc in omega arith

-- the bounds, for a cursor that is a component
pub lt_as : {i : Component} {ts : ℕ → ℕ → List Check} → Extended i ts → (s : List ℕ) (c : Cursor) {d : Cursor} → d ≡ component s i c → d.value < 128
lt_as k s c e = rw e (extended_lt k s c)

pub count_as : (s : List ℕ) (c : Cursor) {d : Cursor} → d ≡ component s id_count c → d.value ≤ 16
count_as s c e = rw e (count_le s c)

-- a kind, from what its tests answer
pub kind_by : (s : List ℕ) (c : Cursor) {d : Cursor} → d ≡ component s integer c → (k : ℕ) {e r : Cursor} {t : Bool} → e ≡ judged_by c 19 (ltb deepest k) d → t ≡ known_kind e.value
    → r ≡ judged_by c 17 (not t) e → r ≡ component s (container k) c
kind_by s c x k {e} p q r = r ∙ ap (λ (t : Bool). judged_by c 17 (not t) e) q ∙ kind_is s c x k p
