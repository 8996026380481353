-- The leading part of a message: its bits, and then what they say is there.
-- Assumes nothing.
use Prim.Native.Nat.{ℕ, ◌≤◌}
use mathlib.Core.Path.{◌≡◌, refl, ◌∙◌}
use mathlib.Core.List.{List, [], ◌∷◌, ◌++◌}
use mathlib.Core.Bool.{Bool, true, false}
use native.Mathlib.Omega.{arith}
use lib.Seq.{drop-drop}
use lib.Dec.{leb, eqb}
use borrow.Author.Tests.{le-leb, eqb-true, eqb-false}
use Rattle.refusals.proofs.Tests.{by_cases}
use Rattle.bits.specs.Bits.{bits, field, read_field}
use Rattle.bits.proofs.Laws.{field_lt}
use Rattle.apdu_format.specs.Component.{Component, lead}
use Rattle.apdu_format.specs.Table.{layout_of}
use Rattle.apdu_format.specs.Rules.{shape, brings, present, announced}
use Rattle.apdu_format.specs.Reading.{Value, fields, numbers_of, sum, fields_of, value_at}
use Rattle.apdu.specs.Values.{bit_of}
use Rattle.apdu.specs.Tidy.{Absent}
use Rattle.apdu_reading.specs.declared.cursor.Cursor.{Cursor}
use Rattle.apdu_reading.specs.Cursor.{component, piece_of, ReadsTo}
use Rattle.apdu_reading.specs.Optional.{Maybe}
use Rattle.apdu_reading.specs.Messages.{Begun}
use Rattle.apdu_reading.proofs.Pieces.{sees}
use Rattle.apdu_reading.proofs.Components.{lead_is}
use Rattle.apdu_reading.proofs.Chains.{still, enter}
use Rattle.apdu_reading.proofs.Strings.{room_of}

pub set_bit : (p : Bool) → eqb (bit_of p) 1 ≡ p
set_bit true = refl
set_bit false = refl

-- the bit that a test of the number read shows
pub bit_of_law : (s : List ℕ) (at v : ℕ) → v ≡ read_field s at 1 → bit_of (eqb v 1) ≡ field s at 1
unfolding read_field
bit_of_law s at v e =
    let l = field_lt s at 1 in
    by_cases (eqb v 1)
    (λ p. let o : v ≡ 1 = eqb-true _ _ p in rw p (omega arith))
    (λ p. let z : v ≡ 1 → ⊥ = eqb-false v 1 p in let o : field s at 1 ≡ 0 = omega arith in rw (p, o))

pub narrow : (s : List ℕ) (at w : ℕ) {v : ℕ} → w ≤ 48 → v ≡ read_field s at w → v ≡ field s at w
unfolding read_field
narrow s at w h e = let l : leb w 48 ≡ true = le-leb _ _ h in e ∙ rw l

module _ (s : List ℕ) (c : Cursor) (b : Begun c) where
  abbrev Saw : ℕ → List ℕ → Type 0
  Saw k fs = sees s (lead k) c ≡ fields fs

  -- four bits
  pub saw_four : (k x y z w : ℕ) → (layout_of k).after ≡ 1 ∷ 1 ∷ 1 ∷ 1 ∷ [] → x ≡ field s 4 1 → y ≡ field s 5 1 → z ≡ field s 6 1 → w ≡ field s 7 1 → Saw k (x ∷ y ∷ z ∷ w ∷ [])
  unfolding shape value_at fields_of field
  saw_four k x y z w e p q r t =
      rw (e, b.at, drop-drop 1 4 (bits s), drop-drop 1 5 (bits s), drop-drop 1 6 (bits s), p, q, r, t)

  -- two bits and a number of two
  pub saw_three : (k x y z : ℕ) → (layout_of k).after ≡ 1 ∷ 1 ∷ 2 ∷ [] → x ≡ field s 4 1 → y ≡ field s 5 1 → z ≡ field s 6 2 → Saw k (x ∷ y ∷ z ∷ [])
  unfolding shape value_at fields_of field
  saw_three k x y z e p q r = rw (e, b.at, drop-drop 1 4 (bits s), drop-drop 1 5 (bits s), p, q, r)

  -- the lead, and what its bits say is there
  pub lead_in : (k : ℕ) (fs : List ℕ) {p r : Cursor} {vs : List Value} → p ≡ component s (lead k) c → Saw k fs → ReadsTo s (present fs (layout_of k).body) p r vs
      → ReadsTo s (lead k ∷ []) c r ((fields fs ∷ []) ++ vs)
  unfolding brings numbers_of
  lead_in k fs {p} {r} {vs} e saw inner = rw (← saw) (enter (lead k) c e (λ h. rw saw inner) (λ h. still inner h))

  pub lead_four : (k : ℕ) {p : Cursor} → (layout_of k).after ≡ 1 ∷ 1 ∷ 1 ∷ 1 ∷ [] → p ≡ piece_of s 4 false c → p ≡ component s (lead k) c
  unfolding sum
  lead_four k e f = f ∙ lead_is s c k 4 (rw e)

  pub lead_three : (k : ℕ) {p : Cursor} → (layout_of k).after ≡ 1 ∷ 1 ∷ 2 ∷ [] → p ≡ piece_of s 4 false c → p ≡ component s (lead k) c
  unfolding sum
  lead_three k e f = f ∙ lead_is s c k 4 (rw e)

  pub lead_room : (k : ℕ) {p : Cursor} → p ≡ component s (lead k) c → p.room ≡ 32
  unfolding announced
  lead_room k e = room_of s (lead k) c (λ fs. refl) e ∙ b.room

-- ---- absent numbers

pub absent_value : {s : List ℕ} {p : Bool} {is : List Component} {c r : Cursor} {vs : List Value} → Maybe s p is c r vs → Absent p (r.value ∷ [])
absent_value m = record { are = λ z. ((m.absent z).0, tt) }

pub absent_part : {s : List ℕ} {p : Bool} {is : List Component} {c r : Cursor} {vs : List Value} → Maybe s p is c r vs → Absent p (r.start ∷ r.value ∷ [])
absent_part m = record { are = λ z. ((m.absent z).1, ((m.absent z).0, tt)) }
