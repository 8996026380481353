-- Components that may be absent.
-- Assumes nothing.
use Prim.Native.Nat.{ℕ, ◌<◌}
use mathlib.Core.Path.{◌≡◌, refl}
use mathlib.Core.List.{List, [], ◌∷◌, append-nil}
use mathlib.Core.Bool.{Bool, true, false}
use native.Mathlib.Omega.{arith}
use Rattle.apdu_format.specs.Component.{Component, integer, row_count}
use Rattle.apdu_format.specs.Rules.{times}
use Rattle.apdu_format.specs.Reading.{Value}
use Rattle.apdu.specs.Values.{num_if, if}
use Rattle.apdu_reading.specs.declared.cursor.Cursor.{Cursor}
use Rattle.apdu_reading.specs.declared.container.Head.{Head}
use Rattle.apdu.specs.Sound.{part_fits}
use Rattle.apdu.proofs.Laws.{zero_tidy}
use Rattle.apdu_reading.specs.Cursor.{state_of, component, marked_at, ReadsTo, Inside}
use Rattle.apdu_reading.specs.Rows.{Opens}
use Rattle.apdu_reading.specs.Optional.{Maybe, HeadMaybe, AttributesMaybe}
use Rattle.apdu_reading.proofs.Chains.{same, nothing}
use Rattle.apdu_reading.proofs.Strings.{integer_reads, integer_room}
use Rattle.apdu_reading.proofs.Containers.{head, count_leads, count_room}

-- two different truths
unlike : {P : Type 0} {p : Bool} → p ≡ true → p ≡ false → P
unlike a b = absurd (let y : ◌≡◌ {A = ℕ} 0 1 = cc in omega arith)

pub integer_maybe : (s : List ℕ) (p : Bool) (c : Cursor) {r : Cursor} → p ≡ true → (r ≡ component s integer c) × (r.value < 128) → Maybe s p (integer ∷ []) c r (num_if p r.value)
integer_maybe s p c t e =
    record { reads = rw t (integer_reads s c e.0); small = e.1; room = integer_room s c e.0; absent = λ f. unlike t f }

pub part_there : (s : List ℕ) (p : Bool) (is : List Component) (c : Cursor) {r : Cursor} {vs : List Value} → p ≡ true → ReadsTo s is c r vs × (r.value < 128) × (r.room ≡ c.room) × Inside s true r
    → Maybe s p is c r (if p vs) × Inside s p r
part_there s p is c t e = (record { reads = rw t e.0; small = e.1; room = e.2; absent = λ f. unlike t f }, rw t e.3)

pub absent_maybe : (s : List ℕ) (p : Bool) (is : List Component) (c : Cursor) {r : Cursor} (vs : List Value) → p ≡ false → r ≡ marked_at c 0 0 → Maybe s p is c r (if p vs)
unfolding marked_at
absent_maybe s p is c vs f e = rw (e, f) (record { reads = nothing s (same c 0 0); small = omega arith; room = refl; absent = λ g. (refl, refl) })

pub part_absent : (s : List ℕ) (p : Bool) (is : List Component) (c : Cursor) {r : Cursor} (vs : List Value) → p ≡ false → r ≡ marked_at c 0 0
    → Maybe s p is c r (if p vs) × Inside s p r
part_absent s p is c vs f e = (absent_maybe s p is c vs f e, record { so = λ h. rw f })

pub head_there : (s : List ℕ) (p : Bool) (c : Cursor) {r : Head} → p ≡ true → Opens s 1 c r → HeadMaybe s p c r
head_there s p c t o =
    record {
      leads = rw t (record { so = o.so });
      room = o.room;
      small = o.small;
      clean = o.clean;
      parts = o.parts;
      absent = λ f. unlike t f;
      tidy = o.tidy;
    }

pub head_absent : (s : List ℕ) (p : Bool) (c : Cursor) → p ≡ false → HeadMaybe s p c (head 0 0 0 c)
unfolding times part_fits
head_absent s p c f =
    rw f
    (record {
      leads = record { so = λ log. rw append-nil };
      room = λ z. omega arith;
      small = (omega arith, omega arith);
      clean = λ z. z;
      parts = λ z. refl;
      absent = λ g. (refl, refl, refl);
      tidy = zero_tidy;
    })

pub attributes_there : (s : List ℕ) (p : Bool) (c : Cursor) {r : Cursor} → p ≡ true → (r ≡ component s (row_count 1) c) × (r.value < 128) → AttributesMaybe s p c r
attributes_there s p c t e =
    record { leads = rw t (count_leads s 1 c e.0); room = count_room s 1 c e.0; small = e.1; absent = λ f. unlike t f }

pub attributes_absent : (s : List ℕ) (p : Bool) (c : Cursor) {r : Cursor} → p ≡ false → r ≡ marked_at c 0 0 → AttributesMaybe s p c r
unfolding marked_at times state_of
attributes_absent s p c f e =
    rw (e, f) (record { leads = record { so = λ log. rw append-nil }; room = λ z. omega arith; small = omega arith; absent = λ g. refl })
