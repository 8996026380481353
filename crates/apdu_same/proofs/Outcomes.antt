-- The ways out of the functions that compare two records.
-- Assumes nothing.
use Prim.Native.Nat.{ℕ}
use mathlib.Core.Path.{◌≡◌, refl}
use mathlib.Core.List.{List}
use mathlib.Core.Bool.{Bool, beq, true, false, ◌&&◌, ◌||◌, not}
use native.Mathlib.Omega.{arith}
use lib.Dec.{eqb}
use borrow.Author.Tests.{eq-eqb, ne_eqb, not-true, not-false}
use Rattle.refusals.specs.Check.{pick}
use Rattle.bits.specs.Strings.{same_string}
use Rattle.apdu.specs.Values.{bit_of}
use Rattle.apdu_same.specs.Walk.{same_if, same_head}

-- ---- fields

-- bits that are the same stand as the same number
pub same_bits : (p q : Bool) → beq p q ≡ eqb (bit_of p) (bit_of q)
same_bits true true = refl
same_bits true false = refl
same_bits false true = refl
same_bits false false = refl

pub if_there : (b p : Bool) {x r : Bool} → (b && p) ≡ true → r ≡ x → r ≡ same_if b p x
unfolding same_if
if_there true true h e = e
if_there true false h e = let z : ◌≡◌ {A = ℕ} 0 1 = cc in absurd (omega arith)
if_there false p h e = let z : ◌≡◌ {A = ℕ} 0 1 = cc in absurd (omega arith)

pub if_passed : (b p x : Bool) → (b && p) ≡ false → b ≡ same_if b p x
unfolding same_if
if_passed true true x h = let z : ◌≡◌ {A = ℕ} 0 1 = cc in absurd (omega arith)
if_passed true false x h = refl
if_passed false p x h = refl

-- a count in front of what it counts
module _ (n m : ℕ) where
  pub count_other : (x : Bool) → (n ≡ m → ⊥) → false ≡ (eqb n m && x)
  count_other x h = rw (ne_eqb n m h)

  pub count_same : {x r : Bool} → n ≡ m → r ≡ x → r ≡ (eqb n m && x)
  count_same h e = rw (eq-eqb n m h) e

-- one of two in front of the other
pub first_other : {a : Bool} (b : Bool) {r : Bool} → r ≡ a → not r ≡ true → false ≡ (a && b)
first_other b {r} e h = rw (← e, not-true r h)

pub first_same : {a b r x : Bool} → r ≡ a → not r ≡ false → x ≡ b → x ≡ (a && b)
first_same {r = r} e h f = rw (← e, not-false r h) f

-- ---- containers

-- the rows of an attribute list
pub list_rows_law : (k : ℕ) {r x : Bool} → k ≡ 9 → r ≡ x → r ≡ pick (eqb k 9) x true
list_rows_law k e h = rw (eq-eqb k 9 e) h

pub other_rows_law : (k : ℕ) (x : Bool) → (k ≡ 9 → ⊥) → true ≡ pick (eqb k 9) x true
other_rows_law k x h = rw (ne_eqb k 9 h)

module _ (s : List ℕ) (k n start : ℕ) (t : List ℕ) (l m at : ℕ) where
  pub head_kind : (k ≡ l → ⊥) → false ≡ same_head s k n start t l m at
  unfolding same_head
  head_kind h = count_other k l _ h

  pub head_count : k ≡ l → (n ≡ m → ⊥) → false ≡ same_head s k n start t l m at
  unfolding same_head
  head_count e h = count_same k l e (count_other n m _ h)

  pub head_part : {r : Bool} → k ≡ l → n ≡ m → (eqb k 2 || eqb k 8) ≡ true → r ≡ same_string s start t at n → r ≡ same_head s k n start t l m at
  unfolding same_head
  head_part e f h g = count_same k l e (count_same n m f (rw h g))

  pub head_number : k ≡ l → n ≡ m → (eqb k 2 || eqb k 8) ≡ false → true ≡ same_head s k n start t l m at
  unfolding same_head
  head_number e f h = count_same k l e (count_same n m f (rw h))
