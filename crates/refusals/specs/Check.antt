-- How document 01 refuses: a call has checks in a fixed order, and the first that holds gives its number. The numbers themselves stand in the
-- definitions as 01's table prints them; the code's names for them are in src/lib.rt.
-- Assumes nothing.
use Rattle.std.specs.Prelude.{ℕ, zero, suc, Bool, true, false, List, [], ◌∷◌}

-- one of two, by a test
abbrev pub pick {ℓ} : {A : Type ℓ} → Bool → A → A → A
pick true a b = a
pick false a b = b

-- a check: the number that it refuses with, and whether it holds
pub record Check : Type 0 where
  pub number : ℕ
  pub holds : Bool

abbrev pub check : ℕ → Bool → Check
check n b = record { number = n; holds = b }

-- the number of the first check to hold, or 0 if none does
unfoldable pub first_of : List Check → ℕ
first_of [] = 0
first_of (c ∷ cs) = pick c.holds c.number (first_of cs)

-- what a call answers: a refusal's number, or what it gives
pub data Answer (A : Type 0) : Type 0 where
  refused : ℕ → Answer A
  accepted : A → Answer A

-- refused with this number, or with 0 accepted
unfoldable pub decided : {A : Type 0} → ℕ → A → Answer A
decided zero a = accepted a
decided (suc n) a = refused (suc n)
