-- Laws of tests and of choices by a test.
-- Assumes nothing.
use mathlib.Core.Path.{◌≡◌, refl, sym, ◌∙◌}
use mathlib.Core.Bool.{Bool, true, false, ◌&&◌, false≢true}
use Prim.Native.Nat.{ℕ, zero, suc, ◌≤◌, ◌<◌}
use native.Mathlib.Omega.{arith}
use lib.Dec.{leb}
use borrow.Author.Tests.{le-leb, lt-leb, leb-true, leb-false}
use mathlib.Core.List.{List, [], ◌∷◌}
use Rattle.refusals.specs.Check.{pick, Check, check, first_of, accepted, decided}

-- a statement about a choice, from the two cases of its test
pub by_test {ℓ} : {A : Type ℓ} (P : A → Type 0) (b : Bool) {x y : A} → (b ≡ true → P x) → (b ≡ false → P y) → P (pick b x y)
by_test P true f g = f refl
by_test P false f g = g refl

-- a statement, from the two cases of a test
pub by_cases : {P : Type 0} (b : Bool) → (b ≡ true → P) → (b ≡ false → P) → P
by_cases true f g = f refl
by_cases false f g = g refl

-- two tests of orders that imply each other are the same
pub leb_same : (a b c d : ℕ) → (a ≤ b → c ≤ d) → (c ≤ d → a ≤ b) → leb a b ≡ leb c d
leb_same a b c d f g =
    by_cases (leb a b)
    (λ t. t ∙ sym (le-leb c d (f (leb-true a b t))))
    (λ t. t ∙ sym (lt-leb c d (not_le (λ h. g h) (leb-false a b t))))
  where
    not_le : (c ≤ d → a ≤ b) → b < a → d < c
    not_le g h = by_cases (leb c d) (λ t. absurd (omega (arith, g (leb-true c d t)))) (λ t. leb-false c d t)

-- both of two tests
pub and_true : {a b : Bool} → a ≡ true → b ≡ true → (a && b) ≡ true
and_true p q = rw (p, q)

pub and_left : {a : Bool} (b : Bool) → a ≡ false → (a && b) ≡ false
and_left b p = rw p

pub and_right : (a : Bool) {b : Bool} → b ≡ false → (a && b) ≡ false
and_right true q = q
and_right false q = refl

-- ---- checks in order

-- none of the checks holds only where the first does not, and none behind it
pub first_none : (k : ℕ) (b : Bool) (cs : List Check) → first_of (check (suc k) b ∷ cs) ≡ 0 → (b ≡ false) × (first_of cs ≡ 0)
unfolding first_of
first_none k true cs e = absurd (omega arith)
first_none k false cs e = (refl, e)

-- no check has a number above n, so neither does the refusal
unfoldable pub numbers_to : ℕ → List Check → Bool
numbers_to n [] = true
numbers_to n (c ∷ cs) = leb c.number n && numbers_to n cs

pub first_le : (n : ℕ) (cs : List Check) → numbers_to n cs ≡ true → first_of cs ≤ n
unfolding numbers_to first_of
first_le n [] e = omega arith
first_le n (c ∷ cs) e =
    by_cases (leb c.number n)
    (λ t. by_test (λ (k : ℕ). k ≤ n) c.holds (λ h. leb-true c.number n t) (λ h. first_le n cs (rw t at e)))
    (λ t. absurd (false≢true (rw t at e)))

-- what is accepted was refused by no check
pub decided_accepted : {A : Type 0} (r : ℕ) (a b : A) → decided r a ≡ accepted b → (r ≡ 0) × (a ≡ b)
unfolding decided
decided_accepted zero a b e = (refl, cc)
decided_accepted (suc r) a b e = let z : ◌≡◌ {A = ℕ} 0 1 = cc in absurd (omega arith)
