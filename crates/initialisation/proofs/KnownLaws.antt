-- The difference of two times, as the machine computes it, and what its range says.
-- Assumes nothing.
use Rattle.std.proofs.Common.{◌≡◌, ℕ, zero, suc, ◌^◌, ◌<◌, true, false, ltb, ℤ, pos, negsuc, ◌-ℤ◌, sym, refl, ◌∙◌, ap₂, arith, w64, SFits, to_z, of_z, ltb-false, ltb-true, le-leb}
use lib.Signed.{mag, lt_z}
use borrow.Author.Tests.{lt-leb}
use mir.ValLaws.{to_z-of_z}
use Rattle.refusals.proofs.Tests.{by_cases}
use Rattle.apdu_format.proofs.Tests.{never}
use Rattle.initialisation.specs.Known.{elapsed, is_soon}

-- ---- ranges

soon : (z : ℤ) → lt_z z (pos 0) ≡ false → lt_z z (pos 255) ≡ true → true ≡ is_soon z
soon (pos n) a b = sym (le-leb n 254 (omega (arith, ltb-true n 255 b)))
soon (negsuc n) a b = never (sym a)

late : (z : ℤ) → lt_z z (pos 255) ≡ false → false ≡ is_soon z
late (pos n) b = sym (lt-leb n 254 (omega (arith, ltb-false n 255 b)))
late (negsuc n) b = refl

back : (z : ℤ) → lt_z z (pos 0) ≡ true → false ≡ is_soon z
back (pos n) a = absurd (omega (arith, ltb-true n 0 a))
back (negsuc n) a = refl

-- ---- the difference

small : (t s : ℕ) → t < 2 ^ 32 → s < 2 ^ 32 → mag (pos t -ℤ pos s) < 2 ^ 63
small t zero a b = omega arith
small t (suc n) a b = by_cases (ltb t (suc n)) (λ e. rw e (omega arith)) (λ e. rw e (omega arith))

wide : {a : ℤ} {n : ℕ} → a ≡ pos n → n < 2 ^ 32 → to_z w64 (of_z w64 a) ≡ pos n
wide {a} {n} e h = to_z-of_z w64 a (rw e (record { sfits = omega arith })) ∙ e

module _ {a b : ℤ} {t s : ℕ} (p : a ≡ pos t) (q : b ≡ pos s) (h : t < 2 ^ 32) (k : s < 2 ^ 32) where
  abbrev machine : ℤ
  machine = to_z w64 (of_z w64 a) -ℤ to_z w64 (of_z w64 b)

  machine_is : machine ≡ pos t -ℤ pos s
  machine_is = ap₂ ◌-ℤ◌ (wide p h) (wide q k)

  pub fits : SFits w64 machine
  fits = rw machine_is (record { sfits = small t s h k })

  difference : to_z w64 (of_z w64 machine) ≡ elapsed t s
  unfolding elapsed
  difference = to_z-of_z w64 machine fits ∙ machine_is

  pub is_soon_law : lt_z (to_z w64 (of_z w64 machine)) (pos 0) ≡ false → lt_z (to_z w64 (of_z w64 machine)) (pos 255) ≡ true → true ≡ is_soon (elapsed t s)
  is_soon_law x y = rw (← difference) (soon (to_z w64 (of_z w64 machine)) x y)

  pub is_late : lt_z (to_z w64 (of_z w64 machine)) (pos 255) ≡ false → false ≡ is_soon (elapsed t s)
  is_late y = rw (← difference) (late (to_z w64 (of_z w64 machine)) y)

  pub is_back : lt_z (to_z w64 (of_z w64 machine)) (pos 0) ≡ true → false ≡ is_soon (elapsed t s)
  is_back x = rw (← difference) (back (to_z w64 (of_z w64 machine)) x)
