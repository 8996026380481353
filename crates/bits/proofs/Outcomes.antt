-- What each public function answers, one law for each way out, in the words of its tests.
-- Assumes nothing.
use mathlib.Core.Path.{◌≡◌, sym, ◌∙◌}
use mathlib.Core.Bool.{true, false}
use mathlib.Core.List.{List}
use Prim.Native.Nat.{ℕ, ◌+◌, ◌*◌, ◌/◌, ◌%◌, ◌≤◌, ◌<◌, ◌-◌}
use native.Mathlib.Omega.{arith}
use lib.ListN.{length}
use lib.Dec.{leb}
use borrow.Author.Tests.{le-leb, lt-leb}
use Rattle.refusals.proofs.Tests.{leb_same}
use Rattle.bits.specs.Bits.{digits, field, put_bits, read_field, field_fits, write_field}
use Rattle.bits.specs.Strings.{is_inside}

-- ---- inside

module _ (octets start n : ℕ) where
  pub starts_outside : {first : ℕ} → first ≡ start / 8 + (start % 8 + 7) / 8 → octets < first → leb first octets ≡ is_inside octets start n
  unfolding is_inside
  starts_outside {first} e h = lt-leb first octets h ∙ sym (lt-leb (start + 8 * n) (8 * octets) (omega arith))

  pub ends_inside : {first : ℕ} → first ≡ start / 8 + (start % 8 + 7) / 8 → first ≤ octets → leb n (octets - first) ≡ is_inside octets start n
  unfolding is_inside
  ends_inside {first} e h = leb_same n (octets - first) (start + 8 * n) (8 * octets) (λ k. omega arith) (λ k. omega arith)

-- ---- fields

at_of : (at : ℕ) → 8 * (at / 8) + at % 8 ≡ at
at_of at = omega arith

module _ (s : List ℕ) (at w : ℕ) where
  pub read_wide : 48 < w → 0 ≡ read_field s at w
  unfolding read_field
  read_wide h = simp (lt-leb _ _ h)

  pub read_narrow : {v : ℕ} → w ≤ 48 → v ≡ field s (8 * (at / 8) + at % 8) w → v ≡ read_field s at w
  unfolding read_field
  read_narrow h e = e ∙ rw at_of (simp (le-leb _ _ h))

  module _ (v : ℕ) where
    pub write_wide : 48 < w → (false ≡ field_fits (length s) at w) × (s ≡ write_field s at w v)
    unfolding field_fits write_field
    write_wide h = (simp (lt-leb _ _ h), simp (lt-leb _ _ h))

    module _ (narrow : w ≤ 48) where
      past : length s < at / 8 + (at % 8 + w + 7) / 8 → leb (at + w) (8 * length s) ≡ false
      past h = lt-leb (at + w) (8 * length s) (omega arith)

      pub write_short : length s < at / 8 + (at % 8 + w + 7) / 8 → (false ≡ field_fits (length s) at w) × (s ≡ write_field s at w v)
      unfolding field_fits write_field
      write_short h = (simp (le-leb _ _ narrow, past h), simp (le-leb _ _ narrow, past h))

      fits : at / 8 + (at % 8 + w + 7) / 8 ≤ length s → leb (at + w) (8 * length s) ≡ true
      fits h = le-leb (at + w) (8 * length s) (omega arith)

      pub write_whole : {out : List ℕ} → at / 8 + (at % 8 + w + 7) / 8 ≤ length s → out ≡ put_bits s (8 * (at / 8) + at % 8) (digits w v)
          → (true ≡ field_fits (length s) at w) × (out ≡ write_field s at w v)
      unfolding field_fits write_field
      write_whole h e = (simp (le-leb _ _ narrow, fits h), e ∙ rw at_of (simp (le-leb _ _ narrow, fits h)))
