-- What the functions of the reader answer, one law for each way out, in the words of its tests.
-- Assumes nothing.
use mathlib.Core.Path.{◌≡◌, refl, sym, ◌∙◌}
use mathlib.Core.Bool.{Bool, true, false, ◌&&◌}
use Prim.Native.Nat.{ℕ, ◌+◌, ◌*◌, ◌/◌, ◌%◌, ◌≤◌, ◌<◌}
use mathlib.Core.List.{List}
use native.Mathlib.Omega.{arith}
use lib.Dec.{eqb}
use lib.ListN.{length, get_or}
use borrow.Author.Tests.{ne_eqb, lt-ltb, le-ltb}
use Rattle.refusals.specs.Check.{first_of, refused, accepted, decided}
use Rattle.bits.specs.Bits.{field}
use Rattle.bits.proofs.Laws.{field_in_octet}
use Rattle.header.specs.Header.{end_bit, header_length, counter_in, length_for, header_of, read_refusal, read_header}

pub length_one : {c : ℕ} → c < 4 → 1 ≡ length_for c
unfolding length_for
length_one h = simp (lt-ltb _ _ h)

pub length_two : {c : ℕ} → 4 ≤ c → c < 512 → 2 ≡ length_for c
unfolding length_for
length_two h k = simp (le-ltb _ _ h, lt-ltb _ _ k)

pub length_three : {c : ℕ} → 512 ≤ c → 3 ≡ length_for c
unfolding length_for
length_three {c} h =
    let k : 4 ≤ c = omega arith in
    simp (le-ltb _ _ k, le-ltb _ _ h)

module _ (s : List ℕ) where
  -- ---- the parts of octets

  pub end_bit_is : (i : ℕ) {x : ℕ} → x ≡ get_or s i 0 → x < 256 → x % 2 ≡ end_bit s i
  unfolding end_bit
  end_bit_is i {x} e h =
      let f = field_in_octet s i 7 1 0 refl (rw e at h) in
      omega arith

  module _ {x : ℕ} (e : x ≡ get_or s 0 0) (h : x < 256) where
    two_bits : x / 2 % 4 ≡ field s 5 2
    two_bits =
        let f = field_in_octet s 0 5 2 1 refl (rw e at h) in
        omega arith

    pub last_is : x / 128 ≡ field s 0 1
    last_is =
        let f = field_in_octet s 0 0 1 7 refl (rw e at h) in
        omega arith

    pub number_is : x / 8 % 16 ≡ field s 1 4
    number_is =
        let f = field_in_octet s 0 1 4 3 refl (rw e at h) in
        omega arith

    module _ (n : ℕ) where
      pub counter_one : n ≡ 1 → x / 2 % 4 ≡ counter_in s n
      unfolding counter_in
      counter_one k = two_bits ∙ simp k

      module _ {y : ℕ} (one : n ≡ 1 → ⊥) (f : y ≡ get_or s 1 0) (g : y < 256) where
        seven : (i : ℕ) {z : ℕ} → z ≡ get_or s i 0 → z < 256 → z / 2 ≡ field s (8 * i + 0) 7
        seven i p q =
            let r = field_in_octet s i 0 7 1 refl (rw p at q) in
            omega arith

        pub counter_two : n ≡ 2 → x / 2 % 4 * 128 + y / 2 ≡ counter_in s n
        unfolding counter_in
        counter_two k = rw (two_bits, seven 1 f g) (simp k)

        pub counter_three : {z : ℕ} → (n ≡ 2 → ⊥) → z ≡ get_or s 2 0 → z < 256 → (x / 2 % 4 * 128 + y / 2) * 128 + z / 2 ≡ counter_in s n
        unfolding counter_in
        counter_three k p q = rw (two_bits, seven 1 f g, seven 2 p q) (simp (ne_eqb _ _ one, ne_eqb _ _ k))

  -- ---- the answers

  module _ {n : ℕ} (is : n ≡ header_length s) where
    pub cut_short : length s < n → refused 5 ≡ read_header s
    unfolding read_header read_refusal first_of decided
    cut_short h = simp (← is, lt-ltb _ _ h)

    module _ (long : n ≤ length s) {b : Bool} (third : b ≡ (eqb n 3 && eqb (end_bit s 2) 1)) where
      pub third_bit : b ≡ true → refused 5 ≡ read_header s
      unfolding read_header read_refusal first_of decided
      third_bit t = simp (← is, le-ltb _ _ long, ← third, t)

      module _ (f : b ≡ false) {k m : ℕ} (c : k ≡ counter_in s n) (l : m ≡ length_for k) where
        counter_is : (header_of s).counter ≡ k
        unfolding header_of
        counter_is = rw (← is) (sym c)

        headed : {x : ℕ} → x ≡ get_or s 0 0 → x < 256 → header_of s ≡ record { last = eqb (x / 128) 1; number = x / 8 % 16; counter = k }
        unfolding header_of
        headed e g = rw (← is, ← last_is e g, ← number_is e g, ← c)

        pub overlong : m < n → refused 5 ≡ read_header s
        unfolding read_header read_refusal first_of decided
        overlong h = simp (← is, le-ltb _ _ long, ← third, f, counter_is, ← l, lt-ltb _ _ h)

        pub whole : {x : ℕ} → n ≤ m → x ≡ get_or s 0 0 → x < 256
            → accepted (record { header = record { last = eqb (x / 128) 1; number = x / 8 % 16; counter = k }; size = n }) ≡ read_header s
        unfolding read_header read_refusal first_of decided
        whole {x} h e g =
            let w = headed e g in
            simp (← is, le-ltb _ _ long, ← third, f, ← l, le-ltb _ _ h, w)
