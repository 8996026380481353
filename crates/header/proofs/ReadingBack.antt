-- Reading the octets of a header gives its fields: the figure's bits, read a field at a time.
-- Assumes nothing.
use mathlib.Core.Path.{◌≡◌, refl, ap, sym, ◌∙◌}
use mathlib.Core.Bool.{Bool, true, false, ◌&&◌}
use Prim.Native.Nat.{ℕ, ◌+◌, ◌*◌, ◌/◌, ◌%◌, ◌≤◌, ◌<◌}
use mathlib.Core.List.{List, [], ◌++◌, append_assoc}
use native.Mathlib.Nat.{mod-eq_of_lt, le_refl, div-div-eq-div-mul}
use native.Mathlib.Omega.{arith}
use lib.Dec.{ltb, eqb}
use lib.ListN.{length, length-append}
use borrow.Author.Tests.{lt-ltb, le-ltb, ltb-true, ltb-false}
use Rattle.refusals.specs.Check.{first_of, accepted, decided}
use Rattle.refusals.proofs.Tests.{by_cases}
use Rattle.bits.specs.Bits.{Bits, digits, bits, field, octets}
use Rattle.bits.proofs.Laws.{Ahead, field_front, field_rest, digits_small, below_append, bits_append, bits_octets, length_octets}
use Rattle.header.specs.Header.{end_bit, header_length, counter_in, length_for, header_of, read_refusal, read_header, bit_of, first_bits, next_bits, header_bits, header_octets}
use Rattle.header.specs.declared.Header.{Header}
use Rattle.header.proofs.Reading.{length_one, length_two, length_three}
use Rattle.header.proofs.Writing.{bit_lt, InRange, first_bits_law, first_length, next_bits_law, next_length}

-- ---- the bits of a header, read field by field

-- the first octet's fields, where its bits stand in front of q
record FirstRead (s : List ℕ) (h : Header) (c e : ℕ) (q : List ℕ) : Type 0 where
  last : field s 0 1 ≡ bit_of h.last
  number : field s 1 4 ≡ h.number
  counter : field s 5 2 ≡ c % 4
  end : field s 7 1 ≡ e
  rest : Ahead s 8 q

first_read : (s : List ℕ) (h : Header) (c e : ℕ) (q : List ℕ) → h.number ≤ 15 → e ≤ 1 → Ahead s 0 (first_bits h c e ++ q) → FirstRead s h c e q
first_read s h c e q n k a =
    let b : Ahead s 0 (digits 1 (bit_of h.last) ++ (digits 4 h.number ++ (digits 2 c ++ (digits 1 e ++ q)))) = record { is = a.is ∙ first_bits_law h c e q } in
    let b1 = field_rest 1 (bit_of h.last) (digits 4 h.number ++ (digits 2 c ++ (digits 1 e ++ q))) b in
    let b5 = field_rest 4 h.number (digits 2 c ++ (digits 1 e ++ q)) b1 in
    let b7 = field_rest 2 c (digits 1 e ++ q) b5 in
    record {
      last = field_front 1 (bit_of h.last) _ b ∙ mod-eq_of_lt (bit_lt h.last);
      number = field_front 4 h.number _ b1 ∙ mod-eq_of_lt (omega arith);
      counter = field_front 2 c _ b5;
      end = field_front 1 e _ b7 ∙ mod-eq_of_lt (omega arith);
      rest = field_rest 1 e q b7;
    }

-- the fields of an octet that continues the counter
record NextRead (s : List ℕ) (at c e : ℕ) (q : List ℕ) : Type 0 where
  counter : field s at 7 ≡ c % 128
  end : field s (at + 7) 1 ≡ e
  rest : Ahead s (at + 7 + 1) q

next_read : (s : List ℕ) (at c e : ℕ) (q : List ℕ) → e ≤ 1 → Ahead s at (next_bits c e ++ q) → NextRead s at c e q
next_read s at c e q k a =
    let b : Ahead s at (digits 7 c ++ (digits 1 e ++ q)) = record { is = a.is ∙ next_bits_law c e q } in
    let b7 = field_rest 7 c (digits 1 e ++ q) b in
    record { counter = field_front 7 c _ b; end = field_front 1 e _ b7 ∙ mod-eq_of_lt (omega arith); rest = field_rest 1 e q b7 }

-- what a header's fields make of reading
eq_bit : (b : Bool) → eqb (bit_of b) 1 ≡ b
eq_bit true = refl
eq_bit false = refl

read_as : (s : List ℕ) (h : Header) {m : ℕ} → header_length s ≡ m → m ≤ length s → (eqb m 3 && eqb (end_bit s 2) 1) ≡ false
    → counter_in s m ≡ h.counter → length_for h.counter ≡ m → field s 0 1 ≡ bit_of h.last → field s 1 4 ≡ h.number
    → read_header s ≡ accepted (record { header = h; size = m })
unfolding read_header read_refusal header_of first_of decided
read_as s h {m} l k t c n f g = simp (l, le-ltb _ _ k, t, c, n, le-ltb _ _ (le_refl m), f, g, eq_bit h.last)

-- ---- reading what was written

module _ (h : Header) (rest : List ℕ) (r : InRange h) where
  abbrev s : List ℕ
  s = header_octets h ++ rest

  abbrev c : ℕ
  c = h.counter

  -- the header's octets are whole octets of its bits
  begins : (m : ℕ) (l : List ℕ) → length_for c ≡ m → header_bits h ≡ l → Bits l → length l ≡ 8 * m → Ahead s 0 (l ++ bits rest) × (length (header_octets h) ≡ m)
  unfolding header_octets
  begins m l e f b n =
      let o : bits (octets (length_for c) (header_bits h)) ≡ l = rw (e, f) (bits_octets m l b n) in (
        record { is = bits_append (header_octets h) rest ∙ ap (λ (x : List ℕ). x ++ bits rest) o },
        rw (e, f) (length_octets m l),
      )

  first_small : (n e : ℕ) → Bits (first_bits h n e)
  first_small n e = below_append (digits_small 1 (bit_of h.last)) (below_append (digits_small 4 h.number) (below_append (digits_small 2 n) (digits_small 1 e)))

  next_small : (n e : ℕ) → Bits (next_bits n e)
  next_small n e = below_append (digits_small 7 n) (digits_small 1 e)

  abbrev Reads : Type 0
  Reads = read_header s ≡ accepted (record { header = h; size = length_for c })

  reads_one : c < 4 → Reads
  unfolding header_bits header_length counter_in end_bit
  reads_one l =
      let b = begins 1 (first_bits h c 1) (sym (length_one l)) (simp (lt-ltb _ _ l)) (first_small c 1) (first_length h c 1 []) in
      let f = first_read s h c 1 (bits rest) r.number (omega arith) b.0 in
      let n : length s ≡ 1 + length rest = length-append (header_octets h) rest ∙ ap (λ (k : ℕ). k + length rest) b.1 in
      rw (← length_one l) (read_as s h (simp f.end) (omega arith) refl (f.counter ∙ mod-eq_of_lt l) (sym (length_one l)) f.last f.number)

  reads_two : 4 ≤ c → c < 512 → Reads
  unfolding header_bits header_length counter_in end_bit
  reads_two k l =
      let b = begins 2 (first_bits h (c / 128) 0 ++ next_bits c 1) (sym (length_two k l)) (simp (le-ltb _ _ k, lt-ltb _ _ l))
      (below_append (first_small (c / 128) 0) (next_small c 1))
      (omega (arith, length-append (first_bits h (c / 128) 0) (next_bits c 1), first_length h (c / 128) 0 [], next_length c 1 [])) in
      let a : Ahead s 0 (first_bits h (c / 128) 0 ++ (next_bits c 1 ++ bits rest)) = record { is = b.0.is ∙ append_assoc (first_bits h (c / 128) 0) (next_bits c 1) (bits rest) } in
      let f = first_read s h (c / 128) 0 (next_bits c 1 ++ bits rest) r.number (omega arith) a in
      let g = next_read s 8 c 1 (bits rest) (omega arith) f.rest in
      let n : length s ≡ 2 + length rest = length-append (header_octets h) rest ∙ ap (λ (k : ℕ). k + length rest) b.1 in
      let e = f.counter in
      let d = g.counter in
      rw (← length_two k l) (read_as s h (simp (f.end, g.end)) (omega arith) refl (omega arith) (sym (length_two k l)) f.last f.number)

  reads_three : 512 ≤ c → Reads
  unfolding header_bits header_length counter_in end_bit
  reads_three l =
      let k : 4 ≤ c = omega arith in
      let m = r.counter in
      let x = next_bits (c / 128) 0 in
      let y = next_bits c 0 in
      let b = begins 3 (first_bits h (c / 16384) 0 ++ (x ++ y)) (sym (length_three l)) (simp (le-ltb _ _ k, le-ltb _ _ l))
      (below_append (first_small (c / 16384) 0) (below_append (next_small (c / 128) 0) (next_small c 0)))
      (omega (arith, length-append (first_bits h (c / 16384) 0) (x ++ y), length-append x y, first_length h (c / 16384) 0 [], next_length (c / 128) 0 [], next_length c 0 [])) in
      let a : Ahead s 0 (first_bits h (c / 16384) 0 ++ (x ++ (y ++ bits rest))) =
      record { is = b.0.is ∙ append_assoc (first_bits h (c / 16384) 0) (x ++ y) (bits rest) ∙ ap (λ (q : List ℕ). first_bits h (c / 16384) 0 ++ q) (append_assoc x y (bits rest)) } in
      let f = first_read s h (c / 16384) 0 (x ++ (y ++ bits rest)) r.number (omega arith) a in
      let g = next_read s 8 (c / 128) 0 (y ++ bits rest) (omega arith) f.rest in
      let i = next_read s 16 c 0 (bits rest) (omega arith) g.rest in
      let n : length s ≡ 3 + length rest = length-append (header_octets h) rest ∙ ap (λ (k : ℕ). k + length rest) b.1 in
      let d : c / 128 / 128 ≡ c / 16384 = div-div-eq-div-mul c 128 128 in
      let e : (c / 16384 % 4 * 128 + c / 128 % 128) * 128 + c % 128 ≡ c = omega arith in
      rw (← length_three l) (read_as s h (simp (f.end, g.end)) (omega arith) (simp i.end) (rw (f.counter, g.counter, i.counter) e) (sym (length_three l)) f.last f.number)

  pub reading : read_header (header_octets h ++ rest) ≡ accepted (record { header = h; size = length_for h.counter })
  reading =
      by_cases (ltb c 4) (λ t. reads_one (ltb-true c 4 t))
      (λ t. by_cases (ltb c 512) (λ u. reads_two (ltb-false c 4 t) (ltb-true c 512 u)) (λ u. reads_three (ltb-false c 512 u)))
