-- The octets of a header that was read are the octets read: each of their bits is a bit of a field.
-- Assumes nothing.
use mathlib.Core.Path.{◌≡◌, refl, ap, sym, ◌∙◌}
use mathlib.Core.Bool.{true, false, ◌&&◌}
use Prim.Native.Nat.{ℕ, zero, suc, ◌+◌, ◌*◌, ◌/◌, ◌≤◌, ◌<◌}
use mathlib.Core.List.{List, [], ◌++◌, append_assoc}
use native.Mathlib.Omega.{arith}
use lib.Dec.{ltb, eqb}
use lib.ListN.{length, length-append, take, drop}
use borrow.Author.Tests.{eq-eqb, ne_eqb, lt-ltb, le-ltb, ltb-false, eqb-true, eqb-false}
use Rattle.refusals.specs.Check.{accepted}
use Rattle.refusals.proofs.Tests.{by_cases, first_none, decided_accepted}
use Rattle.bits.specs.Bits.{Octets, digits, bits, field}
use Rattle.bits.proofs.Laws.{field_lt, digits_field, digits_above, octets_take}
use Rattle.header.specs.Header.{end_bit, header_length, counter_in, length_for, header_of, read_refusal, read_header, bit_of, first_bits, next_bits, header_bits, header_octets}
use Rattle.header.specs.declared.Header.{Header}
use Rattle.header.specs.declared.HeaderRead.{HeaderRead}
use Rattle.header.proofs.Reading.{length_one, length_two, length_three}
use Rattle.header.proofs.Writing.{InRange, first_bits_law, first_length, next_bits_law, next_length, needs_two, needs_three}

-- the octets read are the header's
pub record Again (s : List ℕ) (f : HeaderRead) : Type 0 where
  pub in_range : InRange f.header
  pub inside : f.size ≤ length s
  pub needs : length_for f.header.counter ≡ f.size
  pub same : header_octets f.header ≡ take f.size s

bit_eq : (n : ℕ) → n < 2 → bit_of (eqb n 1) ≡ n
bit_eq zero h = refl
bit_eq (suc zero) h = refl
bit_eq (suc (suc n)) h = absurd (omega arith)

module _ (s : List ℕ) (octs : Octets s) where
  abbrev h : Header
  h = header_of s

  -- the first octet's bits are those of the fields read
  first_of : (c e : ℕ) → 1 ≤ length s → digits 2 c ≡ digits 2 (field s 5 2) → field s 7 1 ≡ e → bits s ≡ first_bits h c e ++ drop 8 (bits s)
  unfolding header_of
  first_of c e l f g =
      let d0 = digits_field s 0 1 (omega arith) in
      let d1 = digits_field s 1 4 (omega arith) in
      let d5 = digits_field s 5 2 (omega arith) in
      let d7 = digits_field s 7 1 (omega arith) in
      sym (first_bits_law h c e (drop 8 (bits s)) ∙ rw (bit_eq (field s 0 1) (field_lt s 0 1), f, ← g) (rw (d7, d5, d1) d0))

  next_of : (at c e : ℕ) → at + 7 + 1 ≤ 8 * length s → digits 7 c ≡ digits 7 (field s at 7) → field s (at + 7) 1 ≡ e → drop at (bits s) ≡ next_bits c e ++ drop (at + 7 + 1) (bits s)
  next_of at c e l f g =
      let d0 = digits_field s at 7 (omega arith) in
      let d7 = digits_field s (at + 7) 1 (omega arith) in
      sym (next_bits_law c e (drop (at + 7 + 1) (bits s)) ∙ rw (f, ← g) (rw d7 d0))

  number_le : h.number ≤ 15
  unfolding header_of
  number_le = omega (arith, field_lt s 1 4)

  -- a header of m octets whose bits are those of s
  rewritten : (m : ℕ) (l q : List ℕ) → header_length s ≡ m → m ≤ length s → length_for h.counter ≡ m → h.counter ≤ 65535 → header_bits h ≡ l → bits s ≡ l ++ q → length l ≡ 8 * m
      → Again s (record { header = h; size = header_length s })
  unfolding header_octets
  rewritten m l q e k f c b d n =
      record {
        in_range = record { number = number_le; counter = c };
        inside = rw e k;
        needs = f ∙ sym e;
        same = rw (f, b, e) (octets_take s m l q octs k d n);
      }

  abbrev Writes : Type 0
  Writes = Again s (record { header = h; size = header_length s })

  writes_one : end_bit s 0 ≡ 1 → header_length s ≤ length s → Writes
  unfolding header_of header_bits header_length counter_in end_bit
  writes_one e k =
      let n : header_length s ≡ 1 = simp e in
      let c : h.counter ≡ field s 5 2 = rw n refl in
      let f = field_lt s 5 2 in
      let l : h.counter < 4 = omega arith in
      let j : 1 ≤ length s = rw n at k in
      rewritten 1 (first_bits h h.counter 1) (drop 8 (bits s)) n j (sym (length_one l)) (omega arith) (simp (lt-ltb _ _ l))
      (first_of h.counter 1 j (ap (digits 2) c) e) (first_length h h.counter 1 [])

  -- an end bit that is not 1 is 0
  not_one : (i : ℕ) → (end_bit s i ≡ 1 → ⊥) → end_bit s i ≡ 0
  unfolding end_bit
  not_one i n =
      let l = field_lt s (8 * i + 7) 1 in
      omega arith

  end_bit_law : (i e : ℕ) → end_bit s i ≡ e → field s (8 * i + 7) 1 ≡ e
  unfolding end_bit
  end_bit_law i e f = f

  writes_two : (end_bit s 0 ≡ 1 → ⊥) → end_bit s 1 ≡ 1 → header_length s ≤ length s → header_length s ≤ length_for h.counter → Writes
  unfolding header_of header_bits header_length counter_in
  writes_two e g k o =
      let n : header_length s ≡ 2 = simp (ne_eqb _ _ e, eq-eqb _ _ g) in
      let c : h.counter ≡ field s 5 2 * 128 + field s 8 7 = rw n refl in
      let f5 = field_lt s 5 2 in
      let f8 = field_lt s 8 7 in
      let l : h.counter < 512 = omega arith in
      let m : 4 ≤ h.counter = needs_two h.counter (omega arith) in
      let j : 2 ≤ length s = rw n at k in
      let d2 : h.counter / 128 ≡ field s 5 2 = omega arith in
      let d7 : digits 7 h.counter ≡ digits 7 (field s 8 7) = ap (digits 7) c ∙ digits_above 7 (field s 5 2) (field s 8 7) in
      let q : drop 8 (bits s) ≡ next_bits h.counter 1 ++ drop 16 (bits s) = next_of 8 h.counter 1 (omega arith) d7 (end_bit_law 1 1 g) in
      rewritten 2 (first_bits h (h.counter / 128) 0 ++ next_bits h.counter 1) (drop 16 (bits s)) n j (sym (length_two m l)) (omega arith)
      (simp (le-ltb _ _ m, lt-ltb _ _ l))
      (first_of (h.counter / 128) 0 (omega arith) (ap (digits 2) d2) (end_bit_law 0 0 (not_one 0 e)) ∙ ap (λ (x : List ℕ). first_bits h (h.counter / 128) 0 ++ x) q
      ∙ sym (append_assoc (first_bits h (h.counter / 128) 0) (next_bits h.counter 1) (drop 16 (bits s))))
      (omega (arith, length-append (first_bits h (h.counter / 128) 0) (next_bits h.counter 1), first_length h (h.counter / 128) 0 [], next_length h.counter 1 []))

  writes_three : (end_bit s 0 ≡ 1 → ⊥) → (end_bit s 1 ≡ 1 → ⊥) → (end_bit s 2 ≡ 1 → ⊥) → header_length s ≤ length s → header_length s ≤ length_for h.counter → Writes
  unfolding header_of header_bits header_length counter_in
  writes_three e g i k o =
      let n : header_length s ≡ 3 = simp (ne_eqb _ _ e, ne_eqb _ _ g) in
      let v = h.counter in
      let c : v ≡ (field s 5 2 * 128 + field s 8 7) * 128 + field s 16 7 = rw n refl in
      let f5 = field_lt s 5 2 in
      let f8 = field_lt s 8 7 in
      let f16 = field_lt s 16 7 in
      let l : 512 ≤ v = needs_three v (omega arith) in
      let m : 4 ≤ v = omega arith in
      let j : 3 ≤ length s = rw n at k in
      let a : v / 128 ≡ field s 5 2 * 128 + field s 8 7 = omega arith in
      let b : v / 16384 ≡ field s 5 2 = omega arith in
      let d8 : digits 7 (v / 128) ≡ digits 7 (field s 8 7) = ap (digits 7) a ∙ digits_above 7 (field s 5 2) (field s 8 7) in
      let d16 : digits 7 v ≡ digits 7 (field s 16 7) = ap (digits 7) c ∙ digits_above 7 (field s 5 2 * 128 + field s 8 7) (field s 16 7) in
      let x = first_bits h (v / 16384) 0 in
      let y = next_bits (v / 128) 0 in
      let z = next_bits v 0 in
      let q8 : drop 8 (bits s) ≡ y ++ drop 16 (bits s) = next_of 8 (v / 128) 0 (omega arith) d8 (end_bit_law 1 0 (not_one 1 g)) in
      let q16 : drop 16 (bits s) ≡ z ++ drop 24 (bits s) = next_of 16 v 0 (omega arith) d16 (end_bit_law 2 0 (not_one 2 i)) in
      rewritten 3 (x ++ (y ++ z)) (drop 24 (bits s)) n j (sym (length_three l)) (omega arith) (simp (le-ltb _ _ m, le-ltb _ _ l))
      (first_of (v / 16384) 0 (omega arith) (ap (digits 2) b) (end_bit_law 0 0 (not_one 0 e)) ∙ ap (λ (w : List ℕ). x ++ w) (q8 ∙ ap (λ (w : List ℕ). y ++ w) q16) ∙ regroup x y z (drop 24 (bits s)))
      (omega (arith, length-append x (y ++ z), length-append y z, first_length h (v / 16384) 0 [], next_length (v / 128) 0 [], next_length v 0 []))
    where
      regroup : (a b c d : List ℕ) → a ++ (b ++ (c ++ d)) ≡ (a ++ (b ++ c)) ++ d
      regroup a b c d = simp append_assoc

  third : (end_bit s 0 ≡ 1 → ⊥) → (end_bit s 1 ≡ 1 → ⊥) → (eqb (header_length s) 3 && eqb (end_bit s 2) 1) ≡ false → end_bit s 2 ≡ 1 → ⊥
  unfolding header_length
  third e f b g =
      let n : header_length s ≡ 3 = simp (ne_eqb _ _ e, ne_eqb _ _ f) in
      let t : (eqb (header_length s) 3 && eqb (end_bit s 2) 1) ≡ true = rw n (eq-eqb (end_bit s 2) 1 g) in
      let z : true ≡ false = sym t ∙ b in
      let w : ◌≡◌ {A = ℕ} 0 1 = cc in
      omega arith

  writing : read_refusal s ≡ 0 → Writes
  unfolding read_refusal
  writing z =
      let a = first_none 4 (ltb (length s) (header_length s)) _ z in
      let b = first_none 4 (eqb (header_length s) 3 && eqb (end_bit s 2) 1) _ a.1 in
      let c = first_none 4 (ltb (length_for h.counter) (header_length s)) _ b.1 in
      let k : header_length s ≤ length s = ltb-false _ _ a.0 in
      let o : header_length s ≤ length_for h.counter = ltb-false _ _ c.0 in
      by_cases (eqb (end_bit s 0) 1) (λ t. writes_one (eqb-true (end_bit s 0) 1 t) k)
      (λ t. by_cases (eqb (end_bit s 1) 1)
      (λ u. writes_two (eqb-false (end_bit s 0) 1 t) (eqb-true (end_bit s 1) 1 u) k o)
      (λ u. writes_three (eqb-false (end_bit s 0) 1 t) (eqb-false (end_bit s 1) 1 u) (third (eqb-false (end_bit s 0) 1 t) (eqb-false (end_bit s 1) 1 u) b.0) k o))

pub again : (s : List ℕ) (f : HeaderRead) → Octets s → read_header s ≡ accepted f → Again s f
unfolding read_header
again s f octs e =
    let d = decided_accepted (read_refusal s) (record { header = header_of s; size = header_length s }) f e in
    rw d.1 at (writing s octs d.0)
