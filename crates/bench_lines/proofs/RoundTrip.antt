-- Reading a printed line gives LID, tick and LSDU back: the digits of a number spell it, none of them is a space, so the two spaces part the
-- three texts.
-- Assumes nothing.
use mathlib.Core.Path.{◌≡◌, refl, ap, sym, ◌∙◌}
use mathlib.Core.Bool.{true, ◌&&◌}
use Prim.Native.Nat.{ℕ, zero, suc, ◌+◌, ◌*◌, ◌/◌, ◌%◌, ◌^◌, ◌≤◌, ◌<◌}
use mathlib.Core.List.{List, [], ◌∷◌, ◌++◌, append_assoc}
use native.Mathlib.Nat.{pow-zero, pow-suc, mul-one, one-mul, zero-mul, mul_assoc, add-mul, mul-pos, mul-le-mul_right, div-add-mod', mod-lt, mod-one, mod-eq_of_lt, mul-add-mod_self_right}
use native.Mathlib.Omega.{arith}
use lib.Dec.{leb, ltb, eqb}
use lib.ListN.{length, take, drop, length-append}
use lib.Seq.{take-append_seam, take_at, drop_at}
use borrow.Author.Tests.{le-leb, lt-leb, lt-ltb, eq-eqb, ltb-true, ltb-false, eqb-true}
use Rattle.refusals.specs.Check.{pick, refused, accepted}
use Rattle.refusals.proofs.Tests.{by_cases}
use Rattle.bits.specs.Bits.{Octets}
use Rattle.bits.proofs.Laws.{below_tail}
use Rattle.bench_lines.specs.Numerals.{digit_value, all_digits, spelled_after, spelled, octets_of, digit_for, digits_before, width, decimal_before}
use Rattle.bench_lines.specs.Line.{longest_line, lid_digits, tick_bound, before, first_space, second_space, lid_text, tick_text, lsdu_text, all_hold, has_form, fields_of, read_line, lsdu_after, hex_text, line_text}
use Rattle.bench_lines.specs.RoundTrip.{has_place, GivenBack, ReadingPrinted}
use Rattle.bench_lines.proofs.Spelling.{and_both}
use Rattle.bench_lines.proofs.Form.{and_end}
use Rattle.bench_lines.proofs.Decimal.{width_positive, width_pow, digits_append, length_digits}

-- ---- the digits of a number

value_of : (d : ℕ) → d < 16 → digit_value (digit_for d) ≡ d
unfolding digit_value digit_for
value_of d h =
    by_cases (ltb d 10)
    (λ t. let g = ltb-true d 10 t in simp (t, le-leb 48 (48 + d) (omega arith), le-leb (48 + d) 57 (omega arith)) (omega arith))
    (λ t. let g = ltb-false d 10 t in
    simp (t, le-leb 48 (55 + d) (omega arith), lt-leb (55 + d) 57 (omega arith), le-leb 65 (55 + d) (omega arith), le-leb (55 + d) 70 (omega arith)) (omega arith))

module _ (base : ℕ) (some : 0 < base) (most : base ≤ 16) where
  digit_lt : (n : ℕ) → n % base < base
  digit_lt n = mod-lt n some

  value_digit : (n : ℕ) → digit_value (digit_for (n % base)) ≡ n % base
  value_digit n = let h = digit_lt n in value_of (n % base) (omega arith)

  digits_all : (k n : ℕ) (l : List ℕ) → all_digits base l ≡ true → all_digits base (digits_before base k n l) ≡ true
  unfolding digits_before all_digits
  digits_all zero n l e = e
  digits_all (suc k) n l e =
      digits_all k (n / base) (digit_for (n % base) ∷ l) (rw (value_digit n) (simp (lt-ltb _ _ (digit_lt n), e)))

  -- the k + 1 last digits of n: the k last in front of its last
  last_digits : (k n : ℕ) → (n / base % base ^ k) * base + n % base ≡ n % base ^ suc k
  last_digits k n =
      let p = base ^ k in
      let q = n / base in
      let l : q % p + 1 ≤ p = omega (arith, mod-lt q (pow_pos k)) in
      let m : (q % p + 1) * base ≤ p * base = mul-le-mul_right base l in
      let f : q % p * base + n % base < p * base = omega (arith, m, add-mul (q % p) 1 base, one-mul base, digit_lt n) in
      let e : n ≡ q / p * (p * base) + (q % p * base + n % base) =
      omega (arith, div-add-mod' n base, ap (λ (x : ℕ). x * base) (div-add-mod' q p), add-mul (q / p * p) (q % p) base, mul_assoc (q / p) p base) in
      sym (rw pow-suc (ap (λ (x : ℕ). x % (p * base)) e ∙ mul-add-mod_self_right (q / p) (p * base) (q % p * base + n % base) ∙ mod-eq_of_lt f))
    where
      pow_pos : (k : ℕ) → 0 < base ^ k
      pow_pos zero = rw pow-zero (omega arith)
      pow_pos (suc k) = rw pow-suc (mul-pos (pow_pos k) some)

  digits_spell : (k v n : ℕ) (l : List ℕ) → spelled_after base v (digits_before base k n l) ≡ spelled_after base (v * base ^ k + n % base ^ k) l
  unfolding digits_before spelled_after
  digits_spell zero v n l =
      let e : v * base ^ 0 + n % base ^ 0 ≡ v = rw (pow-zero, mul-one, mod-one) (omega arith) in
      sym (ap (λ (m : ℕ). spelled_after base m l) e)
  digits_spell (suc k) v n l =
      let a = add-mul (v * base ^ k) (n / base % base ^ k) base in
      let b = mul_assoc v (base ^ k) base in
      let e : (v * base ^ k + n / base % base ^ k) * base + digit_value (digit_for (n % base)) ≡ v * base ^ suc k + n % base ^ suc k =
      rw (value_digit n, ← last_digits k n, pow-suc) (omega (arith, a, b)) in
      digits_spell k v (n / base) (digit_for (n % base) ∷ l) ∙ ap (λ (m : ℕ). spelled_after base m l) e

  -- the last k digits of a number, none in front of them and none behind
  digits_number : (k n : ℕ) → spelled base (digits_before base k n []) ≡ n % base ^ k
  unfolding spelled spelled_after
  digits_number k n =
      let z = zero-mul (base ^ k) in
      digits_spell k 0 n [] ∙ omega arith

  -- a space is no digit
  before_space : (a b : List ℕ) → all_digits base a ≡ true → before 32 (a ++ (32 ∷ b)) ≡ length a
  unfolding before all_digits digit_value
  before_space [] b e = refl
  before_space (c ∷ a) b e =
      let p = and_both (ltb (digit_value c) base) (all_digits base a) e in
      by_cases (eqb c 32)
      (λ t. let s : c ≡ 32 = eqb-true c 32 t in
      let h : digit_value c < base = ltb-true _ _ p.0 in
      let g : 16 < base = rw s at h in
      absurd (omega arith))
      (λ t. simp t (ap suc (before_space a b p.1)))

-- ---- octets in hex

hex_digits : (s : List ℕ) → Octets s → all_digits 16 (hex_text s) ≡ true
unfolding hex_text all_digits
hex_digits [] o = refl
hex_digits (x ∷ s) o =
    let h : x < 256 = o.each zero in
    let p : digit_value (digit_for (x / 16)) < 16 = rw (value_of (x / 16) (omega arith)) (omega arith) in
    let q : digit_value (digit_for (x % 16)) < 16 = rw (value_of (x % 16) (omega arith)) (omega arith) in
    simp (lt-ltb _ _ p, lt-ltb _ _ q, hex_digits s (below_tail o))

hex_octets : (s : List ℕ) → Octets s → octets_of (hex_text s) ≡ s
unfolding hex_text octets_of
hex_octets [] o = refl
hex_octets (x ∷ s) o =
    let h : x < 256 = o.each zero in
    let e : x / 16 * 16 + x % 16 ≡ x = omega arith in
    rw (value_of (x / 16) (omega arith), value_of (x % 16) (omega arith), e, hex_octets s (below_tail o))

length_hex : (s : List ℕ) → length (hex_text s) ≡ 2 * length s
unfolding hex_text
length_hex [] = refl
length_hex (x ∷ s) = omega (arith, length_hex s)

-- ---- three texts with a space between

abbrev parted : List ℕ → List ℕ → List ℕ → List ℕ
parted a b c = a ++ (32 ∷ (b ++ (32 ∷ c)))

module _ (a b c : List ℕ) (hex : all_digits 16 a ≡ true) (decimal : all_digits 10 b ≡ true) where
  abbrev line : List ℕ
  line = parted a b c

  first_is : first_space line ≡ length a
  unfolding first_space
  first_is = before_space 16 (omega arith) (omega arith) a (b ++ (32 ∷ c)) hex

  behind_first : drop (length a + 1) line ≡ b ++ (32 ∷ c)
  behind_first =
      let e : line ≡ (a ++ (32 ∷ [])) ++ (b ++ (32 ∷ c)) = sym (append_assoc a (32 ∷ []) (b ++ (32 ∷ c))) in
      rw e (drop_at (a ++ (32 ∷ [])) (b ++ (32 ∷ c)) (length a + 1) (length-append a (32 ∷ [])))

  second_is : second_space line ≡ length a + 1 + length b
  unfolding second_space
  second_is = rw (first_is, behind_first, before_space 10 (omega arith) (omega arith) b c decimal)

  lid_is : lid_text line ≡ a
  unfolding lid_text
  lid_is = rw (first_is, take-append_seam a (32 ∷ (b ++ (32 ∷ c))))

  tick_is : tick_text line ≡ b
  unfolding tick_text
  tick_is =
      let n : length (a ++ (32 ∷ b)) ≡ length a + 1 + length b = omega (arith, length-append a (32 ∷ b)) in
      let e : line ≡ (a ++ (32 ∷ b)) ++ (32 ∷ c) = sym (append_assoc a (32 ∷ b) (32 ∷ c)) in
      let f : take (length a + 1 + length b) line ≡ a ++ (32 ∷ b) = rw e (take_at (a ++ (32 ∷ b)) (32 ∷ c) (length a + 1 + length b) n) in
      let g : a ++ (32 ∷ b) ≡ (a ++ (32 ∷ [])) ++ b = sym (append_assoc a (32 ∷ []) b) in
      rw (first_is, second_is, f, g) (drop_at (a ++ (32 ∷ [])) b (length a + 1) (length-append a (32 ∷ [])))

  lsdu_is : lsdu_text line ≡ c
  unfolding lsdu_text
  lsdu_is =
      let p = a ++ (32 ∷ (b ++ (32 ∷ []))) in
      let n : length p ≡ length a + 1 + length b + 1 = omega (arith, length-append a (32 ∷ (b ++ (32 ∷ []))), length-append b (32 ∷ [])) in
      let e : line ≡ p ++ c = simp append_assoc in
      rw (second_is, e) (drop_at p c (length a + 1 + length b + 1) n)

  length_line : length line ≡ length a + (1 + (length b + (1 + length c)))
  length_line = omega (arith, length-append a (32 ∷ (b ++ (32 ∷ c))), length-append b (32 ∷ c))

  module _ (seven : length a ≡ 7) (some : 0 < length b) (even : length c % 2 ≡ 0) (digits : all_digits 16 c ≡ true) where
    formed : has_form line ≡ (leb (length line) longest_line && ltb (spelled 10 b) tick_bound)
    unfolding has_form all_hold
    formed =
        let h : length a + 1 + length b < length line = omega (arith, length_line) in
        simp (first_is, eq-eqb _ _ seven, second_is, lt-ltb _ _ h, lid_is, hex, tick_is, lt-ltb _ _ some, decimal, lsdu_is, eq-eqb _ _ even, digits, and_end)

    pub read_back : (room : ℕ) → read_line line room
        ≡ pick (leb (length line) longest_line && ltb (spelled 10 b) tick_bound)
        (pick (leb (length c / 2) room) (accepted (record { lid = spelled 16 a; tick = spelled 10 b; octets = length c / 2 })) (refused 22)) (refused 0)
    unfolding read_line fields_of
    read_back room = simp (formed, lid_is, tick_is, lsdu_is)

-- ---- reading what was printed

module _ (lid tick : ℕ) (lsdu : List ℕ) where
  lid_digits_law : List ℕ
  lid_digits_law = digits_before 16 lid_digits lid []

  tick_digits : List ℕ
  tick_digits = digits_before 10 (width tick) tick []

  text_is : line_text lid tick lsdu ≡ parted lid_digits_law tick_digits (hex_text lsdu)
  unfolding line_text decimal_before lid_digits_law tick_digits
  text_is =
      digits_append 16 lid_digits lid (32 ∷ digits_before 10 (width tick) tick (32 ∷ hex_text lsdu))
      ∙ ap (λ (l : List ℕ). digits_before 16 lid_digits lid [] ++ (32 ∷ l)) (digits_append 10 (width tick) tick (32 ∷ hex_text lsdu))

  module _ (o : Octets lsdu) (buffer : List ℕ) where
    hex : all_digits 16 lid_digits_law ≡ true
    unfolding lid_digits_law all_digits
    hex = digits_all 16 (omega arith) (omega arith) lid_digits lid [] refl

    decimal : all_digits 10 tick_digits ≡ true
    unfolding tick_digits all_digits
    decimal = digits_all 10 (omega arith) (omega arith) (width tick) tick [] refl

    lid_spelled : spelled 16 lid_digits_law ≡ lid % 16 ^ lid_digits
    unfolding lid_digits_law
    lid_spelled = digits_number 16 (omega arith) (omega arith) lid_digits lid

    tick_spelled : spelled 10 tick_digits ≡ tick
    unfolding tick_digits
    tick_spelled = digits_number 10 (omega arith) (omega arith) (width tick) tick ∙ mod-eq_of_lt (width_pow tick tick (omega arith))

    octets_half : length (hex_text lsdu) / 2 ≡ length lsdu
    octets_half = omega (arith, length_hex lsdu)

    pub given_back : GivenBack lid tick lsdu buffer
    unfolding lid_digits_law tick_digits lsdu_after has_place
    given_back =
        let back =
        read_back lid_digits_law tick_digits (hex_text lsdu) hex decimal (length_digits 16 lid_digits lid [])
        (omega (arith, length_digits 10 (width tick) tick [], width_positive tick)) (omega (arith, length_hex lsdu)) (hex_digits lsdu o) (length buffer) in
        record {
          answer = rw text_is (rw (lid_spelled, tick_spelled, octets_half) at back);
          front = rw (text_is, lsdu_is lid_digits_law tick_digits (hex_text lsdu) hex decimal, hex_octets lsdu o);
        }

pub reading_printed : ReadingPrinted
unfolding ReadingPrinted
reading_printed lid tick lsdu buffer o = given_back lid tick lsdu o buffer
