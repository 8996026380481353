-- Laws of bits, over the width: digits and numbers, bits and octets, fields.
-- Assumes nothing.
use mathlib.Core.Path.{◌≡◌, refl, ap, sym, ◌∙◌}
use Prim.Native.Nat.{ℕ, zero, suc, ◌+◌, ◌*◌, ◌/◌, ◌%◌, ◌^◌, ◌≤◌, ◌<◌}
use mathlib.Core.List.{List, [], ◌∷◌, ◌++◌, append_assoc, append-nil}
use native.Mathlib.Nat.{add-zero, add-suc, mul_assoc, div-one, mod-eq_of_lt, pow-suc}
use native.Mathlib.Numerals.{add-one}
use native.Mathlib.Omega.{arith}
use lib.Bits.{block_half, block_odd}
use lib.Pow.{shr-shr, mod-pow-add, high, low}
use lib.ListN.{length, length-append, length-drop, get_or, take, drop, take-append-drop}
use lib.Seq.{length-take-le, take_at, get_or-drop, get_or_at, drop_at, drop-drop, drop-nil, take-nil, take-suc, take-append-add}
use mir.Syntax.{w8}
use mir.Val.{Fits}
use Rattle.bits.specs.Bits.{Below, Bits, Octets, digits, bits, number, field, octets}

-- ---- digits

pub length_digits : (w v : ℕ) → length (digits w v) ≡ w
unfolding digits
length_digits zero v = refl
length_digits (suc w) v =
    let h = length_digits w (v / 2) in
    omega (arith, length-append (digits w (v / 2)) (v % 2 ∷ []))

-- the low bits do not see what stands above them
pub digits_above : (w hi lo : ℕ) → digits w (hi * 2 ^ w + lo) ≡ digits w lo
unfolding digits
digits_above zero hi lo = refl
digits_above (suc w) hi lo = rw (block_half, block_odd) (ap (λ (l : List ℕ). l ++ (lo % 2 ∷ [])) (digits_above w hi (lo / 2)))

-- fields in a row, most significant first
pub digits_add : (a b v : ℕ) → digits (a + b) v ≡ digits a (v / 2 ^ b) ++ digits b v
unfolding digits
digits_add a zero v = rw (add-zero, div-one) (sym (append-nil (digits a v)))
digits_add a (suc b) v =
    let e : v / 2 / 2 ^ b ≡ v / 2 ^ suc b = shr-shr v 1 b ∙ ap (λ (k : ℕ). v / 2 ^ k) (one_more b) in
    rw add-suc (ap (λ (l : List ℕ). l ++ (v % 2 ∷ [])) (digits_add a b (v / 2) ∙ ap (λ (n : ℕ). digits a n ++ digits b (v / 2)) e)
    ∙ append_assoc (digits a (v / 2 ^ suc b)) (digits b (v / 2)) (v % 2 ∷ []))
  where
    one_more : (b : ℕ) → 1 + b ≡ suc b
    one_more b = omega arith

-- ---- lists of bits and of octets

module _ {m : ℕ} where
  pub below_nil : 0 < m → Below m []
  below_nil h = record { each = λ i. none i }
    where
      none : (i : ℕ) → get_or [] i 0 < m
      none zero = h
      none (suc i) = h

  pub below_cons : {a : ℕ} {l : List ℕ} → a < m → Below m l → Below m (a ∷ l)
  below_cons {a} {l} h k = record { each = λ i. one i }
    where
      one : (i : ℕ) → get_or (a ∷ l) i 0 < m
      one zero = h
      one (suc i) = k.each i

  pub below_tail : {a : ℕ} {l : List ℕ} → Below m (a ∷ l) → Below m l
  below_tail h = record { each = λ i. h.each (suc i) }

  pub below_append : {l r : List ℕ} → Below m l → Below m r → Below m (l ++ r)
  below_append {l = []} h k = k
  below_append {l = a ∷ l} h k = below_cons (h.each zero) (below_append (below_tail h) k)

  pub below_drop : (n : ℕ) {l : List ℕ} → Below m l → Below m (drop n l)
  below_drop n h = record { each = λ i. rw get_or-drop (h.each (n + i)) }

  pub below_take : (n : ℕ) {l : List ℕ} → Below m l → Below m (take n l)
  below_take zero h = below_nil (omega (arith, h.each 0))
  below_take (suc n) {l = []} h = h
  below_take (suc n) {l = a ∷ l} h = below_cons (h.each zero) (below_take n (below_tail h))

pub digits_small : (w v : ℕ) → Bits (digits w v)
unfolding digits
digits_small zero v = below_nil (omega arith)
digits_small (suc w) v = below_append (digits_small w (v / 2)) (below_cons (omega arith) (below_nil (omega arith)))

pub bits_small : (s : List ℕ) → Bits (bits s)
unfolding bits
bits_small [] = below_nil (omega arith)
bits_small (o ∷ s) = below_append (digits_small 8 o) (bits_small s)

-- ---- numbers

pub number_lt : (w : ℕ) (l : List ℕ) → Bits l → number w l < 2 ^ w
unfolding number
number_lt zero l h = omega arith
number_lt (suc w) l h =
    let a = number_lt w l h in
    let b = h.each w in
    omega arith

pub number_add : (w r : ℕ) (l : List ℕ) → number (w + r) l ≡ number w l * 2 ^ r + number r (drop w l)
unfolding number
number_add w zero l = rw add-zero (omega arith)
number_add w (suc r) l =
    let i = number_add w r l in
    let e : number w l * 2 ^ suc r ≡ number w l * 2 ^ r * 2 = rw (pow-suc 2 r, ← mul_assoc) in
    rw (add-suc, get_or-drop, e) (omega arith)

-- the number of so many digits, whatever follows them
pub number_digits : (w v : ℕ) (q : List ℕ) → number w (digits w v ++ q) ≡ v % 2 ^ w
unfolding number digits
number_digits zero v q = omega arith
number_digits (suc w) v q =
    let n = length_digits w (v / 2) in
    let l : (digits w (v / 2) ++ (v % 2 ∷ [])) ++ q ≡ digits w (v / 2) ++ (v % 2 ∷ q) = append_assoc (digits w (v / 2)) (v % 2 ∷ []) q in
    let b : get_or (digits w (v / 2) ++ (v % 2 ∷ q)) w 0 ≡ v % 2 = get_or_at (digits w (v / 2)) (v % 2) q 0 w n in
    let h = number_digits w (v / 2) (v % 2 ∷ q) in
    let m : v / 2 % 2 ^ w * 2 ^ 1 + v % 2 ^ 1 ≡ v % 2 ^ (w + 1) = sym (mod-pow-add v w 1) in
    rw (l, b, h) (m ∙ ap (λ (k : ℕ). v % 2 ^ k) (add-one w))

-- ---- bits of octets

pub length_bits : (s : List ℕ) → length (bits s) ≡ 8 * length s
unfolding bits
length_bits [] = refl
length_bits (o ∷ s) =
    let h = length_bits s in
    omega (arith, length-append (digits 8 o) (bits s), length_digits 8 o)

pub bits_append : (s t : List ℕ) → bits (s ++ t) ≡ bits s ++ bits t
unfolding bits
bits_append [] t = refl
bits_append (o ∷ s) t = ap (λ (l : List ℕ). digits 8 o ++ l) (bits_append s t) ∙ sym (append_assoc (digits 8 o) (bits s) (bits t))

pub drop_bits : (i : ℕ) (s : List ℕ) → drop (8 * i) (bits s) ≡ bits (drop i s)
unfolding bits
drop_bits zero s = refl
drop_bits (suc i) [] = drop-nil (8 * suc i)
drop_bits (suc i) (o ∷ s) =
    let e : 8 * suc i ≡ 8 + 8 * i = omega arith in
    rw (e, ← drop-drop (8 * i) 8 (digits 8 o ++ bits s), drop_at (digits 8 o) (bits s) 8 (length_digits 8 o)) (drop_bits i s)

pub take_bits : (i : ℕ) (s : List ℕ) → take (8 * i) (bits s) ≡ bits (take i s)
unfolding bits
take_bits zero s = refl
take_bits (suc i) [] = take-nil (8 * suc i)
take_bits (suc i) (o ∷ s) =
    let e : 8 * suc i ≡ length (digits 8 o) + 8 * i = omega (arith, length_digits 8 o) in
    rw (e, take-append-add) (ap (λ (l : List ℕ). digits 8 o ++ l) (take_bits i s))

-- octets are the numbers of their bits
pub octets_bits : (s q : List ℕ) → Octets s → octets (length s) (bits s ++ q) ≡ s
unfolding octets bits
octets_bits [] q h = refl
octets_bits (o ∷ s) q h =
    let e : (digits 8 o ++ bits s) ++ q ≡ digits 8 o ++ (bits s ++ q) = append_assoc (digits 8 o) (bits s) q in
    let a : o < 256 = h.each zero in
    let n : number 8 (digits 8 o ++ (bits s ++ q)) ≡ o = number_digits 8 o (bits s ++ q) ∙ mod-eq_of_lt a in
    rw (e, n, drop_at (digits 8 o) (bits s ++ q) 8 (length_digits 8 o)) (ap (λ (l : List ℕ). o ∷ l) (octets_bits s q (below_tail h)))

-- the octets at the front, from their bits
pub octets_take : (s : List ℕ) (n : ℕ) (l q : List ℕ) → Octets s → n ≤ length s → bits s ≡ l ++ q → length l ≡ 8 * n → octets n l ≡ take n s
octets_take s n l q h k e f =
    let a : l ≡ bits (take n s) = sym (take_at l q (8 * n) f) ∙ ap (take (8 * n)) (sym e) ∙ take_bits n s in
    let m : length (take n s) ≡ n = length-take-le n s k in
    ap (octets n) (a ∙ sym (append-nil (bits (take n s)))) ∙ ap (λ (i : ℕ). octets i (bits (take n s) ++ [])) (sym m) ∙ octets_bits (take n s) [] (below_take n h)

pub length_octets : (n : ℕ) (l : List ℕ) → length (octets n l) ≡ n
unfolding octets
length_octets zero l = refl
length_octets (suc n) l = ap suc (length_octets n (drop 8 l))

-- the digits of the number of bits are those bits
pub digits_number : (w : ℕ) (l : List ℕ) → Bits l → w ≤ length l → digits w (number w l) ≡ take w l
unfolding number digits
digits_number zero l h k = refl
digits_number (suc w) l h k =
    let b = h.each w in
    let q : (number w l * 2 + get_or l w 0) / 2 ≡ number w l = omega arith in
    let r : (number w l * 2 + get_or l w 0) % 2 ≡ get_or l w 0 = omega arith in
    rw (q, r, take-suc l w 0 k) (ap (λ (m : List ℕ). m ++ (get_or l w 0 ∷ [])) (digits_number w l h (omega arith)))

-- whole octets of bits, and back
pub bits_octets : (n : ℕ) (l : List ℕ) → Bits l → length l ≡ 8 * n → bits (octets n l) ≡ l
unfolding octets bits
bits_octets zero [] h k = refl
bits_octets zero (b ∷ l) h k = absurd (omega arith)
bits_octets (suc n) l h k =
    let d : length (drop 8 l) ≡ 8 * n = omega (arith, length-drop 8 l) in
    rw (bits_octets n (drop 8 l) (below_drop 8 h) d, digits_number 8 l h (omega arith)) (take-append-drop 8 l)

pub octets_small : (n : ℕ) (l : List ℕ) → Bits l → Octets (octets n l)
unfolding octets
octets_small zero l h = below_nil (omega arith)
octets_small (suc n) l h = below_cons (number_lt 8 l h) (octets_small n (drop 8 l) (below_drop 8 h))

-- ---- fields

pub field_lt : (s : List ℕ) (at w : ℕ) → field s at w < 2 ^ w
unfolding field
field_lt s at w = number_lt w (drop at (bits s)) (below_drop at (bits_small s))

pub field_add : (s : List ℕ) (at w r : ℕ) → field s at (w + r) ≡ field s at w * 2 ^ r + field s (at + w) r
unfolding field
field_add s at w r = number_add w r (drop at (bits s)) ∙ ap (λ (l : List ℕ). number w (drop at (bits s)) * 2 ^ r + number r l) (drop-drop w at (bits s))

-- on an octet's border a field of eight bits is the octet, and 0 past the end
pub field_octet : (s : List ℕ) (i : ℕ) → get_or s i 0 < 256 → field s (8 * i) 8 ≡ get_or s i 0
unfolding field bits number
field_octet s i h = rw (drop_bits i s) (first (drop i s) (rw (get_or-drop, add-zero) h) ∙ get_or-drop i s 0 0 ∙ ap (λ (k : ℕ). get_or s k 0) (add-zero i))
  where
    first : (s : List ℕ) → get_or s 0 0 < 256 → number 8 (bits s) ≡ get_or s 0 0
    first [] h = refl
    first (o ∷ s) h = number_digits 8 o (bits s) ∙ mod-eq_of_lt h

-- a field out of a wider one: the w bits behind p, before r more
pub field_sub : (s : List ℕ) (at p w r : ℕ) → field s at (p + w + r) / 2 ^ r % 2 ^ w ≡ field s (at + p) w
field_sub s at p w r =
    rw (field_add s at (p + w) r, high (field s at (p + w)) r (field_lt s (at + (p + w)) r), field_add s at p w)
    (low (field s at p) w (field_lt s (at + p) w))

-- a field within one octet
pub field_in_octet : (s : List ℕ) (i p w r : ℕ) → p + w + r ≡ 8 → get_or s i 0 < 256 → field s (8 * i + p) w ≡ get_or s i 0 / 2 ^ r % 2 ^ w
field_in_octet s i p w r e h =
    sym (field_sub s (8 * i) p w r) ∙ ap (λ (n : ℕ). field s (8 * i) n / 2 ^ r % 2 ^ w) e ∙ ap (λ (n : ℕ). n / 2 ^ r % 2 ^ w) (field_octet s i h)

-- at place at the bits l stand
pub record Ahead (s : List ℕ) (at : ℕ) (l : List ℕ) : Type 0 where
  pub is : drop at (bits s) ≡ l

-- reading takes a field's bits off the front of what is left
pub field_front : {s : List ℕ} {at : ℕ} (w v : ℕ) (q : List ℕ) → Ahead s at (digits w v ++ q) → field s at w ≡ v % 2 ^ w
unfolding field
field_front w v q a = rw a.is (number_digits w v q)

pub field_rest : {s : List ℕ} {at : ℕ} (w v : ℕ) (q : List ℕ) → Ahead s at (digits w v ++ q) → Ahead s (at + w) q
field_rest {s} {at} w v q a = record { is = sym (drop-drop w at (bits s)) ∙ ap (drop w) a.is ∙ drop_at (digits w v) q w (length_digits w v) }

-- the digits of a field that was read are the bits that stood there
pub digits_field : (s : List ℕ) (at w : ℕ) → at + w ≤ 8 * length s → digits w (field s at w) ++ drop (at + w) (bits s) ≡ drop at (bits s)
unfolding field
digits_field s at w h =
    let n : w ≤ length (drop at (bits s)) = omega (arith, length-drop at (bits s), length_bits s) in
    rw (digits_number w (drop at (bits s)) (below_drop at (bits_small s)) n, ← drop-drop w at (bits s)) (take-append-drop w (drop at (bits s)))

-- the number of bits of which the first are known
pub number_front : (w r v : ℕ) (q : List ℕ) → number (w + r) (digits w v ++ q) ≡ v % 2 ^ w * 2 ^ r + number r q
number_front w r v q = rw (number_add w r (digits w v ++ q), number_digits w v q, drop_at (digits w v) q w (length_digits w v))

-- what is known of a slice of u8
pub octets_known : (l : List ℕ) → ((i : ℕ) → Fits w8 (get_or l i 0)) → Octets l
octets_known l h = record { each = λ i. (h i).fits }
