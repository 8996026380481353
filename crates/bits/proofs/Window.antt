-- A field put into the number of the octets that hold it is the field put among their bits.
-- Assumes nothing.
use mathlib.Core.Path.{◌≡◌, refl, ap, sym, ◌∙◌}
use Prim.Native.Nat.{ℕ, zero, suc, ◌+◌, ◌*◌, ◌/◌, ◌%◌, ◌^◌, ◌≤◌, ◌<◌, ◌-◌}
use mathlib.Core.List.{List, [], ◌∷◌, ◌++◌, append_assoc, append-nil}
use native.Mathlib.Nat.{add-zero, add-suc, add_assoc, add-mul, one-mul, mul-le-mul_right, mod-lt, lt_of_lt_of_le}
use native.Mathlib.Omega.{arith}
use lib.ListN.{length, length-append, length-drop, length-set, get_or, take, drop, set, take-append-drop}
use lib.Bits.{bit_and, and_mask}
use lib.Pow.{pow_pos, pow_mono, pow-add, high, split, shl_lt, shl_exact}
use lib.Seq.{length-take-le, take-add, take_at, take-take, take-set-le, drop_at, drop-drop, drop-cons, drop-set-lt, get_or-set_same}
use Rattle.bits.specs.Bits.{Octets, digits, bits, number, field, octets, put_bits}
use Rattle.bits.specs.Window.{bytes, merge}
use Rattle.bits.proofs.Laws.{below_append, below_cons, below_drop, below_take, bits_small, length_bits, length_digits, digits_above, digits_add, digits_number, field_add, field_sub, field_lt, field_octet, octets_bits, bits_append, take_bits, drop_bits}

-- ---- octets of a number

pub bits_bytes : (n v : ℕ) (l : List ℕ) → bits (bytes n v l) ≡ digits (8 * n) v ++ bits l
unfolding bytes bits digits
bits_bytes zero v l = refl
bits_bytes (suc n) v l =
    let e : 8 * suc n ≡ 8 * n + 8 = omega arith in
    let o : digits 8 (v % 2 ^ 8) ≡ digits 8 v = sym (digits_above 8 (v / 2 ^ 8) (v % 2 ^ 8)) ∙ ap (digits 8) (split v 8) in
    bits_bytes n (v / 256) (v % 256 ∷ l)
    ∙ ap (λ (b : List ℕ). digits (8 * n) (v / 256) ++ (b ++ bits l)) o
    ∙ sym (append_assoc (digits (8 * n) (v / 256)) (digits 8 v) (bits l))
    ∙ ap (λ (b : List ℕ). b ++ bits l) (sym (digits_add (8 * n) 8 v) ∙ ap (λ (k : ℕ). digits k v) (sym e))

pub bytes_small : (n v : ℕ) {l : List ℕ} → Octets l → Octets (bytes n v l)
unfolding bytes
bytes_small zero v h = h
bytes_small (suc n) v h = bytes_small n (v / 256) (below_cons (omega arith) h)

pub length_bytes : (n v : ℕ) (l : List ℕ) → length (bytes n v l) ≡ n + length l
unfolding bytes
length_bytes zero v l = omega arith
length_bytes (suc n) v l =
    let h = length_bytes n (v / 256) (v % 256 ∷ l) in
    omega arith

-- ---- a field put into a number

module _ (whole w over v : ℕ) where
  -- the bits of v in their place, with what is below them
  abbrev inner : ℕ
  inner = v % 2 ^ w * 2 ^ over + whole % 2 ^ over

  inner_lt : inner < 2 ^ (w + over)
  inner_lt =
      let a : v % 2 ^ w < 2 ^ w = mod-lt v (pow_pos w) in
      let b : whole % 2 ^ over < 2 ^ over = mod-lt whole (pow_pos over) in
      let c : (v % 2 ^ w + 1) * 2 ^ over ≤ 2 ^ w * 2 ^ over = mul-le-mul_right (2 ^ over) (omega arith) in
      let d : (v % 2 ^ w + 1) * 2 ^ over ≡ v % 2 ^ w * 2 ^ over + 2 ^ over = add-mul (v % 2 ^ w) 1 (2 ^ over) ∙ ap (λ (n : ℕ). v % 2 ^ w * 2 ^ over + n) (one-mul (2 ^ over)) in
      rw pow-add (omega arith)

  pub merge_split : merge whole w over v ≡ whole / 2 ^ (w + over) * 2 ^ (w + over) + inner
  unfolding merge
  merge_split =
      let e = split whole (w + over) in
      omega arith

  -- the digits of the new number: those above, the field, those below
  pub digits_merge : (skip : ℕ) → digits (skip + (w + over)) (merge whole w over v)
      ≡ digits skip (whole / 2 ^ (w + over)) ++ (digits w v ++ digits over whole)
  digits_merge skip =
      let m : digits w (v % 2 ^ w) ≡ digits w v = sym (digits_above w (v / 2 ^ w) (v % 2 ^ w)) ∙ ap (digits w) (split v w) in
      let o : digits over (whole % 2 ^ over) ≡ digits over whole =
      sym (digits_above over (whole / 2 ^ over) (whole % 2 ^ over)) ∙ ap (digits over) (split whole over) in
      let a : digits (w + over) inner ≡ digits w v ++ digits over whole =
      digits_add w over inner
      ∙ ap (λ (n : ℕ). digits w n ++ digits over inner) (high (v % 2 ^ w) over (mod-lt whole (pow_pos over)))
      ∙ ap (λ (b : List ℕ). digits w (v % 2 ^ w) ++ b) (digits_above over (v % 2 ^ w) (whole % 2 ^ over) ∙ o)
      ∙ ap (λ (b : List ℕ). b ++ digits over whole) m in
      ap (digits (skip + (w + over))) merge_split
      ∙ digits_add skip (w + over) (whole / 2 ^ (w + over) * 2 ^ (w + over) + inner)
      ∙ ap (λ (n : ℕ). digits skip n ++ digits (w + over) (whole / 2 ^ (w + over) * 2 ^ (w + over) + inner)) (high (whole / 2 ^ (w + over)) (w + over) inner_lt)
      ∙ ap (λ (b : List ℕ). digits skip (whole / 2 ^ (w + over)) ++ b) (digits_above (w + over) (whole / 2 ^ (w + over)) inner ∙ a)

-- ---- the window of a write

module _ (out : List ℕ) (first skip w over n v : ℕ) (octs : Octets out) (width : skip + (w + over) ≡ 8 * n) (fits : first + n ≤ length out) where
  abbrev whole : ℕ
  whole = field out (8 * first) (8 * n)

  -- the bits from the window's first octet on
  ahead : drop (8 * first) (bits out) ≡ digits skip (whole / 2 ^ (w + over)) ++ (digits w (whole / 2 ^ over) ++ (digits over whole ++ drop (8 * (first + n)) (bits out)))
  unfolding field
  ahead =
      let d = drop (8 * first) (bits out) in
      let k : 8 * n ≤ length d = omega (arith, length-drop (8 * first) (bits out), length_bits out) in
      let e : 8 * first + 8 * n ≡ 8 * (first + n) = omega arith in
      let f : digits (8 * n) whole ≡ digits skip (whole / 2 ^ (w + over)) ++ (digits w (whole / 2 ^ over) ++ digits over whole) =
      ap (λ (k : ℕ). digits k whole) (sym width) ∙ digits_add skip (w + over) whole ∙ ap (λ (b : List ℕ). digits skip (whole / 2 ^ (w + over)) ++ b) (digits_add w over whole) in
      sym (take-append-drop (8 * n) d)
      ∙ ap (λ (b : List ℕ). b ++ drop (8 * n) d) (sym (digits_number (8 * n) d (below_drop (8 * first) (bits_small out)) k) ∙ f)
      ∙ ap (λ (b : List ℕ). (digits skip (whole / 2 ^ (w + over)) ++ (digits w (whole / 2 ^ over) ++ digits over whole)) ++ b) (drop-drop (8 * n) (8 * first) (bits out) ∙ ap (λ (k : ℕ). drop k (bits out)) e)
      ∙ simp append_assoc

  before : take (8 * first + skip) (bits out) ≡ take (8 * first) (bits out) ++ digits skip (whole / 2 ^ (w + over))
  before =
      take-add (8 * first) skip (bits out)
      ∙ ap (λ (b : List ℕ). take (8 * first) (bits out) ++ take skip b) ahead
      ∙ ap (λ (b : List ℕ). take (8 * first) (bits out) ++ b) (take_at (digits skip (whole / 2 ^ (w + over))) _ skip (length_digits skip (whole / 2 ^ (w + over))))

  behind : drop (8 * first + skip + w) (bits out) ≡ digits over whole ++ drop (8 * (first + n)) (bits out)
  behind =
      let h = digits skip (whole / 2 ^ (w + over)) in
      let m = digits w (whole / 2 ^ over) in
      let q = digits over whole ++ drop (8 * (first + n)) (bits out) in
      ap (λ (k : ℕ). drop k (bits out)) (add_assoc (8 * first) skip w)
      ∙ sym (drop-drop (skip + w) (8 * first) (bits out))
      ∙ ap (drop (skip + w)) ahead
      ∙ sym (drop-drop w skip (h ++ (m ++ q)))
      ∙ ap (drop w) (drop_at h (m ++ q) skip (length_digits skip (whole / 2 ^ (w + over))))
      ∙ drop_at m q w (length_digits w (whole / 2 ^ over))

  pub put_window_law : take first out ++ bytes n (merge whole w over v) (drop (first + n) out) ≡ put_bits out (8 * first + skip) (digits w v)
  unfolding put_bits
  put_window_law =
      let new = merge whole w over v in
      let r = take first out ++ bytes n new (drop (first + n) out) in
      let q = drop (8 * (first + n)) (bits out) in
      let h = digits skip (whole / 2 ^ (w + over)) in
      let o = digits over whole in
      let p = take (8 * first) (bits out) in
      let small : Octets r = below_append (below_take first octs) (bytes_small n new (below_drop (first + n) octs)) in
      let long : length r ≡ length out =
      omega (arith, length-append (take first out) (bytes n new (drop (first + n) out)), length-take-le first out (omega arith), length_bytes n new (drop (first + n) out), length-drop (first + n) out) in
      let b : bits r ≡ p ++ ((h ++ (digits w v ++ o)) ++ q) =
      bits_append (take first out) (bytes n new (drop (first + n) out))
      ∙ ap (λ (l : List ℕ). l ++ bits (bytes n new (drop (first + n) out))) (sym (take_bits first out))
      ∙ ap (λ (l : List ℕ). p ++ l) (bits_bytes n new (drop (first + n) out))
      ∙ ap (λ (l : List ℕ). p ++ (digits (8 * n) new ++ l)) (sym (drop_bits (first + n) out))
      ∙ ap (λ (l : List ℕ). p ++ (l ++ q)) (ap (λ (k : ℕ). digits k new) (sym width) ∙ digits_merge whole w over v skip) in
      let c : take (8 * first + skip) (bits out) ++ (digits w v ++ drop (8 * first + skip + length (digits w v)) (bits out)) ≡ p ++ ((h ++ (digits w v ++ o)) ++ q) =
      ap (λ (k : ℕ). take (8 * first + skip) (bits out) ++ (digits w v ++ drop (8 * first + skip + k) (bits out))) (length_digits w v)
      ∙ ap (λ (l : List ℕ). l ++ (digits w v ++ drop (8 * first + skip + w) (bits out))) before
      ∙ ap (λ (l : List ℕ). (p ++ h) ++ (digits w v ++ l)) behind
      ∙ regroup p h (digits w v) o q in
      sym (octets_bits r [] small)
      ∙ ap (λ (l : List ℕ). octets (length r) l) (append-nil (bits r) ∙ b ∙ sym c)
      ∙ ap (λ (k : ℕ). octets k (take (8 * first + skip) (bits out) ++ (digits w v ++ drop (8 * first + skip + length (digits w v)) (bits out)))) long
    where
      regroup : (a b c d e : List ℕ) → (a ++ b) ++ (c ++ (d ++ e)) ≡ a ++ ((b ++ (c ++ d)) ++ e)
      regroup a b c d e = simp append_assoc

-- ---- what the code computes with

pub mod_le : (n k : ℕ) → n % 2 ^ k ≤ n
mod_le n k =
    let e = split n k in
    omega arith

one_shifted : (k : ℕ) → k < 64 → 1 * 2 ^ k % 2 ^ 64 ≡ 2 ^ k
one_shifted k h = shl_exact {a = 1} 1 k 64 (omega arith) (omega arith) ∙ one-mul (2 ^ k)

pub low_mask : (v k : ℕ) → k < 64 → bit_and v (1 * 2 ^ k % 2 ^ 64 - 1) ≡ v % 2 ^ k
low_mask v k h = rw (one_shifted k h) (and_mask v k)

pub low_mask_pos : (k : ℕ) → k < 64 → 1 ≤ 1 * 2 ^ k % 2 ^ 64
low_mask_pos k h = rw (one_shifted k h) (pow_pos k)

-- the low bits of a field, shifted to their place, stay below 2^55
module _ (w over v : ℕ) (narrow : w ≤ 48) (near : over ≤ 7) where
  field_low : v % 2 ^ w < 2 ^ w
  field_low = mod-lt v (pow_pos w)

  pub shifted : {x : ℕ} → x ≡ v % 2 ^ w → (x * 2 ^ over % 2 ^ 64 ≡ v % 2 ^ w * 2 ^ over) × (v % 2 ^ w * 2 ^ over < 2 ^ 55)
  shifted e = (
    rw e (shl_exact w over 64 field_low (omega arith)),
    lt_of_lt_of_le (shl_lt w over field_low) (pow_mono {i = w + over} {j = 55} (omega arith)),
  )

-- ---- a loop that reads a window

pub window_none : (s : List ℕ) (at : ℕ) → 0 ≡ field s at (8 * 0)
unfolding field number
window_none s at = refl

pub window_more : (s : List ℕ) (first k : ℕ) {v o : ℕ} → v ≡ field s (8 * first) (8 * k) → o ≡ get_or s (first + k) 0 → o < 256
    → v * 256 + o ≡ field s (8 * first) (8 * (k + 1))
window_more s first k e f h =
    let a : 8 * (k + 1) ≡ 8 * k + 8 = omega arith in
    let b : 8 * first + 8 * k ≡ 8 * (first + k) = omega arith in
    rw (a, field_add s (8 * first) (8 * k) 8, b, field_octet s (first + k) (rw f at h), ← e, ← f)

pub window_lt : (s : List ℕ) (at n : ℕ) {v : ℕ} → v ≡ field s at (8 * n) → n ≤ 7 → v < 2 ^ 56
window_lt s at n e h = rw e (lt_of_lt_of_le (field_lt s at (8 * n)) (pow_mono {i = 8 * n} {j = 56} (omega arith)))

pub window_whole : (s : List ℕ) (first k n : ℕ) {v : ℕ} → v ≡ field s (8 * first) (8 * k) → k ≡ n → n ≤ 7
    → (v ≡ field s (8 * first) (8 * n)) × (v < 2 ^ 56)
window_whole s first k n e f h =
    let g = rw f at e in
    (g, window_lt s (8 * first) n g h)

-- ---- a field out of a window

pub field_window : (s : List ℕ) (first skip w n : ℕ) {x r : ℕ} → skip + w ≤ 8 * n → x ≡ field s (8 * first) (8 * n)
    → r ≡ x / 2 ^ (n * 8 - skip - w) % 2 ^ w → r ≡ field s (8 * first + skip) w
field_window s first skip w n h e f =
    let over = n * 8 - skip - w in
    let m : 8 * n ≡ skip + w + over = omega arith in
    f ∙ ap (λ (y : ℕ). y / 2 ^ over % 2 ^ w) (e ∙ ap (field s (8 * first)) m) ∙ field_sub s (8 * first) skip w over

-- ---- a loop that writes a window, from its last octet

-- what is left to write gives the whole
pub record Left (out₀ : List ℕ) (first n v : ℕ) (out : List ℕ) (k rest : ℕ) : Type 0 where
  pub long : length out ≡ length out₀
  pub front : take (first + k) out ≡ take (first + k) out₀
  pub whole : bytes k rest (drop (first + k) out) ≡ bytes n v (drop (first + n) out₀)

pub left_all : (out : List ℕ) (first n v : ℕ) → Left out first n v out n v
left_all out first n v = record { long = refl; front = refl; whole = refl }

pub left_less : (out₀ : List ℕ) (first n v : ℕ) (out : List ℕ) (k rest : ℕ) → Left out₀ first n v out k rest → 0 < k → first + k ≤ length out₀
    → Left out₀ first n v (set out (first + (k - 1)) (rest % 256)) (k - 1) (rest / 256)
unfolding bytes
left_less out₀ first n v out zero rest l h fits = absurd (omega arith)
left_less out₀ first n v out (suc j) rest l h fits =
    let i = first + j in
    let a : suc j - 1 ≡ j = omega arith in
    let b : first + suc j ≡ suc i = add-suc first j in
    let m = l.long in
    let k : i < length out = omega arith in
    let d : drop i (set out i (rest % 256)) ≡ rest % 256 ∷ drop (first + suc j) out =
    drop-cons (set out i (rest % 256)) i 0 (rw length-set k)
    ∙ ap (λ (x : ℕ). x ∷ drop (suc i) (set out i (rest % 256))) (get_or-set_same out i (rest % 256) 0 k)
    ∙ ap (λ (q : List ℕ). rest % 256 ∷ q) (drop-set-lt (suc i) out i (rest % 256) (omega arith) ∙ ap (λ (x : ℕ). drop x out) (sym b)) in
    rw a
    record {
      long = length-set out i (rest % 256) ∙ l.long;
      front =
          take-set-le i out i (rest % 256) (omega arith) ∙ sym (take-take i (first + suc j) out (omega arith)) ∙ ap (take i) l.front
          ∙ take-take i (first + suc j) out₀ (omega arith);
      whole = rw d l.whole;
    }

pub left_none : (out₀ : List ℕ) (first n v : ℕ) (out : List ℕ) (k rest : ℕ) → Left out₀ first n v out k rest → k ≡ 0
    → out ≡ take first out₀ ++ bytes n v (drop (first + n) out₀)
unfolding bytes
left_none out₀ first n v out zero rest l h =
    sym (take-append-drop first out) ∙ rw add-zero at (ap (λ (p : List ℕ). p ++ drop (first + 0) out) l.front ∙ ap (λ (q : List ℕ). take (first + 0) out₀ ++ q) l.whole)
left_none out₀ first n v out (suc k) rest l h = absurd (omega arith)

-- ---- a field into a window

pub field_put_in : (out : List ℕ) (first skip w n v : ℕ) {x m : ℕ} {t : List ℕ} → Octets out → skip + w ≤ 8 * n → first + n ≤ length out
    → x ≡ field out (8 * first) (8 * n) → m ≡ merge x w (n * 8 - skip - w) v
    → t ≡ take first out ++ bytes n m (drop (first + n) out) → t ≡ put_bits out (8 * first + skip) (digits w v)
field_put_in out first skip w n v octs wide fits e f g =
    let over = n * 8 - skip - w in
    g ∙ ap (λ (y : ℕ). take first out ++ bytes n y (drop (first + n) out)) (f ∙ ap (λ (y : ℕ). merge y w over v) e)
    ∙ put_window_law out first skip w over n v octs (omega arith) fits
