-- Laws of reading digits: what a loop over digits keeps, one turn at a time.
-- Assumes nothing.
use mathlib.Core.Path.{◌≡◌, refl, ap, sym, ◌∙◌}
use mathlib.Core.Bool.{Bool, true, false, ◌&&◌}
use Prim.Native.Nat.{ℕ, zero, suc, ◌+◌, ◌*◌, ◌/◌, ◌≤◌, ◌<◌}
use mathlib.Core.List.{List, [], ◌∷◌, ◌++◌}
use native.Mathlib.Nat.{mul-le-mul_left}
use native.Mathlib.Numerals.{add-one}
use native.Mathlib.Omega.{arith}
use Rattle.std.specs.Prelude.{Some, None, Result, Ok, Err}
use Rattle.std.specs.Result.{OkIff, result_ok}
use Rattle.std.specs.List.{list_all}
use lib.Dec.{ltb}
use lib.ListN.{length, get_or, take, drop, set, drop_of_length-le}
use lib.Seq.{drop-cons, paste, paste-suc, take_all}
use borrow.Author.Tests.{lt-ltb, le-ltb, ltb-true}
use Rattle.bench_lines.specs.Numerals.{digit_value, all_digits, spelled_after, octets_of}
use Rattle.bench_lines.specs.Inside.{small}

-- ---- a loop over the characters of s

pub digits_all_of : (base : ℕ) (s : List ℕ) → list_all (λ c. ltb (digit_value c) base) s ≡ all_digits base s
unfolding all_digits
digits_all_of base [] = refl
digits_all_of base (c ∷ s) = ap (λ (b : Bool). ltb (digit_value c) base && b) (digits_all_of base s)

pub number_more : (s : List ℕ) (i base : ℕ) {x : ℕ} → x ≡ digit_value (get_or s i 0) → i < length s → (v : ℕ) {n : ℕ}
    → n ≡ spelled_after base v (drop i s) → n ≡ spelled_after base (v * base + x) (drop (i + 1) s)
unfolding spelled_after
number_more s i base e inside v p = p ∙ rw (add-one, drop-cons s i 0 inside, e)

pub number_end : (s : List ℕ) (i base v : ℕ) {n : ℕ} → n ≡ spelled_after base v (drop i s) → length s ≤ i → v < 4294967296 → Some v ≡ small n
unfolding spelled_after small
number_end s i base v {n} p h k =
    let q : n ≡ v = p ∙ rw (drop_of_length-le s h) in
    rw q (simp (lt-ltb v 4294967296 k))

-- more digits never make a smaller number
pub spelled_grows : (base v : ℕ) (s : List ℕ) → 1 ≤ base → v ≤ spelled_after base v s
unfolding spelled_after
spelled_grows base v [] h = omega arith
spelled_grows base v (c ∷ s) h =
    let m : v * 1 ≤ v * base = mul-le-mul_left v h in
    omega (arith, spelled_grows base (v * base + digit_value c) s h)

pub number_over : (s : List ℕ) (base v : ℕ) {n : ℕ} → n ≡ spelled_after base v s → 1 ≤ base → 4294967296 ≤ v → None ≡ small n
unfolding small
number_over s base v {n} p h k =
    let g : v ≤ n = rw p (spelled_grows base v s h) in
    simp (le-ltb n 4294967296 (omega arith))

-- what a conversion to 32 bits tells
pub converted : {E : Type 0} (r : Result ℕ E) {v n : ℕ} → OkIff r (v < 4294967296) v → Some n ≡ result_ok r → (v < 4294967296) × (n ≡ v)
converted (Ok x) {v} {n} h e = let k : n ≡ x = cc in (h.0, k ∙ h.1)
converted (Err d) h e = cc

pub not_converted : {E : Type 0} (r : Result ℕ E) {v : ℕ} → OkIff r (v < 4294967296) v → None ≡ result_ok r → 4294967296 ≤ v
not_converted (Ok x) h e = cc
not_converted (Err d) h e = omega arith

-- the product in a turn fits
pub product_small : {v base : ℕ} → v < 4294967296 → base ≤ 16 → v * base ≤ 68719476736
product_small {v} {base} h k =
    let m : v * base ≤ v * 16 = mul-le-mul_left v k in
    omega arith

-- ---- digits of a base are below it

pub and_both : (a b : Bool) → (a && b) ≡ true → (a ≡ true) × (b ≡ true)
and_both true b e = (refl, e)
and_both false true e = (e, refl)
and_both false false e = (e, e)

pub digit_below : (base : ℕ) (s : List ℕ) (j : ℕ) → all_digits base s ≡ true → j < length s → digit_value (get_or s j 0) < base
unfolding all_digits
digit_below base [] j e h = absurd (omega arith)
digit_below base (c ∷ s) zero e h = ltb-true _ _ (and_both (ltb (digit_value c) base) (all_digits base s) e).0
digit_below base (c ∷ s) (suc j) e h = digit_below base s j (and_both (ltb (digit_value c) base) (all_digits base s) e).1 (omega arith)

-- ---- octets out of pairs of digits

pub length_octets : (s : List ℕ) → length (octets_of s) ≡ length s / 2
unfolding octets_of
length_octets [] = refl
length_octets (a ∷ []) = refl
length_octets (a ∷ (b ∷ s)) = omega (arith, length_octets s)

pub octet_at : (s : List ℕ) (k : ℕ) → k < length s / 2 → get_or (octets_of s) k 0 ≡ digit_value (get_or s (2 * k) 0) * 16 + digit_value (get_or s (2 * k + 1) 0)
unfolding octets_of
octet_at [] k h = absurd (omega arith)
octet_at (a ∷ []) k h = absurd (omega arith)
octet_at (a ∷ (b ∷ s)) zero h = refl
octet_at (a ∷ (b ∷ s)) (suc k) h =
    let p : 2 * suc k ≡ suc (suc (2 * k)) = omega arith in
    let q : suc (suc (2 * k)) + 1 ≡ suc (suc (2 * k + 1)) = omega arith in
    rw (p, q) (octet_at s k (omega arith))

-- ---- one octet more in front of a buffer

pub front_more : (d o : List ℕ) (k : ℕ) {e : List ℕ} {x : ℕ} → e ≡ take k o ++ drop k d → x ≡ get_or o k 0 → k < length o → k < length d
    → set e k x ≡ take (k + 1) o ++ drop (k + 1) d
front_more d o k {e} {x} p q h j =
    let z : k ≡ 0 + k = omega arith in
    let f : 0 + suc k ≡ suc k = omega arith in
    let r : set (paste d 0 o k) (0 + k) (get_or o k 0) ≡ paste d 0 o (suc k) = paste-suc d 0 o k 0 (omega arith) h in
    rw (add-one, p, q) (rw (← z, f) at r)

module _ (s d : List ℕ) where
  pub octet_more : (k : ℕ) {e : List ℕ} {x : ℕ} → e ≡ take k (octets_of s) ++ drop k d
      → x ≡ digit_value (get_or s (2 * k) 0) * 16 + digit_value (get_or s (2 * k + 1) 0) → k < length s / 2 → length s / 2 ≤ length d
      → set e k x ≡ take (k + 1) (octets_of s) ++ drop (k + 1) d
  octet_more k p q h j =
      front_more d (octets_of s) k p (q ∙ sym (octet_at s k h)) (omega (arith, length_octets s)) (omega arith)

  pub octets_whole : (k : ℕ) {e : List ℕ} → e ≡ take k (octets_of s) ++ drop k d → k ≡ length s / 2 → e ≡ octets_of s ++ drop (length s / 2) d
  octets_whole k p q =
      let w : length (octets_of s) ≤ length s / 2 = omega (arith, length_octets s) in
      p ∙ rw (q, take_all (length s / 2) (octets_of s) w)
