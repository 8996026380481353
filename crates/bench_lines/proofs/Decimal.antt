-- Laws of printing a number in decimal: how many digits it has, and what the loop that writes them from the last to the first keeps.
-- Assumes nothing.
use mathlib.Core.Path.{◌≡◌, refl, ap, sym, ◌∙◌}
use Prim.Native.Nat.{ℕ, zero, suc, ◌+◌, ◌-◌, ◌*◌, ◌/◌, ◌%◌, ◌^◌, ◌≤◌, ◌<◌}
use mathlib.Core.List.{List, [], ◌∷◌, ◌++◌, append_assoc}
use native.Mathlib.Nat.{pow-suc, add-zero, pow-le-pow_right}
use Rattle.std.specs.Prelude.{Option, Some, None, IfSome, IfNone}
use Rattle.std.specs.Option.{unwrap_or}
use native.Mathlib.Omega.{arith}
use lib.Dec.{ltb}
use lib.ListN.{length, length-set, take, drop, set, take-append-drop}
use lib.Seq.{take-set-le, drop-cons, drop-set-lt, get_or-set_same}
use borrow.Author.Tests.{lt-ltb, le-ltb, ltb-true, ltb-false}
use Rattle.refusals.proofs.Tests.{by_cases}
use Rattle.bench_lines.specs.Numerals.{digit_for, digits_before, width_in, width}

-- ---- how many digits

-- the steps do not matter, where they are as many as the number
steps_enough : (k m n : ℕ) → n ≤ k → n ≤ m → width_in k n ≡ width_in m n
unfolding width_in
steps_enough zero zero n h j = refl
steps_enough zero (suc m) n h j = simp (lt-ltb n 10 (omega arith))
steps_enough (suc k) zero n h j = simp (lt-ltb n 10 (omega arith))
steps_enough (suc k) (suc m) n h j =
    by_cases (ltb n 10)
    (λ t. simp t)
    (λ t. let g = ltb-false n 10 t in simp (t, steps_enough k m (n / 10) (omega arith) (omega arith)))

pub width_one : (n : ℕ) → n ≤ 9 → width n ≡ 1
unfolding width width_in
width_one zero h = refl
width_one (suc n) h = simp (lt-ltb (suc n) 10 (omega arith))

pub width_more : (n : ℕ) → 9 < n → width n ≡ suc (width (n / 10))
unfolding width width_in
width_more zero h = absurd (omega arith)
width_more (suc n) h =
    simp (le-ltb (suc n) 10 (omega arith)) (ap suc (steps_enough n (suc n / 10) (suc n / 10) (omega arith) (omega arith)))

pub width_positive : (n : ℕ) → 1 ≤ width n
unfolding width width_in
width_positive n = some n n
  where
    some : (k n : ℕ) → 1 ≤ width_in k n
    some zero n = omega arith
    some (suc k) n = by_cases (ltb n 10) (λ t. simp t (omega arith)) (λ t. simp t (omega arith))

-- a number below 10^k has at most k digits
pub width_most : (k n : ℕ) → n < 10 ^ suc k → width n ≤ suc k
width_most zero n h = rw (width_one n (omega arith)) (omega arith)
width_most (suc k) n h =
    by_cases (ltb n 10)
    (λ t. let g = ltb-true n 10 t in rw (width_one n (omega arith)) (omega arith))
    (λ t. let g = ltb-false n 10 t in
    let p : n < 10 ^ suc k * 10 = rw pow-suc at h in
    rw (width_more n (omega arith)) (omega (arith, width_most k (n / 10) (omega arith))))

pub width_u64 : (n : ℕ) → n < 18446744073709551616 → width n ≤ 20
width_u64 n h = width_most 19 n (omega arith)

-- a number is below the power of ten that its digits count
pub width_pow : (m n : ℕ) → n ≤ m → n < 10 ^ width n
width_pow zero n h = rw (width_one n (omega arith)) (omega arith)
width_pow (suc m) n h =
    by_cases (ltb n 10)
    (λ t. let g = ltb-true n 10 t in rw (width_one n (omega arith)) (omega arith))
    (λ t. let g = ltb-false n 10 t in
    let p = width_pow m (n / 10) (omega arith) in
    rw (width_more n (omega arith), pow-suc) (omega arith))

-- the power of ten at or below a number tells how many digits it has
pub width_log : (n : ℕ) (power : Option ℕ) → IfNone power (n ≡ 0) → IfSome power (λ k. 10 ^ k ≤ n) → IfSome power (λ k. n < 10 * 10 ^ k) → width n ≡ 1 + unwrap_or power 0
width_log n None z p q = width_one n (omega arith)
width_log n (Some k) z p q =
    let m : n < 10 ^ suc k = rw pow-suc (omega arith) in
    let w = width_most k n m in
    by_cases (ltb k (width n))
    (λ t. let g = ltb-true k (width n) t in omega arith)
    (λ t. let g = ltb-false k (width n) t in
    let some : 0 < 10 = omega arith in
    let h : 10 ^ width n ≤ 10 ^ k = pow-le-pow_right some g in
    let l = width_pow n n (omega arith) in
    absurd (omega arith))

-- ---- writing the digits

-- the buffer with i digits still to be written in front of those that are
unfoldable pub Left : List ℕ → ℕ → ℕ → ℕ → List ℕ
Left out at i rest = take at out ++ digits_before 10 i rest (drop (at + i) out)

pub left_less : (out : List ℕ) (at i rest : ℕ) {x : ℕ} → x ≡ 48 + rest % 10 → 0 < i → at + i ≤ length out
    → Left out at i rest ≡ Left (set out (at + (i - 1)) x) at (i - 1) (rest / 10)
unfolding Left digits_before digit_for
left_less out at zero rest e h k = absurd (omega arith)
left_less out at (suc j) rest {x} e h k =
    let p : suc j - 1 ≡ j = omega arith in
    rw p (digit out at j rest e (omega arith))
  where
    digit : (out : List ℕ) (at j rest : ℕ) {x : ℕ} → x ≡ 48 + rest % 10 → at + j < length out
        → Left out at (suc j) rest ≡ Left (set out (at + j) x) at j (rest / 10)
    digit out at j rest {x} e k =
        let f : take at (set out (at + j) x) ≡ take at out = take-set-le at out (at + j) x (omega arith) in
        let n : at + suc j ≡ suc (at + j) = omega arith in
        let g : drop (at + j) (set out (at + j) x) ≡ x ∷ drop (suc (at + j)) out =
        drop-cons (set out (at + j) x) (at + j) 0 (rw length-set k)
        ∙ rw (get_or-set_same out (at + j) x 0 k, drop-set-lt (suc (at + j)) out (at + j) x (omega arith)) in
        rw (f, g, n, e) (simp (lt-ltb (rest % 10) 10 (omega arith)))

pub left_whole : (out₀ out : List ℕ) (at k n i rest : ℕ) → Left out₀ at k n ≡ Left out at i rest → i ≤ 0
    → out ≡ take at out₀ ++ digits_before 10 k n (drop (at + k) out₀)
unfolding Left digits_before
left_whole out₀ out at k n zero rest e h = sym (e ∙ rw add-zero (take-append-drop at out))
left_whole out₀ out at k n (suc i) rest e h = absurd (omega arith)

-- ---- the digits as a list

pub digits_append : (base k n : ℕ) (l : List ℕ) → digits_before base k n l ≡ digits_before base k n [] ++ l
unfolding digits_before
digits_append base zero n l = refl
digits_append base (suc k) n l =
    let d = digit_for (n % base) in
    digits_append base k (n / base) (d ∷ l)
    ∙ sym (ap (λ (m : List ℕ). m ++ l) (digits_append base k (n / base) (d ∷ [])) ∙ append_assoc (digits_before base k (n / base) []) (d ∷ []) l)

pub length_digits : (base k n : ℕ) (l : List ℕ) → length (digits_before base k n l) ≡ k + length l
unfolding digits_before
length_digits base zero n l = omega arith
length_digits base (suc k) n l = length_digits base k (n / base) (digit_for (n % base) ∷ l) ∙ omega arith
