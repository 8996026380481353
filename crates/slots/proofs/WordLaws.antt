-- The word of the slots: its bits, its ones, and the trailing zeros of its complement.
use Rattle.std.proofs.Common.{◌≡◌, ℕ, zero, suc, ◌+◌, ◌-◌, ◌*◌, ◌/◌, ◌%◌, ◌^◌, ◌<◌, ◌≤◌, Bool, true, false, not, List, [], ◌∷◌, ◌++◌, length, get_or, drop, sym, refl, ap, ◌∙◌, lt_of_lt_of_le, pow-suc, add-one, arith, length-drop, pow_mono}
use mir.Val.{bool_byte}
use lib.Count.{ones, ones_in, ones_step, count_trailing_zeros, under}
use Rattle.refusals.specs.Check.{pick}
use Rattle.slots.specs.declared.Slot.{Slot}
use Rattle.slots.specs.Slots.{free, is_busy, bit_of, word_of, low_bit, bit_at}
use Rattle.slots.specs.Model.{count_busy, first_free}

-- `u32::from` of a test is its bit
pub byte_bit : (b : Bool) → bool_byte b ≡ bit_of b
byte_bit true = refl
byte_bit false = refl

pub bit_le : (b : Bool) → bit_of b ≤ 1
bit_le true = omega arith
bit_le false = omega arith

word_lt : (slots : List Slot) → word_of slots < 2 ^ length slots
unfolding word_of
word_lt [] = omega arith
word_lt (slot ∷ slots) = omega (arith, word_lt slots, bit_le (is_busy slot), pow-suc 2 (length slots))

-- a word of at most eight slots is below 256
pub word_byte : (slots : List Slot) (i : ℕ) → length slots ≡ 8 → word_of (drop i slots) < 256
word_byte slots i n = lt_of_lt_of_le (word_lt (drop i slots)) (pow_mono {j = 8} (omega (arith, length-drop i slots)))

-- the word of these slots, followed by others of the word w
unfoldable pub word_before : List Slot → ℕ → ℕ
word_before [] w = w
word_before (slot ∷ slots) w = bit_of (is_busy slot) + 2 * word_before slots w

pub before_none : (slots : List Slot) → word_of slots ≡ word_before slots 0
unfolding word_of word_before
before_none [] = refl
before_none (slot ∷ slots) = ap (λ (w : ℕ). bit_of (is_busy slot) + 2 * w) (before_none slots)

pub before_end : (slots : List Slot) (w : ℕ) → length slots ≡ 0 → word_before slots w ≡ w
unfolding word_before
before_end [] w e = refl
before_end (slot ∷ slots) w e = absurd (omega arith)

pub before_le : (slots : List Slot) (w : ℕ) → w ≤ word_before slots w
unfolding word_before
before_le [] w = omega arith
before_le (slot ∷ slots) w = omega (arith, before_le slots w)

-- one turn of the loop that makes the word, highest slot first
pub before_last : (slots : List Slot) (slot : Slot) (w : ℕ) → word_before (slots ++ slot ∷ []) w ≡ word_before slots (bit_of (is_busy slot) + 2 * w)
unfolding word_before
before_last [] slot w = refl
before_last (other ∷ slots) slot w = ap (λ (v : ℕ). bit_of (is_busy other) + 2 * v) (before_last slots slot w)

-- ---- bits and ones

pub half_word : (b : Bool) (w : ℕ) → ((bit_of b + 2 * w) % 2 ≡ bit_of b) × ((bit_of b + 2 * w) / 2 ≡ w)
half_word true w = (omega arith, omega arith)
half_word false w = (omega arith, omega arith)

pub low_bit_law : (b : Bool) (w : ℕ) → low_bit (bit_of b + 2 * w) ≡ b
low_bit_law true w = rw (half_word true w).0
low_bit_law false w = rw (half_word false w).0

-- bit i is set exactly if slot i is busy
pub word_bit : (slots : List Slot) (i : ℕ) → bit_at (word_of slots) i ≡ is_busy (get_or slots i free)
unfolding word_of bit_at
word_bit [] zero = refl
word_bit [] (suc i) = word_bit [] i
word_bit (slot ∷ slots) zero = low_bit_law (is_busy slot) (word_of slots)
word_bit (slot ∷ slots) (suc i) = ap (λ (w : ℕ). bit_at w i) (half_word (is_busy slot) (word_of slots)).1 ∙ word_bit slots i

pub ones_word : (slots : List Slot) → ones (word_of slots) ≡ count_busy slots
unfolding word_of count_busy ones ones_in
ones_word [] = refl
ones_word (slot ∷ slots) =
    let h = half_word (is_busy slot) (word_of slots) in
    ones_step (bit_of (is_busy slot) + 2 * word_of slots) ∙ rw (h.0, h.1, ones_word slots)

-- ---- trailing zeros of the complement

pow_pos : (k : ℕ) → 0 < 2 ^ k
pow_pos zero = omega arith
pow_pos (suc k) = omega (arith, pow_pos k, pow-suc 2 k)

half_not : (b : Bool) (w x : ℕ) → w < x → ((2 * x - 1 - (bit_of b + 2 * w)) % 2 ≡ bit_of (not b)) × ((2 * x - 1 - (bit_of b + 2 * w)) / 2 ≡ x - 1 - w)
half_not true w x h = (omega arith, omega arith)
half_not false w x h = (omega arith, omega arith)

under_not : (b : Bool) (t : ℕ) → under (bit_of (not b)) t ≡ pick b (t + 1) 0
under_not true t = sym (add-one t)
under_not false t = refl

pub trailing_word : (k : ℕ) (slots : List Slot) → length slots < k → count_trailing_zeros k (2 ^ k - 1 - word_of slots) ≡ first_free slots
unfolding count_trailing_zeros word_of first_free
trailing_word zero slots h = absurd (omega arith)
trailing_word (suc k) [] h =
    let e : (2 ^ suc k - 1 - 0) % 2 ≡ 1 = omega (arith, pow-suc 2 k, pow_pos k) in
    rw e
trailing_word (suc k) (slot ∷ slots) h =
    let x = 2 ^ k in
    let lt : word_of slots < x = lt_of_lt_of_le (word_lt slots) (pow_mono (omega arith)) in
    let n = half_not (is_busy slot) (word_of slots) x lt in
    let e : 2 ^ suc k ≡ 2 * x = omega (arith, pow-suc 2 k) in
    rw (e, n.0, n.1, trailing_word k slots (omega arith)) (under_not (is_busy slot) (first_free slots))
