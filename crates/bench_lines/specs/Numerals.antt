-- Digits and the numbers that they spell (01, "The bench program": hex digits of either case, decimal numbers), and the digits of a number.
-- A character is its octet.
-- Assumes nothing.
use Rattle.std.specs.Prelude.{ℕ, zero, suc, ◌+◌, ◌-◌, ◌*◌, ◌/◌, ◌%◌, Bool, true, ◌&&◌, List, [], ◌∷◌, leb, ltb}
use Rattle.refusals.specs.Check.{pick}

-- ---- reading

-- the value of a digit, `0` to `9`, `A` to `F`, `a` to `f`; 16 for any other character
unfoldable pub digit_value : ℕ → ℕ
digit_value c =
    pick (leb 48 c && leb c 57) (c - 48)
    (pick (leb 65 c && leb c 70) (c - 55)
    (pick (leb 97 c && leb c 102) (c - 87) 16))

-- each character is a digit of this base
unfoldable pub all_digits : ℕ → List ℕ → Bool
all_digits base [] = true
all_digits base (c ∷ s) = ltb (digit_value c) base && all_digits base s

-- the number that digits spell, the most significant first, when those of v stand in front of them
unfoldable pub spelled_after : ℕ → ℕ → List ℕ → ℕ
spelled_after base v [] = v
spelled_after base v (c ∷ s) = spelled_after base (v * base + digit_value c) s

-- the number that digits of a base spell
unfoldable pub spelled : ℕ → List ℕ → ℕ
spelled base s = spelled_after base 0 s

-- the octets that hex digits spell, two for each octet
unfoldable pub octets_of : List ℕ → List ℕ
octets_of [] = []
octets_of (a ∷ []) = []
octets_of (a ∷ (b ∷ s)) = (digit_value a * 16 + digit_value b) ∷ octets_of s

-- ---- printing

-- the character of a digit: `0` to `9`, `A` to `F`
unfoldable pub digit_for : ℕ → ℕ
digit_for d = pick (ltb d 10) (48 + d) (55 + d)

-- the k last digits of n, and then l
unfoldable pub digits_before : ℕ → ℕ → ℕ → List ℕ → List ℕ
digits_before base zero n l = l
digits_before base (suc k) n l = digits_before base k (n / base) (digit_for (n % base) ∷ l)

-- how many decimal digits n has without leading zeros, counted in at most k steps
unfoldable pub width_in : ℕ → ℕ → ℕ
width_in zero n = 1
width_in (suc k) n = pick (ltb n 10) 1 (suc (width_in k (n / 10)))

-- how many decimal digits n has without leading zeros: n itself is steps enough
unfoldable pub width : ℕ → ℕ
width n = width_in n n

-- n in decimal, without leading zeros, and then l
unfoldable pub decimal_before : ℕ → List ℕ → List ℕ
decimal_before n l = digits_before 10 (width n) n l
