-- What private functions of src/ compute. No public contract cites these.
-- Assumes nothing.
use Rattle.std.specs.Prelude.{ℕ, ◌+◌, ◌%◌, Bool, ◌&&◌, eqb, List, Option, Some, None, ltb, ◌≡◌, length}
use Rattle.refusals.specs.Check.{pick}
use Rattle.bench_lines.specs.Numerals.{all_digits, spelled}
use Rattle.bench_lines.specs.Text.{written}

-- a number, if it is below 2^32
unfoldable pub small : ℕ → Option ℕ
small n = pick (ltb n 4294967296) (Some n) None

-- whether the three texts of a line are hex digits, a decimal number below 2^32, and an even number of hex digits
unfoldable pub are_fields : (lid tick lsdu : List ℕ) → Bool
are_fields lid tick lsdu =
    all_digits 16 lid && ltb 0 (length tick) && all_digits 10 tick && ltb (spelled 10 tick) 4294967296 && eqb (length lsdu % 2) 0 && all_digits 16 lsdu

-- out became after by text from a place on, and next is the place behind it
pub record Placed (out : List ℕ) (at : ℕ) (text after : List ℕ) (next : ℕ) : Type 0 where
  pub place : next ≡ at + length text
  pub octets : after ≡ written out at text
