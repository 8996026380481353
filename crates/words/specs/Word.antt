-- Numbers as words: one that is too large becomes the largest, which no call takes.
-- Assumes nothing.
use Rattle.std.specs.Prelude.{ℕ, ◌-◌, ◌^◌, ltb}
use Rattle.refusals.specs.Check.{pick}

-- the number, or the largest of so many bits
unfoldable pub narrow_to : (bits x : ℕ) → ℕ
narrow_to bits x = pick (ltb x (2 ^ bits)) x (2 ^ bits - 1)
