-- A part of a list of 32 places: how many of those asked for there are.
-- Assumes nothing.
use Rattle.std.specs.Prelude.{ℕ, ltb}
use Rattle.refusals.specs.Check.{pick}

-- the lesser of two numbers
unfoldable pub lesser : ℕ → ℕ → ℕ
lesser most n = pick (ltb most n) most n
