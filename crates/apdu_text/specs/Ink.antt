-- The pen: a place in the output. A character is set where the output has room, and the place goes on, so that one code measures a text and writes it.
-- No public contract cites these.
-- Assumes nothing.
use Rattle.std.specs.Prelude.{ℕ, zero, suc, ◌+◌, ◌≡◌, List, [], ◌∷◌, get_or, set, ltb}
use Rattle.refusals.specs.Check.{pick}
use Rattle.apdu_text.specs.declared.pen.Pen.{Pen}

-- the largest place
abbrev pub farthest : ℕ
farthest = 18446744073709551615

-- the place behind one, which does not pass the farthest
unfoldable pub next : ℕ → ℕ
next at = pick (ltb at farthest) (at + 1) at

-- the place behind a text
unfoldable pub place_after : ℕ → List ℕ → ℕ
place_after at [] = at
place_after at (c ∷ text) = place_after (next at) text

-- the output with as much of a text from a place on as it has room for
unfoldable pub inked : List ℕ → ℕ → List ℕ → List ℕ
inked out at [] = out
inked out at (c ∷ text) = inked (set out at c) (next at) text

-- a text was written: the pen is behind it, over the same output
pub record Writes (text : List ℕ) (before after : Pen) : Type 0 where
  pub same : after.out.ghost_name ≡ before.out.ghost_name
  pub place : after.at ≡ place_after before.at text
  pub octets : after.out.now ≡ inked before.out.now before.at text

-- an array of so many open lists, the innermost last, as a stack
unfoldable pub stack_of : List ℕ → ℕ → List ℕ
stack_of due zero = []
stack_of due (suc depth) = get_or due depth 0 ∷ stack_of due depth
