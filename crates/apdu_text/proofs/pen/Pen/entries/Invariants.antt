-- The loop leaves the entries from the index on and the bracket.
-- Assumes nothing.
use mathlib.Core.Path.{◌≡◌}
use mathlib.Core.List.{[], ◌∷◌, ◌++◌}
use lib.ListN.{take, drop}
use Rattle.apdu.specs.Values.{rows_of}
use Rattle.apdu_text.specs.Parts.{entries_text}
use Rattle.apdu_text.proofs.Inking.{Leaves}
use Rattle.apdu_text.proofs.pen.Pen.entries.Given as goal

abbrev pub invariant-loop-i : goal.invariant-loop-i
invariant-loop-i l = (l.rest ≡ drop (rows_of (take l.i l.entries)) l.rows) × Leaves (entries_text l.s l.entries l.rows ++ (93 ∷ [])) l.initial.self (entries_text l.s (drop l.i l.entries) l.rest ++ (93 ∷ [])) l.self
