-- The loop has written the first i entries, and knows how many rows they use.
-- Assumes nothing.
use Prim.Native.Nat.{◌≤◌, ◌+◌, ◌*◌}
use mathlib.Core.Path.{◌≡◌}
use lib.ListN.{length, take, drop}
use Rattle.apdu_writing.proofs.EntryLists.{Turns}
use Rattle.apdu_writing.proofs.entries.applications.Given as goal

abbrev pub invariant-loop-i : goal.invariant-loop-i
invariant-loop-i l = (length l.out ≡ length l.initial.out) × (l.used ≤ l.initial.used + 255 * l.i) × Turns l.lent (take l.n (drop l.from l.list)) l.n l.table l.initial.used l.i l.used l.initial.q l.q l.initial.out l.out
