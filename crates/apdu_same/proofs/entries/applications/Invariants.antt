-- The loop compares entry by entry: what is left to compare after i entries is what was to compare.
-- Assumes nothing.
use Prim.Native.Nat.{◌≤◌, ◌+◌, ◌*◌}
use mathlib.Core.Path.{◌≡◌}
use lib.ListN.{length, take, drop}
use Rattle.apdu_same.specs.Walk.{same_entries}
use Rattle.apdu_same.proofs.EntryLists.{EntriesLeft}
use Rattle.apdu_same.proofs.entries.applications.Given as goal

abbrev pub invariant-loop-i : goal.invariant-loop-i
invariant-loop-i l =
    (l.k ≡ length (take l.n (drop l.from l.list))) × (l.k ≡ length (take l.n (drop l.from l.other))) × (l.used ≤ l.initial.used + 255 * l.i) × (l.gone ≤ l.initial.gone + 255 * l.i)
    × (same_entries l.s (take l.n (drop l.from l.list)) (drop l.initial.used l.table) l.t (take l.n (drop l.from l.other)) (drop l.initial.gone l.others)
    ≡ EntriesLeft l.s (take l.n (drop l.from l.list)) l.table l.t (take l.n (drop l.from l.other)) l.others l.i l.used l.gone)
