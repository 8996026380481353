-- The next list is the first, or the second and the last.
-- Assumes nothing.
use mathlib.Core.Path.{◌≡◌}
use lib.ListN.{length}
use Rattle.apdu.specs.Values.{bit_of}
use Rattle.apdu_writing.proofs.EntryLists.{Stage}
use Rattle.apdu_writing.proofs.link.entry_lists.Given as goal

abbrev pub invariant-loop-q : goal.invariant-loop-q
invariant-loop-q l = (length l.out ≡ length l.initial.out) × Stage l.lent l.list l.n l.p l.k l.table l.initial.q l.initial.out l.more l.from l.count l.used l.q l.out

abbrev pub decreases-loop-q : goal.decreases-loop-q
decreases-loop-q l = bit_of l.more
