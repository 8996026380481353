-- No application before this one, and for it no element before this one, makes a pair.
-- Assumes nothing.
use Rattle.std.proofs.Common.{◌≡◌, drop}
use Rattle.std.specs.Prelude.{None}
use Rattle.initialisation.specs.Offer.{element_of, pair_of}
use Rattle.initialisation.proofs.offer.take_pair.Given as goal

abbrev pub invariant-loop-element : goal.invariant-loop-element
invariant-loop-element l = (l.taken ≡ None) × (element_of l.entry.aid l.list ≡ element_of l.entry.aid (drop l.element-index l.list))

abbrev pub invariant-search : goal.invariant-search
invariant-search l = (l.taken ≡ None) × (pair_of l.offered l.list ≡ pair_of (drop l.entry-index l.offered) l.list)
