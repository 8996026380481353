-- No profile before i is served.
-- Assumes nothing.
use Rattle.std.proofs.Common.{◌≡◌}
use Rattle.initialisation.specs.Offer.{first_served}
use Rattle.initialisation.proofs.OfferLaws.{profiles, list_from}
use Rattle.initialisation.proofs.offer.take_profile.Given as goal

abbrev pub invariant-loop-i : goal.invariant-loop-i
invariant-loop-i l = first_served (profiles l.lent l.own l.start l.n) ≡ list_from l.lent l.own l.start l.n l.i
