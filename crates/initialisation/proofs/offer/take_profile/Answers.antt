use Rattle.std.proofs.Common.{arith}
use Rattle.bits.proofs.Strings.{inside_le}
use Rattle.initialisation.specs.Offer.{profile_of}
use Rattle.initialisation.proofs.OfferLaws.{own_served, list_begun, list_served, list_next, list_none}
use Rattle.initialisation.proofs.offer.take_profile.Goals as goal

pub returns-then-own-le-LARGEST_PROFILE : goal.returns-then-own-le-LARGEST_PROFILE
unfolding profile_of
returns-then-own-le-LARGEST_PROFILE c = own_served _ _ _ _ c.if-own-le-LARGEST_PROFILE.true

pub loop-i-init : goal.loop-i-init
loop-i-init c = list_begun _ _ _ _ c.if-own-le-LARGEST_PROFILE.false

pub listed-next-requires : goal.listed-next-requires
listed-next-requires c = omega (arith, inside_le _ _ _ c.requires)

pub returns-then-next-le-LARGEST_PROFILE : goal.returns-then-next-le-LARGEST_PROFILE
unfolding profile_of
returns-then-next-le-LARGEST_PROFILE c = list_served _ _ _ _ c.loop-i.i c.loop-i-test.true c.listed-next.ensures c.loop-i.invariant c.if-next-le-LARGEST_PROFILE.true

pub loop-i-preserved : goal.loop-i-preserved
loop-i-preserved c = list_next _ _ _ _ c.loop-i.i c.loop-i-test.true c.listed-next.ensures c.loop-i.invariant c.if-next-le-LARGEST_PROFILE.false

pub returns : goal.returns
unfolding profile_of
returns c = list_none _ _ _ _ c.loop-i.i c.loop-i-test.false c.loop-i.invariant
