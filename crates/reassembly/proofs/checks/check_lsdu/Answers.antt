-- Each test that holds is the first of the list to hold.
use Rattle.std.proofs.Common.{rules}
use Rattle.refusals.specs.Check.{first_of}
use Rattle.reassembly.proofs.checks.check_lsdu.Goals as goal

pub returns-then-store-ne-STORE_OCTETS : goal.returns-then-store-ne-STORE_OCTETS
unfolding first_of
returns-then-store-ne-STORE_OCTETS c = search rules

pub returns-then-not-sound : goal.returns-then-not-sound
unfolding first_of
returns-then-not-sound c = search rules

pub returns-then-not-lid_in_range : goal.returns-then-not-lid_in_range
unfolding first_of
returns-then-not-lid_in_range c = search rules

pub returns-then-lsdu-eq0 : goal.returns-then-lsdu-eq0
unfolding first_of
returns-then-lsdu-eq0 c = search rules

pub returns : goal.returns
unfolding first_of
returns c = search rules
