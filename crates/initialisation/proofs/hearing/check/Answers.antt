-- Each test is the next check.
-- Assumes nothing.
use Rattle.std.proofs.Common.{sym, ◌∙◌, le-ltb, lt-ltb}
use Rattle.refusals.specs.Check.{first_of}
use Rattle.initialisation.proofs.hearing.check.Goals as goal

pub returns-then-octets-lt-LEAST_OUTPUT : goal.returns-then-octets-lt-LEAST_OUTPUT
unfolding first_of
returns-then-octets-lt-LEAST_OUTPUT c = rw (lt-ltb _ _ c.if-octets-lt-LEAST_OUTPUT.true)

pub returns-then-not-lid_in_range : goal.returns-then-not-lid_in_range
unfolding first_of
returns-then-not-lid_in_range c = rw (le-ltb _ _ c.if-octets-lt-LEAST_OUTPUT.false, sym c.lid_in_range.ensures ∙ c.if-not-lid_in_range.true)

pub returns-then-not-sound : goal.returns-then-not-sound
unfolding first_of
returns-then-not-sound c = rw (le-ltb _ _ c.if-octets-lt-LEAST_OUTPUT.false, sym c.lid_in_range.ensures ∙ c.if-not-lid_in_range.false, c.if-not-sound.true)

pub returns-then-not-fine : goal.returns-then-not-fine
unfolding first_of
returns-then-not-fine c = rw (le-ltb _ _ c.if-octets-lt-LEAST_OUTPUT.false, sym c.lid_in_range.ensures ∙ c.if-not-lid_in_range.false, c.if-not-sound.false, c.if-not-fine.true)

pub returns : goal.returns
unfolding first_of
returns c = rw (le-ltb _ _ c.if-octets-lt-LEAST_OUTPUT.false, sym c.lid_in_range.ensures ∙ c.if-not-lid_in_range.false, c.if-not-sound.false, c.if-not-fine.false)
