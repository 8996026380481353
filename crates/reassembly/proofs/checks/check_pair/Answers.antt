-- Each test that holds is the first of the list to hold.
use mathlib.Core.Path.{sym, ◌∙◌}
use Rattle.refusals.specs.Check.{first_of}
use Rattle.reassembly.proofs.checks.check_pair.Goals as goal

pub returns-then-is_not_open : goal.returns-then-is_not_open
unfolding first_of
returns-then-is_not_open c = rw (sym c.is_not_open.ensures ∙ c.if-is_not_open.true)

pub returns-then-is_out_of_slots : goal.returns-then-is_out_of_slots
unfolding first_of
returns-then-is_out_of_slots c = rw (sym c.is_not_open.ensures ∙ c.if-is_not_open.false, sym c.is_out_of_slots.ensures ∙ c.if-is_out_of_slots.true)

pub returns-then-is_unexpected : goal.returns-then-is_unexpected
unfolding first_of
returns-then-is_unexpected c = rw (sym c.is_not_open.ensures ∙ c.if-is_not_open.false, sym c.is_out_of_slots.ensures ∙ c.if-is_out_of_slots.false, sym c.is_unexpected.ensures ∙ c.if-is_unexpected.true)

pub returns-then-is_exhausted : goal.returns-then-is_exhausted
unfolding first_of
returns-then-is_exhausted c = rw (sym c.is_not_open.ensures ∙ c.if-is_not_open.false, sym c.is_out_of_slots.ensures ∙ c.if-is_out_of_slots.false, sym c.is_unexpected.ensures ∙ c.if-is_unexpected.false, sym c.is_exhausted.ensures ∙ c.if-is_exhausted.true)

pub returns-then-is_too_long : goal.returns-then-is_too_long
unfolding first_of
returns-then-is_too_long c = rw (sym c.is_not_open.ensures ∙ c.if-is_not_open.false, sym c.is_out_of_slots.ensures ∙ c.if-is_out_of_slots.false, sym c.is_unexpected.ensures ∙ c.if-is_unexpected.false, sym c.is_exhausted.ensures ∙ c.if-is_exhausted.false, sym c.is_too_long.ensures ∙ c.if-is_too_long.true)

pub returns : goal.returns
unfolding first_of
returns c = rw (sym c.is_not_open.ensures ∙ c.if-is_not_open.false, sym c.is_out_of_slots.ensures ∙ c.if-is_out_of_slots.false, sym c.is_unexpected.ensures ∙ c.if-is_unexpected.false, sym c.is_exhausted.ensures ∙ c.if-is_exhausted.false, sym c.is_too_long.ensures ∙ c.if-is_too_long.false)
