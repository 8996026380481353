-- The check 23 goes before; then the ticks decide.
-- Assumes nothing.
use Rattle.std.proofs.Common.{sym, ◌∙◌}
use Rattle.refusals.specs.Check.{first_of}
use Rattle.initialisation.specs.Link.{tick_of, changed}
use Rattle.initialisation.proofs.phases.tick.Goals as goal

pub returns-then-not-link_in_range : goal.returns-then-not-link_in_range
unfolding tick_of changed first_of
returns-then-not-link_in_range c =
    let u = sym c.link_in_range.ensures ∙ c.if-not-link_in_range.true in
    record { answer_is = rw u; link_is = rw u }

pub returns-then-is_asleep : goal.returns-then-is_asleep
unfolding tick_of changed first_of
returns-then-is_asleep c =
    let u = sym c.link_in_range.ensures ∙ c.if-not-link_in_range.false in
    let v = sym c.is_asleep.ensures ∙ c.if-is_asleep.true in
    record { answer_is = rw u; link_is = rw (u, v) }

pub returns-else-is_asleep : goal.returns-else-is_asleep
unfolding tick_of changed first_of
returns-else-is_asleep c =
    let u = sym c.link_in_range.ensures ∙ c.if-not-link_in_range.false in
    let v = sym c.is_asleep.ensures ∙ c.if-is_asleep.false in
    record { answer_is = rw u; link_is = rw (u, v) }
