-- The checks 3, 23 and 25 go before; then the phase is looking.
-- Assumes nothing.
use Rattle.std.proofs.Common.{sym, ◌∙◌}
use Rattle.refusals.specs.Check.{first_of}
use Rattle.initialisation.specs.Link.{release_of, changed}
use Rattle.initialisation.proofs.phases.release.Goals as goal

pub returns-then-not-lid_in_range : goal.returns-then-not-lid_in_range
unfolding release_of changed first_of
returns-then-not-lid_in_range c =
    let u = sym c.lid_in_range.ensures ∙ c.if-not-lid_in_range.true in
    record { answer_is = rw u; link_is = rw u }

pub returns-then-not-link_in_range : goal.returns-then-not-link_in_range
unfolding release_of changed first_of
returns-then-not-link_in_range c =
    let u = sym c.lid_in_range.ensures ∙ c.if-not-lid_in_range.false in
    let v = sym c.link_in_range.ensures ∙ c.if-not-link_in_range.true in
    record { answer_is = rw (u, v); link_is = rw (u, v) }

pub returns-then-not-is_ready_under : goal.returns-then-not-is_ready_under
unfolding release_of changed first_of
returns-then-not-is_ready_under c =
    let u = sym c.lid_in_range.ensures ∙ c.if-not-lid_in_range.false in
    let v = sym c.link_in_range.ensures ∙ c.if-not-link_in_range.false in
    let w = sym c.is_ready_under.ensures ∙ c.if-not-is_ready_under.true in
    record { answer_is = rw (u, v, w); link_is = rw (u, v, w) }

pub returns : goal.returns
unfolding release_of changed first_of
returns c =
    let u = sym c.lid_in_range.ensures ∙ c.if-not-lid_in_range.false in
    let v = sym c.link_in_range.ensures ∙ c.if-not-link_in_range.false in
    let w = sym c.is_ready_under.ensures ∙ c.if-not-is_ready_under.false in
    record { answer_is = rw (u, v, w); link_is = rw (u, v, w) }
