-- `attributes::calls::request_in` meets its contract: 1, 26, reading's refusals, 24, or the request is carried out. Assumes nothing.
use mathlib.Core.Path.{sym, ◌∙◌}
use borrow.Author.Tests.{not-false}
use Rattle.attributes.proofs.Ranges.{read_fits}
use Rattle.attributes.proofs.Outcomes.{answered_1, answered_26, answered_read, answered_24, answered_served}
use Rattle.attributes.proofs.calls.request_in.Goals as goal

pub returns-then-out-lt-LEAST_OUTPUT : goal.returns-then-out-lt-LEAST_OUTPUT
returns-then-out-lt-LEAST_OUTPUT c = answered_1 _ _ _ _ c.read-reading.ensures.answer c.if-out-lt-LEAST_OUTPUT.true

pub returns-then-not-sound_in : goal.returns-then-not-sound_in
returns-then-not-sound_in c = answered_26 _ _ _ _ c.read-reading.ensures.answer c.if-out-lt-LEAST_OUTPUT.false c.sound_in.ensures c.if-not-sound_in.true-raw

pub returns-then-not-is_served : goal.returns-then-not-is_served
returns-then-not-is_served c = answered_24 _ _ _ _ c.read-reading.ensures.answer c.if-out-lt-LEAST_OUTPUT.false c.sound_in.ensures c.if-not-sound_in.false-raw c.in-Message.is c.is_served.ensures c.if-not-is_served.true-raw

pub carry_out-requires : goal.carry_out-requires
carry_out-requires c = (read_fits _ _ c.read-reading.ensures.answer c.in-Message.is, sym c.sound_in.ensures ∙ not-false _ c.if-not-sound_in.false-raw)

pub returns-in-Refused : goal.returns-in-Refused
returns-in-Refused c = answered_read _ _ _ _ c.read-reading.ensures.answer c.if-out-lt-LEAST_OUTPUT.false c.sound_in.ensures c.if-not-sound_in.false-raw c.in-Refused.is

pub returns-else-not-is_served : goal.returns-else-not-is_served
returns-else-not-is_served c = answered_served _ _ _ _ c.read-reading.ensures.answer c.if-out-lt-LEAST_OUTPUT.false c.sound_in.ensures c.if-not-sound_in.false-raw c.in-Message.is c.is_served.ensures c.if-not-is_served.false-raw _ c.carry_out.ensures
