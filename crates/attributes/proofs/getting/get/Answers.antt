-- A status, the values, or 3 where they are too long.
use Rattle.std.proofs.Common.{refl, sym, ◌∙◌}
use Rattle.directory.proofs.Looking.{sound_short}
use Rattle.attributes.proofs.Faults.{status_nonzero}
use Rattle.attributes.proofs.Outcomes.{get_refused, get_values, get_long}
use Rattle.attributes.proofs.getting.get.Goals as goal

pub check_get-requires : goal.check_get-requires
check_get-requires c = (c.requires.0, sound_short _ _ _ c.requires.1)

pub returns-in-Err : goal.returns-in-Err
returns-in-Err c = get_refused _ _ _ _ _ _ _ _ c.in-Err.ensures (status_nonzero c.in-Err.status) c.send_status.ensures

pub returns-then-too_long : goal.returns-then-too_long
returns-then-too_long c = get_long _ _ _ _ _ _ _ _ c.in_default.ensures refl c.send_values-answer.ensures (sym c.too_long.ensures ∙ c.if-too_long.true) c.send_status-then-too_long.ensures

pub returns : goal.returns
returns c = get_values _ _ _ _ _ _ _ _ c.in_default.ensures refl c.send_values-answer.ensures (sym c.too_long.ensures ∙ c.if-too_long.false)
