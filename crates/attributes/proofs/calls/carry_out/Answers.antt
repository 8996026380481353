-- `attributes::calls::carry_out` meets its contract, kind by kind. Assumes nothing.
use Rattle.directory.proofs.Looking.{sound_short}
use Rattle.attributes.proofs.Ranges.{fits_set, fits_get}
use Rattle.attributes.proofs.Outcomes.{carried_echo, carried_set, carried_get, carried_none}
use Rattle.attributes.proofs.calls.carry_out.Goals as goal

pub set-requires : goal.set-requires
set-requires c = (fits_set c.requires.0 c.in-SetRequest.is, sound_short _ _ _ c.requires.1)

pub get-requires : goal.get-requires
get-requires c = (fits_get c.requires.0 c.in-GetRequest.is, c.requires.1)

pub returns-in-ActionRequest : goal.returns-in-ActionRequest
returns-in-ActionRequest c = carried_echo _ _ _ _ _ _ _ _ _ c.in-ActionRequest.is c.echo.ensures

pub returns-in-SetRequest : goal.returns-in-SetRequest
returns-in-SetRequest c = carried_set _ _ _ _ _ _ _ _ _ c.in-SetRequest.is c.set.ensures

pub returns-in-GetRequest : goal.returns-in-GetRequest
returns-in-GetRequest c = carried_get _ _ _ _ _ _ _ _ _ c.in-GetRequest.is c.get.ensures

pub returns-in_default : goal.returns-in_default
returns-in_default c = carried_none _ _ c.args.m _ _ c.in_default.not-ActionRequest c.in_default.not-SetRequest c.in_default.not-GetRequest
