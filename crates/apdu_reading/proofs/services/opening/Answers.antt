-- By the choice.
-- Assumes nothing.
use Rattle.apdu_reading.proofs.services.opening.Goals as goal

pub returns-in-0 : goal.returns-in-0
returns-in-0 c = c.request.ensures

pub returns-in-1 : goal.returns-in-1
returns-in-1 c = c.action_response.ensures

pub returns-in-4 : goal.returns-in-4
returns-in-4 c = c.set_request.ensures

pub returns-in-6 : goal.returns-in-6
returns-in-6 c = c.get_request.ensures

pub returns-in-7 : goal.returns-in-7
returns-in-7 c = c.get_response.ensures

pub returns-in_default : goal.returns-in_default
returns-in_default c = c.response.ensures
