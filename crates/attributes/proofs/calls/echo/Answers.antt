-- `attributes::calls::echo` meets its contract: the reply's record is sent. Assumes nothing.
use Rattle.attributes.specs.Serving.{echo_reply}
use Rattle.attributes.proofs.calls.echo.Goals as goal

pub returns : goal.returns
unfolding echo_reply
returns c = rw (← c.no_rows.ensures) c.send.ensures
