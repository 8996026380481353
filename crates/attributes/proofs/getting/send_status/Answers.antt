use Rattle.attributes.specs.Serving.{get_refusal}
use Rattle.attributes.proofs.getting.send_status.Goals as goal

pub returns : goal.returns
unfolding get_refusal
returns c = rw (← c.no_rows.ensures, ← c.from.ensures) c.send.ensures
