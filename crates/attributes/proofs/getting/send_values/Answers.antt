-- `attributes::getting::send_values` meets its contract: what stands behind the values plays no part. Assumes nothing.
use Rattle.attributes.proofs.Sending.{sends_same}
use Rattle.attributes.proofs.ValueReply.{values_same}
use Rattle.attributes.proofs.getting.send_values.Goals as goal

pub gather_values-values-requires : goal.gather_values-values-requires
gather_values-values-requires c = (c.requires.0.few, c.requires.0.near, c.requires.1)

pub returns : goal.returns
returns c = sends_same (λ w. values_same _ _ _ c.requires.1 _ _ c.gather_values-values.ensures w _) c.send.ensures
