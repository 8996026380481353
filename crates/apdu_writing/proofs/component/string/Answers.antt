-- `string` writes its form, its length and its octets one after the other.
-- Assumes nothing.
use native.Mathlib.Omega.{arith}
use Rattle.apdu_writing.proofs.Components.{string_by, string_stopped, short_by}
use Rattle.apdu_writing.proofs.component.string.Goals as goal

pub returns-then-not-length : goal.returns-then-not-length
returns-then-not-length c = string_stopped _ _ _ c.put-length.ensures c.if-not-length.true

pub put_octets-requires : goal.put_octets-requires
put_octets-requires c = omega (arith, short_by {n = c.args.n} c.put-length.ensures c.if-not-length.false)

pub returns : goal.returns
returns c = string_by _ _ _ c.put-length.ensures c.put_octets.ensures
