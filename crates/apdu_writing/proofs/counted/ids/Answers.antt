-- `ids` writes its count, and then all ids as one string.
-- Assumes nothing.
use native.Mathlib.Omega.{arith}
use borrow.Author.Tests.{not-false}
use Rattle.apdu_writing.proofs.Counts.{ids_stopped, ids_all}
use Rattle.apdu_writing.proofs.counted.ids.Goals as goal

pub returns-then-not-d : goal.returns-then-not-d
returns-then-not-d c = ids_stopped _ _ _ c.id_count-d.ensures.0 c.if-not-d.true

pub put_octets-requires : goal.put_octets-requires
put_octets-requires c = omega (arith, c.id_count-d.ensures.1.so (not-false _ c.if-not-d.false))

pub returns : goal.returns
returns c = ids_all _ _ _ c.id_count-d.ensures.0 c.first_bits_clear-fine.ensures c.put_octets.ensures
