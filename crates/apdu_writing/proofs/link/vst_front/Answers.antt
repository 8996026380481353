-- The choice with the fill, and the profile.
-- Assumes nothing.
use Rattle.std.proofs.Math.Nat.{mod-eq_of_lt}
use Rattle.apdu_writing.proofs.Links.{vst_front_law}
use Rattle.apdu_writing.proofs.link.vst_front.Goals as goal

pub returns : goal.returns
returns c = vst_front_law c.args.m mod-eq_of_lt c.put-d.ensures c.number-quill.ensures
