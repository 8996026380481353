-- `spend` takes off what is there.
-- Assumes nothing.
use Rattle.std.proofs.Common.{rules}
use Rattle.apdu_writing.specs.Quill.{spent}
use Rattle.apdu_writing.proofs.quill.spend.Goals as goal

pub returns : goal.returns
unfolding spent
returns c = search rules
