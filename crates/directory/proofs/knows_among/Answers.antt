use Rattle.std.proofs.Common.{refl}
use Rattle.directory.proofs.Looking.{too_many, unsound_answer}
use Rattle.directory.proofs.knows_among.Goals as goal

pub returns-in-None : goal.returns-in-None
returns-in-None c = unsound_answer _ _ _ c.args.id (too_many _ _ (record { rows = c.args.rows; count = c.args.count }) c.in-None.ensures) refl
