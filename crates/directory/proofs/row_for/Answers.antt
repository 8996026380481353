use native.Mathlib.Omega.{arith}
use Rattle.std.proofs.Common.{refl}
use Rattle.directory.proofs.Looking.{too_many, unsound_row}
use Rattle.directory.proofs.row_for.Goals as goal

pub returns-in-None : goal.returns-in-None
returns-in-None c = (unsound_row _ _ _ _ (too_many _ _ c.args.d c.in-None.ensures) refl, omega arith)
