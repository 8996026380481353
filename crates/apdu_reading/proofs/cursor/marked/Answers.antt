use mathlib.Core.Path.{refl}
use Rattle.apdu_reading.specs.Cursor.{marked_at}
use Rattle.apdu_reading.proofs.cursor.marked.Goals as goal

pub returns : goal.returns
unfolding marked_at
returns c = refl
