-- `exports::fragments::swept` meets its contract, case by case. Assumes nothing.
use mathlib.Core.Path.{refl}
use Rattle.exports.specs.Fragments.{sweep_number}
use Rattle.exports.specs.Putting.{kept_table}
use Rattle.exports.proofs.fragments.swept.Goals as goal

pub returns-in-Ok : goal.returns-in-Ok
unfolding sweep_number kept_table
returns-in-Ok c = rw c.in-Ok.is (record { number_is = c.packed.ensures.answer; words_are = c.put_table.ensures.answer })

pub returns-in-Err : goal.returns-in-Err
unfolding sweep_number kept_table
returns-in-Err c = rw c.in-Err.is (record { number_is = c.refused.ensures; words_are = refl })
