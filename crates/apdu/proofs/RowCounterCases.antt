-- The cases of row counters hold: both sides compute to the same list.
-- Assumes nothing.
use mathlib.Core.Path.{refl}
use Rattle.apdu_format.specs.Rules.{times}
use Rattle.apdu.specs.RowCounters.{level_of, after_row, due_list}
use Rattle.apdu.specs.RowCounterCases.{RowCounterCasesHold}

pub row_counter_cases_hold : RowCounterCasesHold
unfolding times level_of after_row due_list
row_counter_cases_hold = refl
