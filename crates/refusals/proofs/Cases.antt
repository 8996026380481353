-- Every case holds: both sides compute to the same list.
-- Assumes nothing.
use mathlib.Core.Path.{refl}
use Rattle.refusals.specs.Check.{first_of, decided}
use Rattle.refusals.specs.CheckCases.{check_cases, CheckCasesHold}

pub check_cases_hold : CheckCasesHold
unfolding CheckCasesHold check_cases first_of decided
check_cases_hold = refl
