-- Each test is one factor of the definition.
-- Assumes nothing.
use Rattle.std.proofs.Common.{rules}
use Rattle.initialisation.specs.Hearing.{configuration_in_range}
use Rattle.initialisation.proofs.hearing.configuration_in_range.Goals as goal

pub returns-then-configuration-lt-WORD_BOUND : goal.returns-then-configuration-lt-WORD_BOUND
unfolding configuration_in_range
returns-then-configuration-lt-WORD_BOUND c = search rules

pub returns-else-configuration-lt-WORD_BOUND : goal.returns-else-configuration-lt-WORD_BOUND
unfolding configuration_in_range
returns-else-configuration-lt-WORD_BOUND c = search rules
