-- Each test is one factor of the definition.
-- Assumes nothing.
use Rattle.std.proofs.Common.{rules}
use Rattle.initialisation.specs.Elements.{element_sound}
use Rattle.initialisation.proofs.elements.element_sound.Goals as goal

pub returns-then-element-le-LONGEST_MARK : goal.returns-then-element-le-LONGEST_MARK
unfolding element_sound
returns-then-element-le-LONGEST_MARK c = search rules

pub returns-else-element-le-LONGEST_MARK : goal.returns-else-element-le-LONGEST_MARK
unfolding element_sound
returns-else-element-le-LONGEST_MARK c = search rules
