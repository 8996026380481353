use Rattle.std.proofs.Common.{rules}
use Rattle.initialisation.specs.Elements.{elements_sound}
use Rattle.initialisation.proofs.elements.elements_sound.Goals as goal

pub returns-then-own-le-MOST_ELEMENTS : goal.returns-then-own-le-MOST_ELEMENTS
unfolding elements_sound
returns-then-own-le-MOST_ELEMENTS c = search rules

pub returns-else-own-le-MOST_ELEMENTS : goal.returns-else-own-le-MOST_ELEMENTS
unfolding elements_sound
returns-else-own-le-MOST_ELEMENTS c = search rules
