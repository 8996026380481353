-- No element before this one has the eid.
-- Assumes nothing.
use Rattle.std.proofs.Common.{◌≡◌, drop}
use Rattle.initialisation.specs.Elements.{none_has}
use Rattle.initialisation.proofs.elements.none_has.Given as goal

abbrev pub invariant-loop-element : goal.invariant-loop-element
invariant-loop-element l = none_has l.eid l.list ≡ none_has l.eid (drop l.element-index l.list)
