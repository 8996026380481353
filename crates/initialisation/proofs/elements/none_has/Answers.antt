use Rattle.std.proofs.Common.{sym, ◌∙◌}
use Rattle.initialisation.proofs.ElementLaws.{has_it, has_next, has_none}
use Rattle.initialisation.proofs.elements.none_has.Goals as goal

pub returns-then-element-eid : goal.returns-then-element-eid
returns-then-element-eid c = sym (c.loop-element.invariant ∙ has_it _ _ _ c.loop-element-test.true c.if-element-eid.true)

pub loop-element-preserved : goal.loop-element-preserved
loop-element-preserved c = c.loop-element.invariant ∙ has_next _ _ _ c.loop-element-test.true c.if-element-eid.false

pub returns : goal.returns
returns c = sym (c.loop-element.invariant ∙ has_none _ _ _ c.loop-element-test.false)
