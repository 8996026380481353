use native.Mathlib.Nat.{le_antisymm}
use Rattle.apdu_reading.proofs.Strings.{ids_none, ids_more, list_by}
use Rattle.apdu_reading.proofs.component.id_list.Goals as goal

pub loop-init : goal.loop-init
loop-init c = ids_none _ _

pub loop-preserved : goal.loop-preserved
loop-preserved c = ids_more _ _ _ c.loop.invariant c.integer-e.ensures.0

pub returns : goal.returns
returns c = list_by _ _ c.count-d.ensures.0 _ c.loop.invariant (le_antisymm c.loop.auto.counter-end c.loop-test.false) c.marked.ensures c.count-d.ensures.2
