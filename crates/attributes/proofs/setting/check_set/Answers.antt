-- The eid, then the attributes.
use Rattle.attributes.proofs.Outcomes.{set_eid, set_each}
use Rattle.attributes.proofs.setting.check_set.Goals as goal

pub returns-then-m-eid : goal.returns-then-m-eid
returns-then-m-eid c = set_eid _ _ _ _ _ _ c.if-m-eid.true

pub check_attributes-requires : goal.check_attributes-requires
check_attributes-requires c = (c.requires.0.few, c.requires.1)

pub returns : goal.returns
returns c = set_each _ _ _ _ _ _ c.if-m-eid.false c.are_exact-exact.ensures c.check_attributes.ensures
