-- The kind decides.
-- Assumes nothing.
use borrow.Author.Tests.{eq-eqb, ne_eqb}
use Rattle.apdu.proofs.due.announces.Goals as goal

pub returns-then-kind-eq-ATTRIBUTE_LIST : goal.returns-then-kind-eq-ATTRIBUTE_LIST
returns-then-kind-eq-ATTRIBUTE_LIST c = simp (eq-eqb _ _ c.if-kind-eq-ATTRIBUTE_LIST.true)

pub returns-else-kind-eq-ATTRIBUTE_LIST : goal.returns-else-kind-eq-ATTRIBUTE_LIST
returns-else-kind-eq-ATTRIBUTE_LIST c = simp (ne_eqb _ _ c.if-kind-eq-ATTRIBUTE_LIST.false)
