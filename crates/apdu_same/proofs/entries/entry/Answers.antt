-- The first octets are compared, then the eids, and then the containers.
-- Assumes nothing.
use Rattle.refusals.proofs.Tests.{and_true, and_left, and_right}
use Rattle.apdu_same.proofs.Outcomes.{same_bits, if_there, if_passed}
use Rattle.apdu_same.proofs.EntryLists.{entry_by}
use Rattle.apdu_same.proofs.entries.entry.Goals.{else-eid-via-then-eid+else-e, else-eid-via-else-eid}
use Rattle.apdu_same.proofs.entries.entry.Goals as goal

pub returns-then-e : goal.returns-then-e
returns-then-e c =
    entry_by _ _ _ _ (same_bits c.args.e.has_eid c.args.f.has_eid) (same_bits c.args.e.has_parameter c.args.f.has_parameter) c.number_if-eid.ensures
    (if_there _ _ (and_true c.if-eid.true c.if-e.true) c.head.ensures)

pub returns : goal.returns
returns c =
    entry_by _ _ _ _ (same_bits c.args.e.has_eid c.args.f.has_eid) (same_bits c.args.e.has_parameter c.args.f.has_parameter) c.number_if-eid.ensures
    (if_passed _ _ _
    (elim c.else-eid.branch [
      | else-eid-via-then-eid+else-e w ↦ and_right _ w.if-e.false
      | else-eid-via-else-eid w ↦ and_left _ w.if-eid.false
    ]))
