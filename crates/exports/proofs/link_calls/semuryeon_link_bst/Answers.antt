-- `exports::link_calls::semuryeon_link_bst` meets its contract, for the record that reading makes. Assumes nothing.
use Rattle.exports.proofs.LinkCallLaws.{bst_refused, bst_other, bst_heard}
use Rattle.exports.proofs.LinkKept.{kept_heard}
use Rattle.exports.proofs.LinkNumbers.{unpacking_bst}
use Rattle.exports.proofs.link_calls.semuryeon_link_bst.Goals as goal

pub returns-in-Refused : goal.returns-in-Refused
returns-in-Refused c = record {
  answer = bst_refused _ _ _ c.read-reading.ensures.answer _ _ c.in-Refused.is c.packed.ensures.answer;
  unpacking = unpacking_bst;
  kept = kept_heard;
}

pub returns-in-Bst : goal.returns-in-Bst
returns-in-Bst c = record {
  answer =
      rw (← c.from.ensures, ← c.from-in-Bst.ensures, ← c.from-in-Bst-2.ensures)
      (bst_heard _ _ _ c.read-reading.ensures.answer _ _ c.in-Message.is c.in-Bst.is c.hear.ensures);
  unpacking = unpacking_bst;
  kept = kept_heard;
}

pub returns-in_default : goal.returns-in_default
returns-in_default c = record {
  answer = bst_other _ _ _ c.read-reading.ensures.answer _ c.in-Message.is c.in_default.not-Bst c.refused.ensures;
  unpacking = unpacking_bst;
  kept = kept_heard;
}
