-- `exports::link_calls::semuryeon_link_release` meets its contract: the call of the link that the words are. Assumes nothing.
use Rattle.exports.proofs.LinkCallLaws.{changes}
use Rattle.exports.proofs.LinkKept.{kept_released}
use Rattle.exports.proofs.LinkNumbers.{unpacking_release}
use Rattle.exports.proofs.link_calls.semuryeon_link_release.Goals as goal

pub returns : goal.returns
returns c = record {
  answer = rw (← c.link_in-after.ensures.answer) (changes _ _ c.release-answer.ensures.answer_is c.release-answer.ensures.link_is c.changed.ensures);
  unpacking = unpacking_release;
  kept = kept_released;
}
