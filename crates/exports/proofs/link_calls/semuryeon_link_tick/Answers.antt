-- `exports::link_calls::semuryeon_link_tick` meets its contract: the call of the link that the words are. Assumes nothing.
use Rattle.exports.proofs.LinkCallLaws.{changes}
use Rattle.exports.proofs.LinkKept.{kept_ticked}
use Rattle.exports.proofs.LinkNumbers.{unpacking_tick}
use Rattle.exports.proofs.link_calls.semuryeon_link_tick.Goals as goal

pub returns : goal.returns
returns c = record {
  answer = rw (← c.link_in-after.ensures.answer) (changes _ _ c.tick-answer.ensures.answer_is c.tick-answer.ensures.link_is c.changed.ensures);
  unpacking = unpacking_tick;
  kept = kept_ticked;
}
