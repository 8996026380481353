-- `exports::messages::semuryeon_check` meets its contract: what it packs is the outcome that the record stands for. Assumes nothing.
use Rattle.exports.proofs.MessageLaws.{checked_is}
use Rattle.exports.proofs.ReadingBack.{unpacking_check}
use mathlib.Core.Path.{◌∙◌}
use Rattle.exports.proofs.messages.semuryeon_check.Goals as goal

pub returns : goal.returns
returns c = record { answer = c.checked.ensures ∙ checked_is _ _ c.read.ensures.answer.outcome; unpacking = unpacking_check }
