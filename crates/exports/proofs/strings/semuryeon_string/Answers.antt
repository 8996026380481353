-- `exports::strings::semuryeon_string` meets its contract, for the record that reading makes. Assumes nothing.
use Rattle.exports.proofs.StringLaws.{string_refused, string_given}
use Rattle.exports.proofs.StringInside.{each_string}
use Rattle.exports.proofs.strings.semuryeon_string.Goals as goal

pub returns-in-Refused : goal.returns-in-Refused
returns-in-Refused c = record { answer = string_refused _ _ _ _ c.read-reading.ensures.answer _ _ c.in-Refused.is c.packed.ensures.answer; inside = each_string }

pub returns-in-Message : goal.returns-in-Message
returns-in-Message c = record { answer = string_given _ _ _ _ c.read-reading.ensures.answer _ c.in-Message.is c.part_of.ensures c.give.ensures; inside = each_string }
