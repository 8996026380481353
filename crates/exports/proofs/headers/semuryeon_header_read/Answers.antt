-- `exports::headers::semuryeon_header_read` meets its contract: the number of what the header's reader answers. Assumes nothing.
use mathlib.Core.Path.{ap, ◌∙◌}
use Rattle.words.specs.Answer.{answer_number}
use Rattle.exports.specs.Headers.{read_number}
use Rattle.exports.proofs.HeaderLaws.{unpacking_read}
use Rattle.exports.proofs.headers.semuryeon_header_read.Goals as goal

pub returns-in-Ok : goal.returns-in-Ok
unfolding read_number
returns-in-Ok c = record {
  answer = c.packed.ensures.answer ∙ ap (answer_number _ _ _) c.size_and_mark.ensures ∙ ap read_number c.in-Ok.ensures.answer;
  unpacking = unpacking_read;
}

pub returns-in-Err : goal.returns-in-Err
unfolding read_number
returns-in-Err c = record { answer = c.refused.ensures ∙ ap read_number c.in-Err.ensures.answer; unpacking = unpacking_read }
