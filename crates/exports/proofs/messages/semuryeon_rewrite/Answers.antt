-- `exports::messages::semuryeon_rewrite` meets its contract: it packs what rewriting answers. Assumes nothing.
use Rattle.exports.specs.Messages.{written_number}
use Rattle.exports.proofs.ReadingBack.{unpacking_rewritten}
use mathlib.Core.Path.{ap, ◌∙◌}
use Rattle.exports.proofs.messages.semuryeon_rewrite.Goals as goal

pub returns : goal.returns
returns c =
    let e = c.rewrite.ensures.answer in
    record { answer = (c.rewritten.ensures ∙ ap written_number e.0, e.1); unpacking = unpacking_rewritten }
