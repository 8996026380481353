use Rattle.std.proofs.Common.{◌∙◌}
use Rattle.words.proofs.Words.{narrowed}
use Rattle.words.proofs.word.narrow.Goals as goal

pub returns : goal.returns
returns c = c.unwrap_or.ensures ∙ narrowed 8 c.args.x c.try_from.result c.try_from.ensures
