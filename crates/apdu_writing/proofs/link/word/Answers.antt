-- A number is one field.
-- Assumes nothing.
use Rattle.apdu_writing.proofs.Links.{word_by}
use Rattle.apdu_writing.proofs.link.word.Goals as goal

pub returns : goal.returns
returns c = word_by _ c.put.ensures
