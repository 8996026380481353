-- `words::directory_words::row_in` meets its contract, word by word. Assumes nothing.
use Rattle.words.specs.RowWords.{row_at}
use Rattle.words.proofs.directory_words.row_in.Goals as goal

pub returns : goal.returns
unfolding row_at
returns c = cc
