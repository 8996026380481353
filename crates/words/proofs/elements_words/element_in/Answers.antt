-- `words::elements_words::element_in` meets its contract, word by word. Assumes nothing.
use Rattle.words.specs.ElementWords.{element_at}
use Rattle.words.proofs.elements_words.element_in.Goals as goal

pub returns : goal.returns
unfolding element_at
returns c = cc
